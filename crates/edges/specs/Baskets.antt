-- Baskets that are read from bytes and committed.
use Rattle.std.specs.Prelude.{ℕ, zero, suc, ◌<◌, ◌≡◌, List, Some, map, length, get_or}
use Rattle.formats.specs.declared.head.Pair.{Pair}
use Rattle.requests.specs.Request.{RequestRead, Read, Refused, read_request, remainder_of}
use Rattle.requests.specs.declared.request.Request.{Request}
use Rattle.calls.specs.Buffers.{Buffers}
use Rattle.calls.specs.Preview.{perform_all}

-- what is unread of s after n readings; where no request can be read, it stays
unfoldable pub unread : ℕ → List ℕ → List ℕ
unread zero s = s
unread (suc n) s = remainder_of (unread n s) (read_request (unread n s))

-- the request that was read, or this one
abbrev pub request_or : Request → RequestRead → Request
request_or spare (Read q k) = q
request_or spare (Refused w) = spare

-- the places of a basket have the requests of s, one after another, and `spare` where none can be read
pub record BasketOf (s : List ℕ) (spare : Request) (basket : List Request) : Type 0 where
  pub sixteen : length basket ≡ 16
  pub each : (i : ℕ) → i < 16 → get_or basket i spare ≡ request_or spare (read_request (unread i s))

-- what requests leave that are carried out one after another
abbrev pub committed : Pair → List Request → Buffers → Buffers
committed pair requests b = (perform_all pair (map Some requests) b).buffers
