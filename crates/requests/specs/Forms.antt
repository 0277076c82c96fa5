-- What is promised of the written forms of numbers and requests.
use Rattle.std.specs.Prelude.{ℕ, ◌^◌, ◌≤◌, ◌<◌, ◌≡◌, ◌⊎◌, List, ◌++◌, true, length, take, get_or}
use Rattle.formats.specs.Bytes.{Bytes}
use Rattle.requests.specs.Number.{Number, Refused as NoNumber, groups, read_groups, read_number}
use Rattle.std.specs.Int.{leading_zeros, w64}
use Rattle.requests.specs.declared.number.TheConstants.{LENGTHS}
use Rattle.requests.specs.Request.{Read, Refused, values_of, written, limit_of, read_request}
use Rattle.requests.specs.declared.request.Request.{Request}

-- "The group-of-seven law is to be shown for any count of groups, not per length."
pub record GroupsOfSeven : Type 0 where
  pub are_bytes : (n : ℕ) → Bytes (groups n)
  -- the groups of a number, with anything after them, are read as that number and exactly its groups
  pub reading_undoes_writing : (n : ℕ) (rest : List ℕ) → read_groups true (groups n ++ rest) ≡ Number n (length (groups n))
  -- bytes that are read as a number are its groups
  pub only_written : (s : List ℕ) (v k : ℕ) → Bytes s → read_groups true s ≡ Number v k → take k s ≡ groups v

-- the same of the numbers that a request may have, and "2 a number .. above 2^64 - 1"
pub record NumberForm : Type 0 where
  pub reading_undoes_writing : (n : ℕ) (rest : List ℕ) → n < 2 ^ 64 → read_number (groups n ++ rest) ≡ Number n (length (groups n))
  pub above_refused : (n : ℕ) (rest : List ℕ) → 2 ^ 64 ≤ n → read_number (groups n ++ rest) ≡ NoNumber 2
  pub only_written : (s : List ℕ) (v k : ℕ) → Bytes s → read_number s ≡ Number v k → (take k s ≡ groups v) × (v < 2 ^ 64)

-- the first n bytes of s are there and have the top bit set, so that another group is to follow each of them
abbrev pub TopBits : ℕ → List ℕ → Type 0
TopBits n s = (i : ℕ) → i < n → 128 ≤ get_or s i 0

-- "1 request bytes end inside a request": every byte has the top bit set, and there is no tenth
pub record EndsInside (s : List ℕ) : Type 0 where
  pub no_tenth : length s < 10
  pub all_before : TopBits (length s) s

-- "2 a number not in shortest form": its last group is 0 and not the only one
pub record NotShortest (s : List ℕ) : Type 0 where
  pub last : ℕ
  pub not_only : 0 < last
  pub there : last < length s
  pub all_before : TopBits last s
  pub is_zero : get_or s last 0 ≡ 0

-- "2 a number .. above 2^64 - 1": "A tenth byte other than 01h is 2, and nothing after it counts"
pub record TooLarge (s : List ℕ) : Type 0 where
  pub there : 9 < length s
  pub all_before : TopBits 9 s
  pub not_one : get_or s 9 0 ≡ 1 → ⊥

-- some number is read at the front of s
pub record IsRead (s : List ℕ) : Type 0 where
  pub value : ℕ
  pub count : ℕ
  pub is : read_number s ≡ Number value count

-- a number is refused with 1 and with 2 exactly where the paper says, and is read everywhere else; of any list, bytes or not
pub record NumberRefused : Type 0 where
  pub ends_inside : (s : List ℕ) → EndsInside s → read_number s ≡ NoNumber 1
  pub only_ends_inside : (s : List ℕ) → read_number s ≡ NoNumber 1 → EndsInside s
  pub not_shortest : (s : List ℕ) → NotShortest s → read_number s ≡ NoNumber 2
  pub too_large : (s : List ℕ) → TooLarge s → read_number s ≡ NoNumber 2
  pub only_these : (s : List ℕ) → read_number s ≡ NoNumber 2 → NotShortest s ⊎ TooLarge s
  pub read_else : (s : List ℕ) → (EndsInside s → ⊥) → (NotShortest s → ⊥) → (TooLarge s → ⊥) → IsRead s

-- "take it from a table of 65 lengths chosen by the count of leading zeros. Zero has length 1; every number gets the length of its
-- written form" (document 02): of the table in the code
pub record LengthsFromTable : Type 0 where
  pub size : length LENGTHS ≡ 65
  pub zero : length (groups 0) ≡ 1
  pub by_leading_zeros : (n : ℕ) → n < 2 ^ 64 → get_or LENGTHS (leading_zeros w64 n) 0 ≡ length (groups n)

-- every value is a 64-bit number
abbrev pub Below : List ℕ → Type 0
Below vs = (i : ℕ) → get_or vs i 0 < 2 ^ 64

-- demand 2: "Each request has one written form; reading it back yields that request."
pub record RequestForm : Type 0 where
  -- a request within its limits is written, with anything after it, and read as that request and exactly its bytes
  pub reading_undoes_writing : (q : Request) (rest : List ℕ) → limit_of q ≡ 0 → Below (values_of q) → read_request (written q ++ rest) ≡ Read q (length (written q))
  -- bytes that are read as a request are its written form, and the request is within its limits
  pub only_written : (s : List ℕ) (q : Request) (k : ℕ) → Bytes s → read_request s ≡ Read q k → (take k s ≡ written q) × (limit_of q ≡ 0) × Below (values_of q)
  -- whatever follows a request that was read, it is read
  pub read_stays : (s rest : List ℕ) (q : Request) (k : ℕ) → read_request s ≡ Read q k → read_request (s ++ rest) ≡ Read q k
  -- nothing past the first fault counts: a refusal stays, unless it is that the bytes end
  pub refused_stays : (s rest : List ℕ) (w : ℕ) → read_request s ≡ Refused w → (w ≡ 1 → ⊥) → read_request (s ++ rest) ≡ Refused w
  -- no request within its limits is longer than 53 bytes
  pub at_most_53 : (q : Request) → limit_of q ≡ 0 → Below (values_of q) → length (written q) ≤ 53
