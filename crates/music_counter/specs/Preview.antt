-- What a preview in code promises, and what performing does that is given as a request: the answer, and every byte lent, refused or done.
use Rattle.std.specs.Prelude.{ℕ, ◌≡◌, List, Option}
use Rattle.formats.specs.declared.head.Pair.{Pair}
use Rattle.requests.specs.declared.request.Request.{Request}
use Rattle.calls.specs.Buffers.{Buffers}
use Rattle.calls.specs.Preview.{perform_given, preview}

-- what is given as a request, as a call of a pair, lent the buffers b, has answered r and left `after`: both are what `perform_given` says
abbrev pub AnswersGiven : Pair → Option Request → Buffers → ℕ → Buffers → Type 0
AnswersGiven pair g b r after = record { answer = r; buffers = after } ≡ perform_given pair g b

-- the preview of a basket, lent the buffers b, scratch buffers and places, has answered r and left those scratch buffers and places: all
-- three are what `preview` says
abbrev pub AnswersPreview : Pair → List (Option Request) → ℕ → Buffers → Buffers → List ℕ → ℕ → Buffers → List ℕ → Type 0
AnswersPreview pair basket count b scratch places r scratch' places' =
    record { answer = r; answers = places'; scratch = scratch' } ≡ preview pair basket count b scratch places
