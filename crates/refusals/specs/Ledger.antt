-- What a refusal says of a call that is lent the ledger only.
use Rattle.std.specs.Prelude.{ℕ, ◌≡◌, List}
use Rattle.formats.specs.declared.head.Pair.{Pair}
use Rattle.requests.specs.declared.request.Request.{Request}
use Rattle.calls.specs.Buffers.{buffers_of}
use Rattle.calls.specs.Perform.{refusal}

-- "Register is lent the ledger only.": its number is r, whatever the card is and of which pair
abbrev pub RefusedByLedger : Request → List ℕ → ℕ → Type 0
RefusedByLedger k ledger r = (pair : Pair) (titles rules : List ℕ) → r ≡ refusal pair k (buffers_of ledger titles rules)
