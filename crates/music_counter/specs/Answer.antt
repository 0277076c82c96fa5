-- What a call in code promises: "the answer, and every byte lent to it afterwards", for refused calls as well.
use Rattle.std.specs.Prelude.{ℕ, ◌+◌, ◌*◌, ◌≤◌, ◌≡◌, List, length, Option, None, Some}
use Rattle.formats.specs.declared.head.Pair.{Pair}
use Rattle.requests.specs.declared.request.Request.{Request}
use Rattle.calls.specs.Buffers.{Buffers, buffers_of}
use Rattle.calls.specs.Perform.{perform}
use Rattle.calls.specs.Untouched.{row_written, title_written, rule_written}

-- the call k of a pair, lent the buffers b, has answered r and left `after`: both are what `perform` says
abbrev pub Answers : Pair → Request → Buffers → ℕ → Buffers → Type 0
Answers pair k b r after = record { answer = r; buffers = after } ≡ perform pair k b

-- "Register is lent the ledger only.": the same whatever the card is, and of which pair
abbrev pub AnswersByLedger : Request → List ℕ → ℕ → List ℕ → Type 0
AnswersByLedger k ledger r after =
    (pair : Pair) (titles rules : List ℕ) → Answers pair k (buffers_of ledger titles rules) r (buffers_of after titles rules)

-- slot i of a table of slots of one width lies in it, where a slot is named
abbrev pub SlotInside : ℕ → Option ℕ → List ℕ → Type 0
SlotInside width None table = Unit {0}
SlotInside width (Some i) table = width * i + width ≤ length table

-- the row and the halves that a call writes lie in their tables: what its effect in code asks for
pub record Inside (k : Request) (b : Buffers) : Type 0 where
  pub row : SlotInside 24 (row_written k b) b.ledger
  pub title : SlotInside 16 (title_written k) b.titles
  pub rule : SlotInside 32 (rule_written k b) b.rules
