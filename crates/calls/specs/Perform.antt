-- A call of a pair on the buffers: its answer, and the buffers after it.
use Rattle.std.specs.Prelude.{ℕ, ◌≡◌, List, [], ◌∷◌, cond, eqb, length}
use Rattle.formats.specs.Bytes.{Bytes}
use Rattle.formats.specs.declared.head.Pair.{Pair}
use Rattle.requests.specs.declared.request.Request.{Request}
use Rattle.requests.specs.declared.request.Request.TheVariants.{Register, Record, CheckOut, CheckIn, MoveOut, MoveIn, Delete}
use Rattle.calls.specs.Buffers.{Buffers}
use Rattle.calls.specs.Refusal.{first, RefusedFirst}
use Rattle.calls.specs.Conditions.{conditions}
use Rattle.calls.specs.Effect.{effect}

-- an answer, and the buffers after it
pub record Performed : Type 0 where
  pub answer : ℕ
  pub buffers : Buffers

-- the number of the first condition that holds, or 0
unfoldable pub refusal : Pair → Request → Buffers → ℕ
refusal pair k b = first (conditions pair k b)

-- "A refusal changes no byte of any buffer."
unfoldable pub perform : Pair → Request → Buffers → Performed
perform pair k b = record { answer = refusal pair k b; buffers = cond (eqb (refusal pair k b) 0) (effect k b) b }

-- the numbers that each call can be answered with, "in number order over what it takes"
abbrev pub checked : Request → List ℕ
checked (Register c f) = 4 ∷ 6 ∷ 7 ∷ 11 ∷ []
checked (Record c j f h) = 4 ∷ 5 ∷ 6 ∷ 7 ∷ 8 ∷ 9 ∷ 10 ∷ 11 ∷ []
checked (CheckOut c j) = 4 ∷ 5 ∷ 7 ∷ 8 ∷ 9 ∷ 10 ∷ 11 ∷ 12 ∷ []
checked (CheckIn j f1) = 5 ∷ 7 ∷ 8 ∷ 9 ∷ 10 ∷ 11 ∷ 15 ∷ 16 ∷ []
checked (MoveOut j h f) = 5 ∷ 7 ∷ 8 ∷ 9 ∷ 10 ∷ 11 ∷ 12 ∷ 13 ∷ 16 ∷ []
checked (MoveIn c j h) = 4 ∷ 5 ∷ 7 ∷ 8 ∷ 9 ∷ 10 ∷ 11 ∷ 12 ∷ 14 ∷ []
checked (Delete j f) = 5 ∷ 7 ∷ 8 ∷ 9 ∷ 10 ∷ 11 ∷ 16 ∷ []

-- the three buffers hold bytes
pub record AreBytes (b : Buffers) : Type 0 where
  pub ledger : Bytes b.ledger
  pub titles : Bytes b.titles
  pub rules : Bytes b.rules

-- each of three buffers is as long as that of three others
pub record SameLengths (b other : Buffers) : Type 0 where
  pub ledger : length other.ledger ≡ length b.ledger
  pub titles : length other.titles ≡ length b.titles
  pub rules : length other.rules ≡ length b.rules

-- "and each one ends in bounds": every buffer keeps its length, and what holds bytes holds bytes
pub record InBounds (b after : Buffers) : Type 0 where
  pub same_lengths : SameLengths b after
  pub stay_bytes : AreBytes b → AreBytes after

-- DEMAND 1, of every call on tables of either pair and on all buffers, damaged ones included
abbrev pub Demand1Calls : Type 0
Demand1Calls =
    (pair : Pair) (k : Request) (b : Buffers)
    → RefusedFirst Buffers (checked k) (conditions pair k b) (perform pair k b).answer b (perform pair k b).buffers (effect k b)
    × InBounds b (perform pair k b).buffers
