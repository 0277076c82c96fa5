-- Refusals in stages, as the calls test them.
-- Assumes nothing.
use Prim.Native.Nat.{ℕ}
use mathlib.Core.Path.{◌≡◌, refl, sym, ap, ◌∙◌}
use mathlib.Core.Logic.{◌≢◌}
use mathlib.Core.List.{List, ◌++◌, append_assoc}
use mathlib.Core.Bool.{true}
use Rattle.formats.specs.declared.head.Pair.{Pair}
use Rattle.std.specs.Prelude.{Result}
use Rattle.std.specs.Result.{IsErrAnd}
use Rattle.formats.specs.Refusal.{number_of, answer_number}
use Rattle.formats.specs.declared.refusal.Refusal.{Refusal}
use Rattle.formats.proofs.refusal.Laws.{some_number, handed_on}
use Rattle.requests.specs.declared.request.Request.{Request}
use Rattle.requests.specs.declared.request.Request.TheVariants.{Register, Record, CheckOut, CheckIn, MoveOut, MoveIn, Delete}
use Rattle.calls.specs.Buffers.{Buffers}
use Rattle.calls.specs.Refusal.{Condition, first}
use Rattle.calls.specs.Conditions.{argument_conditions, head_conditions, state_conditions, conditions}
use Rattle.calls.specs.Perform.{refusal}
use Rattle.calls.proofs.Limits.{argument_numbers}
use Rattle.calls.proofs.Refusals.{refusing, both_refuse, first_stage, next_stage}

-- A CALL'S REFUSAL, stage by stage: its arguments, the heads of what it is lent, and what stands there

-- none of its heads' numbers is 0
head_numbers : (pair : Pair) (k : Request) (b : Buffers) → refusing (head_conditions pair k b) ≡ true
head_numbers pair (Register c f) b = refl
head_numbers pair (Record c j f h) b = refl
head_numbers pair (CheckOut c j) b = refl
head_numbers pair (CheckIn j f1) b = refl
head_numbers pair (MoveOut j h f) b = refl
head_numbers pair (MoveIn c j h) b = refl
head_numbers pair (Delete j f) b = refl

-- its arguments refuse
module _ (pair : Pair) (k : Request) (b : Buffers) {w : ℕ} (e : w ≡ first (argument_conditions k)) where
  pub by_arguments : w ≢ 0 → w ≡ refusal pair k b
  unfolding refusal conditions
  by_arguments some = first_stage (argument_conditions k) (head_conditions pair k b ++ state_conditions pair k b) e some

  -- they do not, and the heads refuse
  module _ (zero : w ≡ 0) {v : ℕ} (h : v ≡ first (head_conditions pair k b)) where
    past_arguments : {n : ℕ} → n ≡ first (head_conditions pair k b ++ state_conditions pair k b) → n ≡ refusal pair k b
    unfolding refusal conditions
    past_arguments q = next_stage (argument_conditions k) (head_conditions pair k b ++ state_conditions pair k b) (argument_numbers k) (sym e ∙ zero) q

    pub by_heads : v ≢ 0 → v ≡ refusal pair k b
    by_heads some = past_arguments (first_stage (head_conditions pair k b) (state_conditions pair k b) h some)

    -- they do not either, and the state decides
    pub by_state : {n : ℕ} → v ≡ 0 → n ≡ first (state_conditions pair k b) → n ≡ refusal pair k b
    by_state none q = past_arguments (next_stage (head_conditions pair k b) (state_conditions pair k b) (head_numbers pair k b) (sym h ∙ none) q)

-- arguments and heads in one, and what is tested after them
module _ (pair : Pair) (k : Request) (b : Buffers) (ds : List Condition) {w : ℕ} (e : w ≡ first (argument_conditions k ++ head_conditions pair k b)) where
  apart : first ((argument_conditions k ++ head_conditions pair k b) ++ ds) ≡ first (argument_conditions k ++ (head_conditions pair k b ++ ds))
  apart = ap first (append_assoc (argument_conditions k) (head_conditions pair k b) ds)

  refused_before : w ≢ 0 → w ≡ first (argument_conditions k ++ (head_conditions pair k b ++ ds))
  refused_before some = first_stage (argument_conditions k ++ head_conditions pair k b) ds e some ∙ apart

  pub next_after : {n : ℕ} → w ≡ 0 → n ≡ first ds → n ≡ first (argument_conditions k ++ (head_conditions pair k b ++ ds))
  next_after zero q =
      next_stage (argument_conditions k ++ head_conditions pair k b) ds
      (both_refuse (argument_conditions k) (head_conditions pair k b) (argument_numbers k) (head_numbers pair k b)) (sym e ∙ zero) q
      ∙ apart

-- the state after them
module _ (pair : Pair) (k : Request) (b : Buffers) {w : ℕ} (e : w ≡ first (argument_conditions k ++ head_conditions pair k b)) where
  pub past_before : {n : ℕ} → w ≡ 0 → n ≡ first (state_conditions pair k b) → n ≡ refusal pair k b
  unfolding refusal conditions
  past_before zero q = next_after pair k b (state_conditions pair k b) e zero q

-- AT THE EXIT OF A `?`, which hands on the refusal v of a stage
module _ {A : Type 0} (pair : Pair) (k : Request) (b : Buffers) (r : Result A Refusal) (v : Refusal) (h : IsErrAnd r (λ y. y ≡ v)) where
  pub exit_arguments : number_of v ≡ first (argument_conditions k) → answer_number r ≡ refusal pair k b
  exit_arguments e = handed_on r v h ∙ by_arguments pair k b e (some_number v)

  pub exit_heads : 0 ≡ first (argument_conditions k) → number_of v ≡ first (head_conditions pair k b) → answer_number r ≡ refusal pair k b
  exit_heads e q = handed_on r v h ∙ by_heads pair k b e refl q (some_number v)

  pub exit_before : number_of v ≡ first (argument_conditions k ++ head_conditions pair k b) → answer_number r ≡ refusal pair k b
  unfolding refusal conditions
  exit_before e = handed_on r v h ∙ refused_before pair k b (state_conditions pair k b) e (some_number v)

  -- the exit of a move in before it searches the card
  pub exit_early : (ds : List Condition) → number_of v ≡ first (argument_conditions k ++ head_conditions pair k b)
      → answer_number r ≡ first (argument_conditions k ++ (head_conditions pair k b ++ ds))
  exit_early ds e = handed_on r v h ∙ refused_before pair k b ds e (some_number v)
