-- The paper's numbers of refusals, and what a refusal is when it is handed on.
-- Assumes nothing.
use Rattle.std.proofs.Common.{ℕ, ◌≤◌, ◌≡◌, ◌∙◌, refl, sym, ap, arith, List, true, false, true≢false, Result, Ok, Err}
use mathlib.Core.Logic.{◌≢◌}
use Rattle.std.specs.Result.{is_err, IsErrAnd}
use Rattle.std.proofs.lemmas.Result.{err_from_is_err_and}
use Rattle.formats.specs.Answer.{refused}
use Rattle.formats.specs.Refusal.{number_of, answer_number, answer_of}
use Rattle.formats.specs.declared.refusal.Refusal.{Refusal}
use Rattle.formats.specs.declared.refusal.Refusal.TheVariants.{TooShort, Number, Kind, ContentId, EntryNumber, Facts, Ledger, Titles, Rules, KindOfEntry, StateOfRow, NothingLeft, Hash, CopyOut, PermitsFull, Filler, Basket, Scratch}

-- refusals have the numbers 1 to 18
pub record Numbered (w : Refusal) : Type 0 where
  pub from : 1 ≤ number_of w
  pub to : number_of w ≤ 18

pub numbered : (w : Refusal) → Numbered w
numbered TooShort = record { from = omega arith; to = omega arith }
numbered Number = record { from = omega arith; to = omega arith }
numbered Kind = record { from = omega arith; to = omega arith }
numbered ContentId = record { from = omega arith; to = omega arith }
numbered EntryNumber = record { from = omega arith; to = omega arith }
numbered Facts = record { from = omega arith; to = omega arith }
numbered Ledger = record { from = omega arith; to = omega arith }
numbered Titles = record { from = omega arith; to = omega arith }
numbered Rules = record { from = omega arith; to = omega arith }
numbered KindOfEntry = record { from = omega arith; to = omega arith }
numbered StateOfRow = record { from = omega arith; to = omega arith }
numbered NothingLeft = record { from = omega arith; to = omega arith }
numbered Hash = record { from = omega arith; to = omega arith }
numbered CopyOut = record { from = omega arith; to = omega arith }
numbered PermitsFull = record { from = omega arith; to = omega arith }
numbered Filler = record { from = omega arith; to = omega arith }
numbered Basket = record { from = omega arith; to = omega arith }
numbered Scratch = record { from = omega arith; to = omega arith }

-- none has the number of what is done
pub some_number : (w : Refusal) → number_of w ≡ 0 → ⊥
some_number w e = omega (arith, (numbered w).from, e)

-- and an answer is at most the last of them
pub number_most : {A : Type 0} (r : Result A Refusal) → answer_number r ≤ 18
number_most (Ok a) = omega arith
number_most (Err w) = (numbered w).to

-- an answer that is a refusal has another, and one that is none has that
pub refused_some : {A : Type 0} (r : Result A Refusal) → is_err r ≡ true → answer_number r ≢ 0
refused_some (Ok a) e = absurd (true≢false (sym e))
refused_some (Err w) e = some_number w

pub done_none : {A : Type 0} (r : Result A Refusal) → is_err r ≡ false → answer_number r ≡ 0
done_none (Ok a) e = refl
done_none (Err w) e = absurd (true≢false e)

-- a refusal that is handed on keeps its number, and has it alone
module _ {A : Type 0} (r : Result A Refusal) (w : Refusal) (h : IsErrAnd r (λ y. y ≡ w)) where
  pub handed_on : answer_number r ≡ number_of w
  handed_on = let (y, is, same) = err_from_is_err_and r h in ap answer_number is ∙ ap number_of same

  pub handed_alone : (values : A → List ℕ) → answer_of values r ≡ refused (number_of w)
  handed_alone values = let (y, is, same) = err_from_is_err_and r h in ap (answer_of values) is ∙ ap (λ (v : Refusal). refused (number_of v)) same
