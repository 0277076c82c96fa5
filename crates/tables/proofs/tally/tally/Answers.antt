-- `tables::tally::tally` meets its contract: the checks refuse, or the copies are counted.
-- Assumes nothing.
use mathlib.Core.Path.{refl, ap, ◌∙◌}
use mathlib.Core.List.{[], ◌∷◌}
use Rattle.formats.proofs.refusal.Laws.{some_number, handed_alone}
use Rattle.tables.specs.Tally.{tallied}
use Rattle.tables.proofs.Told.{refused_alone, done_with}
use Rattle.tables.proofs.tally.tally.Goals as goal

pub returns-in_err-check : goal.returns-in_err-check
unfolding tallied
returns-in_err-check c = handed_alone c.from_residual.result _ c.from_residual.ensures.1 _ ∙ refused_alone _ _ c.in_err-check.ensures (some_number _)

pub returns : goal.returns
unfolding tallied
returns c = done_with _ _ c.in_ok-check.ensures refl (ap (λ n. n ∷ []) c.count.ensures)
