-- `inspection::row` meets its contract: the checks refuse, or the row is told.
-- Assumes nothing.
use mathlib.Core.Path.{refl, ap, ◌∙◌}
use Rattle.formats.proofs.refusal.Laws.{some_number, handed_alone}
use Rattle.inspection.specs.Inspect.{state_told, row_inspected}
use Rattle.tables.proofs.Told.{refused_alone, done_with}
use Rattle.inspection.proofs.row.Goals as goal

pub returns-in_err-check_row : goal.returns-in_err-check_row
unfolding row_inspected
returns-in_err-check_row c =
    handed_alone c.from_residual.result _ c.from_residual.ensures.1 _ ∙ refused_alone _ _ c.in_err-check_row.ensures (some_number _)

pub returns : goal.returns
unfolding row_inspected
returns c = done_with _ _ c.in_ok-check_row.ensures refl (ap state_told c.state.ensures)
