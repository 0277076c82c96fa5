-- `inspection::title` meets its contract: the checks refuse, or holders and copies are counted.
-- Assumes nothing.
use mathlib.Core.Path.{refl, ◌∙◌}
use Rattle.formats.proofs.refusal.Laws.{some_number, handed_alone}
use Rattle.inspection.specs.Inspect.{title_inspected}
use Rattle.tables.proofs.Told.{refused_alone, done_with}
use Rattle.inspection.proofs.title.Goals as goal

pub returns-in_err-check_title : goal.returns-in_err-check_title
unfolding title_inspected
returns-in_err-check_title c =
    handed_alone c.from_residual.result _ c.from_residual.ensures.1 _ ∙ refused_alone _ _ c.in_err-check_title.ensures (some_number _)

pub returns : goal.returns
unfolding title_inspected
returns c = done_with _ _ c.in_ok-check_title.ensures refl c.counts.ensures
