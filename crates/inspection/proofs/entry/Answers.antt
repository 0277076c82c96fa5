-- `inspection::entry` meets its contract: the checks refuse, or the entry is told.
-- Assumes nothing.
use mathlib.Core.Path.{refl, ap₂, ◌∙◌}
use Rattle.formats.proofs.refusal.Laws.{some_number, handed_alone}
use Rattle.inspection.specs.Inspect.{entry_told, entry_inspected}
use Rattle.tables.proofs.Told.{refused_alone, done_with}
use Rattle.inspection.proofs.entry.Goals as goal

pub returns-in_err-check_entry : goal.returns-in_err-check_entry
unfolding entry_inspected
returns-in_err-check_entry c =
    handed_alone c.from_residual.result _ c.from_residual.ensures.1 _ ∙ refused_alone _ _ c.in_err-check_entry.ensures (some_number _)

pub returns : goal.returns
unfolding entry_inspected
returns c = done_with _ _ c.in_ok-check_entry.ensures refl (c.contents.ensures ∙ ap₂ entry_told c.entry.ensures.title c.entry.ensures.rule)
