-- `inspection::first_vacant` meets its contract: the checks refuse, or the entry that was found is told.
-- Assumes nothing.
use mathlib.Core.Path.{refl, sym, ap, ◌∙◌}
use mathlib.Core.List.{[], ◌∷◌}
use Rattle.formats.proofs.refusal.Laws.{some_number, handed_alone}
use Rattle.inspection.specs.Inspect.{entry_conditions, first_vacant_told}
use Rattle.calls.proofs.Refusals.{to_none}
use Rattle.calls.proofs.Passed.{is_numbered}
use Rattle.tables.proofs.Told.{refused_alone, done_with}
use Rattle.inspection.proofs.first_vacant.Goals as goal

pub returns-in_err-check_entry : goal.returns-in_err-check_entry
unfolding first_vacant_told
returns-in_err-check_entry c =
    handed_alone c.from_residual.result _ c.from_residual.ensures.1 _ ∙ refused_alone _ _ c.in_err-check_entry.ensures (some_number _)

pub search_vacant-requires : goal.search_vacant-requires
search_vacant-requires c =
    (is_numbered c.args.from.0 (to_none (entry_conditions c.args.pair c.args.card.titles.now c.args.card.rules.now c.args.from.0) refl (sym c.in_ok-check_entry.ensures)).0).from

pub returns : goal.returns
unfolding first_vacant_told
returns c = done_with _ _ c.in_ok-check_entry.ensures refl (ap (λ j. j ∷ []) c.search_vacant.ensures)
