-- `tables::copies::title_in` meets its contract: what lacks flag or ID, or has CCI 1, is neither; else it goes by the rule half.
-- Assumes nothing.
use Rattle.std.proofs.Common.{sym, ap, ◌∙◌}
use mathlib.Core.Bool.{not}
use Rattle.calls.specs.Buffers.{one}
use Rattle.tables.proofs.Counting.{not_copy, not_full, reserved_copy, reserved_full, by_rule, full_by_rule}
use Rattle.tables.proofs.copies.title_in.Goals as goal
use Rattle.tables.proofs.copies.title_in.Goals.{then-not-is_flagged-via-then-not-is_flagged, then-not-is_flagged-via-else-not-is_flagged+then-cci-eq1}

pub returns-then-not-is_flagged-clause-full : goal.returns-then-not-is_flagged-clause-full
returns-then-not-is_flagged-clause-full c =
    ap one
    (elim c.then-not-is_flagged.branch [
      | then-not-is_flagged-via-then-not-is_flagged w ↦ not_full _ _ _ (sym w.if-not-is_flagged.true ∙ c.is_flagged.ensures)
      | then-not-is_flagged-via-else-not-is_flagged+then-cci-eq1 w ↦ reserved_full _ _ _ (sym w.cci.ensures ∙ w.if-cci-eq1.true)
    ])

pub returns-then-not-is_flagged-clause-copies : goal.returns-then-not-is_flagged-clause-copies
returns-then-not-is_flagged-clause-copies c =
    ap one
    (elim c.then-not-is_flagged.branch [
      | then-not-is_flagged-via-then-not-is_flagged w ↦ not_copy _ _ _ (sym w.if-not-is_flagged.true ∙ c.is_flagged.ensures)
      | then-not-is_flagged-via-else-not-is_flagged+then-cci-eq1 w ↦ reserved_copy _ _ _ (sym w.cci.ensures ∙ w.if-cci-eq1.true)
    ])

pub returns-clause-full : goal.returns-clause-full
returns-clause-full c =
    let flagged = sym c.is_flagged.ensures ∙ c.if-not-is_flagged.false in
    c.one.ensures ∙ ap one (c.is_flagged-2.ensures ∙ full_by_rule _ _ _ flagged (λ e. c.if-cci-eq1.false (c.cci.ensures ∙ e)))

pub returns-clause-copies : goal.returns-clause-copies
returns-clause-copies c =
    let flagged = sym c.is_flagged.ensures ∙ c.if-not-is_flagged.false in
    c.one-2.ensures ∙ ap one (ap not c.usable.ensures ∙ by_rule _ _ _ flagged (λ e. c.if-cci-eq1.false (c.cci.ensures ∙ e)))
