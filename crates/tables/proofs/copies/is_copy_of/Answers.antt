-- `tables::copies::is_copy_of` meets its contract.
-- Assumes nothing.
use Rattle.std.proofs.Common.{sym, ap, ◌∙◌, not, true≢false}
use borrow.Author.Tests.{eqb-true, eqb-false, not-true, not-false}
use Rattle.tables.proofs.Counting.{not_copy, reserved_copy, by_rule}
use Rattle.tables.proofs.copies.is_copy_of.Goals as goal
use Rattle.tables.proofs.copies.is_copy_of.Goals.{then-is_flagged, else-is_flagged}

pub returns-then-cci-ne1 : goal.returns-then-cci-ne1
returns-then-cci-ne1 c =
    elim c.if-is_flagged.branch [
      | then-is_flagged w ↦
          let other = eqb-false _ _ (not-true _ (sym w.value-is ∙ c.if-cci-ne1.true)) in
          ap not c.usable.ensures
          ∙ by_rule _ _ _ (sym c.is_flagged.ensures ∙ w.if-is_flagged.true) (λ e. other (w.cci.ensures ∙ e))
      | else-is_flagged w ↦ absurd (true≢false (sym c.if-cci-ne1.true ∙ w.value-is ∙ w.if-is_flagged.false))
    ]

pub returns-else-cci-ne1 : goal.returns-else-cci-ne1
returns-else-cci-ne1 c =
    c.if-cci-ne1.false
    ∙ elim c.if-is_flagged.branch [
      | then-is_flagged w ↦ reserved_copy _ _ _ (sym w.cci.ensures ∙ eqb-true _ _ (not-false _ (sym w.value-is ∙ c.if-cci-ne1.false)))
      | else-is_flagged w ↦ not_copy _ _ _ (sym w.if-is_flagged.false ∙ c.is_flagged.ensures)
    ]
