-- `formats::entry::Entry::kind_in_turn` meets its contract: one law of `proofs/entry/Laws` for each return.
-- Assumes nothing.
use Rattle.std.proofs.Common.{◌∙◌, sym, arith}
use borrow.Author.Tests.{eqb-true, eqb-false}
use Rattle.formats.proofs.half.Laws.{without_id, with_id}
use Rattle.formats.proofs.entry.Laws.{kind_free, kind_spent, torn_lone, torn_id, torn_cci, copy_beside, full_beside, torn_ids}
use Rattle.formats.proofs.entry.Entry.kind_in_turn.Goals as goal

pub returns-in-Some : goal.returns-in-Some
returns-in-Some c =
    let (usable, id) = with_id _ c.usable_id.ensures c.in-Some.is in
    sym (torn_id _ _ usable (omega (arith, id, c.if-id-gt-LAST_NUMBER.true)))

pub returns-in-Some-2 : goal.returns-in-Some-2
returns-in-Some-2 c =
    let (usable, id) = with_id _ c.usable_id.ensures c.in-Some.is in
    sym (torn_cci _ _ usable (sym c.cci.ensures ∙ c.if-cci-eq1.true))

pub returns-in-None-usable_id : goal.returns-in-None-usable_id
returns-in-None-usable_id c =
    let (usable, id) = with_id _ c.usable_id.ensures c.in-Some.is in
    sym
    (copy_beside _ _ usable (omega (arith, id)) (λ e. c.if-cci-eq1.false (c.cci.ensures ∙ e)) (without_id _ c.usable_id-in-Some-3.ensures c.in-None-usable_id.is))

pub returns-in-Some-usable_id : goal.returns-in-Some-usable_id
returns-in-Some-usable_id c =
    let (usable, id) = with_id _ c.usable_id.ensures c.in-Some.is in
    let (rule_usable, rule_id) = with_id _ c.usable_id-in-Some-3.ensures c.in-Some-usable_id.is in
    let (also, title_id) = with_id _ c.usable_id.ensures c.in-Some-3.is in
    let same = eqb-true _ _ (sym (rw (c.in-Some-3.id-is, c.in-Some-usable_id.rule_id-is) at c.eq.ensures) ∙ c.if-eq.true) in
    sym
    (full_beside _ _ usable (omega (arith, id)) (λ e. c.if-cci-eq1.false (c.cci.ensures ∙ e)) rule_usable (title_id ∙ same ∙ sym rule_id))

pub returns-in-Some-2-usable_id : goal.returns-in-Some-2-usable_id
returns-in-Some-2-usable_id c =
    let (usable, id) = with_id _ c.usable_id.ensures c.in-Some.is in
    let (rule_usable, rule_id) = with_id _ c.usable_id-in-Some-3.ensures c.in-Some-usable_id.is in
    let (also, title_id) = with_id _ c.usable_id.ensures c.in-Some-3.is in
    let other = eqb-false _ _ (sym (rw (c.in-Some-3.id-is, c.in-Some-usable_id.rule_id-is) at c.eq.ensures) ∙ c.if-eq.false) in
    sym
    (torn_ids _ _ usable (omega (arith, id)) (λ e. c.if-cci-eq1.false (c.cci.ensures ∙ e)) rule_usable (λ e. other (sym title_id ∙ e ∙ rule_id)))

pub returns-in-None : goal.returns-in-None
returns-in-None c = sym (torn_lone _ _ (without_id _ c.usable_id.ensures c.in-None.is) (sym c.usable.ensures ∙ c.if-usable.true))

pub returns-in-None-2 : goal.returns-in-None-2
returns-in-None-2 c =
    sym
    (kind_spent _ _ (without_id _ c.usable_id.ensures c.in-None.is) (sym c.usable.ensures ∙ c.if-usable.false)
    (sym c.names_spent.ensures ∙ c.if-names_spent.true))

pub returns-in-None-3 : goal.returns-in-None-3
returns-in-None-3 c =
    sym
    (kind_free _ _ (without_id _ c.usable_id.ensures c.in-None.is) (sym c.usable.ensures ∙ c.if-usable.false)
    (sym c.names_spent.ensures ∙ c.if-names_spent.false))
