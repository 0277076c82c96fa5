-- `formats::entry::Entry::kind` meets its contract: one law of `proofs/entry/Laws` for each return.
-- Assumes nothing.
use Rattle.std.proofs.Common.{◌∙◌, sym, arith}
use borrow.Author.Tests.{eqb-true, eqb-false}
use Rattle.formats.proofs.half.Laws.{without_id, with_id}
use Rattle.formats.proofs.entry.Laws.{kind_free, kind_spent, torn_lone, torn_id, torn_cci, copy_beside, full_beside, torn_ids}
use Rattle.formats.proofs.entry.Entry.kind.Goals as goal

pub returns-in-Some-default : goal.returns-in-Some-default
returns-in-Some-default c =
    let (usable, id) = with_id _ c.usable_id.ensures c.in-Some-default.is-0 in
    sym (torn_id _ _ usable (omega (arith, id, c.if-id-gt-LAST_NUMBER.true)))

pub returns-in-Some-default-2 : goal.returns-in-Some-default-2
returns-in-Some-default-2 c =
    let (usable, id) = with_id _ c.usable_id.ensures c.in-Some-default.is-0 in
    sym (torn_cci _ _ usable (sym c.cci.ensures ∙ c.if-cci-eq1.true))

pub returns-in-Some-None : goal.returns-in-Some-None
returns-in-Some-None c =
    let (usable, id) = with_id _ c.usable_id.ensures c.in-Some-default.is-0 in
    sym
    (copy_beside _ _ usable (omega (arith, id)) (λ e. c.if-cci-eq1.false (c.cci.ensures ∙ e)) (without_id _ c.usable_id-2.ensures c.in-Some-None.is-1))

pub returns-in-Some-Some : goal.returns-in-Some-Some
returns-in-Some-Some c =
    let (usable, id) = with_id _ c.usable_id.ensures c.in-Some-default.is-0 in
    let (rule_usable, rule_id) = with_id _ c.usable_id-2.ensures c.in-Some-Some.is-1 in
    let (also, title_id) = with_id _ c.usable_id.ensures c.in-Some-Some.is-0 in
    let same = eqb-true _ _ (sym (rw (c.in-Some-Some.id-is, c.in-Some-Some.rule_id-is) at c.eq.ensures) ∙ c.if-eq.true) in
    sym
    (full_beside _ _ usable (omega (arith, id)) (λ e. c.if-cci-eq1.false (c.cci.ensures ∙ e)) rule_usable (title_id ∙ same ∙ sym rule_id))

pub returns-in-Some-Some-2 : goal.returns-in-Some-Some-2
returns-in-Some-Some-2 c =
    let (usable, id) = with_id _ c.usable_id.ensures c.in-Some-default.is-0 in
    let (rule_usable, rule_id) = with_id _ c.usable_id-2.ensures c.in-Some-Some.is-1 in
    let (also, title_id) = with_id _ c.usable_id.ensures c.in-Some-Some.is-0 in
    let other = eqb-false _ _ (sym (rw (c.in-Some-Some.id-is, c.in-Some-Some.rule_id-is) at c.eq.ensures) ∙ c.if-eq.false) in
    sym
    (torn_ids _ _ usable (omega (arith, id)) (λ e. c.if-cci-eq1.false (c.cci.ensures ∙ e)) rule_usable (λ e. other (sym title_id ∙ e ∙ rule_id)))

pub returns-in-None-Some : goal.returns-in-None-Some
returns-in-None-Some c =
    sym (torn_lone _ _ (without_id _ c.usable_id.ensures c.in-None-Some.is-0) (with_id _ c.usable_id-2.ensures c.in-None-Some.is-1).0)

pub returns-in-None-None : goal.returns-in-None-None
returns-in-None-None c =
    sym
    (kind_spent _ _ (without_id _ c.usable_id.ensures c.in-None-None.is-0) (without_id _ c.usable_id-2.ensures c.in-None-None.is-1)
    (sym c.names_spent.ensures ∙ c.if-names_spent.true))

pub returns-in-None-None-2 : goal.returns-in-None-None-2
returns-in-None-None-2 c =
    sym
    (kind_free _ _ (without_id _ c.usable_id.ensures c.in-None-None-2.is-0) (without_id _ c.usable_id-2.ensures c.in-None-None-2.is-1)
    (sym c.names_spent.ensures ∙ c.if-names_spent.false))
