-- `formats::head::check_rules` meets its contract: the version and the head's two words are right where its fields are.
-- Assumes nothing.
use mathlib.Core.Path.{refl}
use native.Mathlib.Omega.{arith}
use Rattle.formats.proofs.Tests.{passes}
use Rattle.formats.proofs.head.Laws.{rules_pass_lem, rules_refused}
use Rattle.formats.proofs.head.Words.{rules_outer, rules_inner, rules_right}
use Rattle.formats.proofs.head.check_rules.Goals as goal

pub returns-then-rules-ne32000 : goal.returns-then-rules-ne32000
returns-then-rules-ne32000 c = rules_refused (λ h. c.if-rules-ne32000.true h.table.long)

pub returns-then-too_old : goal.returns-then-too_old
returns-then-too_old c = rules_refused (λ h. omega (arith, h.version))

pub returns-then-read_at-rules_front : goal.returns-then-read_at-rules_front
returns-then-read_at-rules_front c =
    rules_refused
    (λ h. c.if-read_at-rules_front.true (rules_outer c.args.rules.now (λ i. (c.type_inv.rules i).fits) (omega arith) c.read_at.ensures refl c.rules_front.ensures h))

pub returns-then-read_at-ne65478658 : goal.returns-then-read_at-ne65478658
returns-then-read_at-ne65478658 c =
    rules_refused
    (λ h. c.if-read_at-ne65478658.true (rules_inner c.args.rules.now (λ i. (c.type_inv.rules i).fits) (omega arith) c.read_at.ensures c.read_at-2.ensures h))

pub returns : goal.returns
returns c =
    passes 9
    (rules_pass_lem
    (rules_right c.args.rules.now (λ i. (c.type_inv.rules i).fits) (omega arith) c.read_at.ensures c.read_at-2.ensures
    c.rules_front.ensures
    c.if-rules-ne32000.false
    c.if-read_at-rules_front.false
    c.if-too_old.false
    c.if-read_at-ne65478658.false))
