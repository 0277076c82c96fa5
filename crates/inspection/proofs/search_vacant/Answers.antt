-- `inspection::search_vacant` meets its contract: no entry before the next one is vacant.
-- Assumes nothing.
use Rattle.std.proofs.Common.{sym, ◌∙◌}
use Prim.Native.Nat.{ℕ}
use mathlib.Core.Path.{ap₂}
use mathlib.Core.List.{List}
use native.Mathlib.Omega.{arith}
use Rattle.formats.specs.Entry.{kind_of, is_vacant}
use Rattle.inspection.proofs.Vacant.{starts, found_at, not_at, none_at_all}
use Rattle.inspection.proofs.search_vacant.Goals as goal

pub loop-j-init : goal.loop-j-init
loop-j-init c = starts _ _ _ c.requires

pub returns-then-is_vacant_in_turn : goal.returns-then-is_vacant_in_turn
returns-then-is_vacant_in_turn c =
    found_at _ _ _ c.loop-j.invariant c.loop-j.auto.j (omega (arith, c.requires, c.loop-j.auto.j)) (omega (arith, c.loop-j-test.true)) (sym c.if-is_vacant_in_turn.true ∙ c.is_vacant_in_turn.ensures ∙ ap₂ (λ (t r : List ℕ). is_vacant (kind_of t r)) c.entry.ensures.title c.entry.ensures.rule)

pub loop-j-preserved : goal.loop-j-preserved
loop-j-preserved c =
    not_at _ _ _ c.loop-j.invariant c.loop-j.auto.j (omega (arith, c.requires, c.loop-j.auto.j)) (sym c.if-is_vacant_in_turn.false ∙ c.is_vacant_in_turn.ensures ∙ ap₂ (λ (t r : List ℕ). is_vacant (kind_of t r)) c.entry.ensures.title c.entry.ensures.rule)

pub returns : goal.returns
returns c = none_at_all _ _ _ c.loop-j.invariant c.loop-j.auto.j (omega (arith, c.requires, c.loop-j.auto.j)) (omega (arith, c.loop-j-test.false))
