-- `tables::copies::count` meets its contract: the copies before the next three entries are counted.
-- Assumes nothing.
use Prim.Native.Nat.{ℕ, ◌+◌, ◌*◌}
use mathlib.Core.Path.{sym, ap, ◌∙◌}
use native.Mathlib.Omega.{arith}
use Rattle.calls.specs.Buffers.{copies}
use Rattle.tables.specs.Copies.{copy_at}
use Rattle.tables.proofs.Counting.{start, done}
use Rattle.tables.proofs.Three.{at_most_three, all_three, copy_needs_flag, none_of_three}
use Rattle.tables.proofs.copies.count.Goals as goal
use Rattle.tables.proofs.copies.count.Goals.{then-may_hold, else-may_hold}

pub loop-k-init : goal.loop-k-init
loop-k-init c = start _

pub overflow_add-n : goal.overflow_add-n
overflow_add-n c =
    let few = at_most_three (copy_at c.args.content.0 c.args.card.titles.now c.args.card.rules.now) (3 * c.loop-k.k + 1) in
    omega (arith, c.in_three-n.ensures)

pub loop-k-preserved : goal.loop-k-preserved
loop-k-preserved c =
    elim c.if-may_hold.branch [
      | then-may_hold w ↦ all_three c.loop-k.invariant c.loop-k-test.true (w.n-is ∙ ap (λ (m : ℕ). c.loop-k.n + m) w.in_three-n.ensures)
      | else-may_hold w ↦
          none_of_three _ _ (copy_needs_flag _ _ _) c.loop-k.invariant c.loop-k-test.true (sym w.if-may_hold.false ∙ c.may_hold.ensures) w.n-is
    ]

pub returns : goal.returns
unfolding copies
returns c = done c.loop-k.invariant (omega arith)
