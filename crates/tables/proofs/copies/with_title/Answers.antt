-- `tables::copies::with_title` meets its contract: what the entries before the next three have of the title is counted.
-- Assumes nothing.
use Rattle.std.proofs.Common.{◌+◌, ◌*◌, sym, ap, ◌∙◌}
use Prim.Native.Nat.{ℕ}
use native.Mathlib.Omega.{arith}
use Rattle.calls.specs.Buffers.{copies, full_entries}
use Rattle.tables.specs.Copies.{copy_at, full_at}
use Rattle.tables.proofs.Counting.{start, done}
use Rattle.tables.proofs.Three.{at_most_three, all_three, copy_needs_flag, full_needs_flag, none_of_three}
use Rattle.tables.proofs.copies.with_title.Goals as goal
use Rattle.tables.proofs.copies.with_title.Goals.{then-may_hold, else-may_hold}

pub loop-k-init : goal.loop-k-init
loop-k-init c = (start _, start _)

pub overflow_add-found : goal.overflow_add-found
overflow_add-found c =
    let few = at_most_three (full_at c.args.content.0 c.args.card.titles.now c.args.card.rules.now) (3 * c.loop-k.k + 1) in
    let so_far = c.loop-k.invariant.0 in
    omega (arith, c.with_title_in_three-three.ensures.full)

pub overflow_add-found-then-may_hold : goal.overflow_add-found-then-may_hold
overflow_add-found-then-may_hold c =
    let few = at_most_three (copy_at c.args.content.0 c.args.card.titles.now c.args.card.rules.now) (3 * c.loop-k.k + 1) in
    let so_far = c.loop-k.invariant.1 in
    omega (arith, c.with_title_in_three-three.ensures.copies)

pub loop-k-preserved : goal.loop-k-preserved
loop-k-preserved c =
    let (full, copies) = c.loop-k.invariant in
    elim c.if-may_hold.branch [
      | then-may_hold w ↦ (
        all_three full c.loop-k-test.true (ap (λ f. f.full) w.found-is ∙ ap (λ (m : ℕ). c.loop-k.found.full + m) w.with_title_in_three-three.ensures.full),
        all_three copies c.loop-k-test.true (ap (λ f. f.copies) w.found-is ∙ ap (λ (m : ℕ). c.loop-k.found.copies + m) w.with_title_in_three-three.ensures.copies),
      )
      | else-may_hold w ↦
          let lacks = sym w.if-may_hold.false ∙ c.may_hold.ensures in (
            none_of_three _ _ (full_needs_flag _ _ _) full c.loop-k-test.true lacks (ap (λ f. f.full) w.found-is),
            none_of_three _ _ (copy_needs_flag _ _ _) copies c.loop-k-test.true lacks (ap (λ f. f.copies) w.found-is),
          )
    ]

pub returns-clause-full : goal.returns-clause-full
unfolding full_entries
returns-clause-full c = done c.loop-k.invariant.0 (omega arith)

pub returns-clause-copies : goal.returns-clause-copies
unfolding copies
returns-clause-copies c = done c.loop-k.invariant.1 (omega arith)
