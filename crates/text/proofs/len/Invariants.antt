-- The digits counted and those of what is left make up the whole.
-- Assumes nothing.
use Rattle.std.proofs.Common.{◌+◌, ◌≡◌, ◌≤◌, length}
use Rattle.text.specs.Text.{decimal}
use Rattle.text.proofs.len.Given as goal

abbrev pub invariant-loop-left : goal.invariant-loop-left
invariant-loop-left l = record { counted : l.count + length (decimal l.left) ≡ 1 + length (decimal l.n); small : l.count + l.left ≤ 1 + l.n }

abbrev pub decreases-loop-left : goal.decreases-loop-left
decreases-loop-left l = l.left
