-- The loop of `edges::case`: the bytes that the digits spell fit in a case.
-- Assumes nothing.
use Rattle.std.proofs.Common.{◌≤◌}
use Rattle.edges.proofs.case.Given as goal

abbrev pub invariant-loop-i : goal.invariant-loop-i
invariant-loop-i l = l.bytes ≤ 32100
