-- The loop of `tables::copies::count` keeps the number of the copies before the next three entries.
-- Assumes nothing.
use Rattle.std.proofs.Common.{◌+◌, ◌*◌}
use Rattle.tables.specs.Copies.{copy_at}
use Rattle.tables.proofs.Counting.{Counted}
use Rattle.tables.proofs.copies.count.Given as goal

abbrev pub invariant-loop-k : goal.invariant-loop-k
invariant-loop-k l = Counted (copy_at l.content.0 l.card.titles.now l.card.rules.now) (3 * l.k + 1) l.n
