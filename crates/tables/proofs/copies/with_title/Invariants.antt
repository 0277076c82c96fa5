-- The loop of `tables::copies::with_title` keeps the numbers of both among the entries before the next three.
-- Assumes nothing.
use Rattle.std.proofs.Common.{◌+◌, ◌*◌}
use Rattle.tables.specs.Copies.{copy_at, full_at}
use Rattle.tables.proofs.Counting.{Counted}
use Rattle.tables.proofs.copies.with_title.Given as goal

abbrev pub invariant-loop-k : goal.invariant-loop-k
invariant-loop-k l =
    Counted (full_at l.content.0 l.card.titles.now l.card.rules.now) (3 * l.k + 1) l.found.full
    × Counted (copy_at l.content.0 l.card.titles.now l.card.rules.now) (3 * l.k + 1) l.found.copies
