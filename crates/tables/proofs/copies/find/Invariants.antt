-- The loop of `tables::copies::find` has found no copy before the next three entries.
-- Assumes nothing.
use Rattle.std.proofs.Common.{◌≡◌, ◌*◌}
use Rattle.calls.specs.Buffers.{first_of}
use Rattle.tables.specs.Copies.{copy_at}
use Rattle.tables.proofs.copies.find.Given as goal

abbrev pub invariant-loop-k : goal.invariant-loop-k
invariant-loop-k l = first_of (3 * l.k) (copy_at l.content.0 l.card.titles.now l.card.rules.now) ≡ 0
