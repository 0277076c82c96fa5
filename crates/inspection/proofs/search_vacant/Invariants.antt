-- The loop of `inspection::search_vacant` has found no vacant entry before the next one.
-- Assumes nothing.
use Rattle.std.proofs.Common.{◌-◌, ◌≡◌}
use Rattle.calls.specs.Buffers.{first_of}
use Rattle.inspection.specs.Inspect.{vacant_from}
use Rattle.inspection.proofs.search_vacant.Given as goal

abbrev pub invariant-loop-j : goal.invariant-loop-j
invariant-loop-j l = first_of (l.j - 1) (vacant_from l.fn.from.0 l.card.titles.now l.card.rules.now) ≡ 0
