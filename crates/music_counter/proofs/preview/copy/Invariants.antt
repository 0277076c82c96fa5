-- The bytes before the next one are written.
use Rattle.std.proofs.Common.{drop}
use Rattle.formats.proofs.Stores.{Storing}
use Rattle.music_counter.proofs.preview.copy.Given as goal

abbrev pub invariant-loop-i : goal.invariant-loop-i
invariant-loop-i l = Storing l.from l.fn.to 0 l.to l.i (drop l.i l.from)
