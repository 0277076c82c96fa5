-- The loop of `music_counter::serve::all`: what is unread shrinks, and what was read is carried out and noted.
-- Assumes nothing.
use Rattle.std.proofs.Common.{length}
use Rattle.calls.specs.Buffers.{buffers_of}
use Rattle.music_counter.proofs.Serving.{Serving}
use Rattle.music_counter.proofs.serve.all.Given as goal

abbrev pub invariant-loop-rest : goal.invariant-loop-rest
invariant-loop-rest l =
    Serving l.pair l.s (buffers_of l.initial.ledger l.initial.titles l.initial.rules) l.initial.notes
    l.rest (buffers_of l.ledger l.titles l.rules) l.notes l.count

abbrev pub decreases-loop-rest : goal.decreases-loop-rest
decreases-loop-rest l = length l.rest
