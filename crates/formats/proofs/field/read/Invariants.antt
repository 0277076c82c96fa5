-- The loop of `formats::field::read` keeps the number of the bytes passed.
-- Assumes nothing.
use Rattle.formats.proofs.field.Laws.{Reading}
use Rattle.formats.proofs.field.read.Given as goal

abbrev pub invariant-loop-byte : goal.invariant-loop-byte
invariant-loop-byte l = Reading l.field l.value l.byte-index
