-- The bytes before place i are read as a value and a place.
use Rattle.requests.proofs.number.Reading.{Reading}
use Rattle.requests.proofs.number.read_groups.Given as goal

abbrev pub invariant-loop-i : goal.invariant-loop-i
invariant-loop-i l = Reading l.s l.value l.place l.i
