-- The arguments before place i are read, in the bytes used.
use Rattle.requests.proofs.request.Reading.{Taking}
use Rattle.requests.proofs.request.read_numbers.Given as goal

abbrev pub invariant-loop-i : goal.invariant-loop-i
invariant-loop-i l = Taking l.first.value l.s l.found l.i l.used
