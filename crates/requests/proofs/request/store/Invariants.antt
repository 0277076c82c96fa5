-- The numbers before the next one are stored, and there is room for the others.
use Rattle.std.proofs.Common.{length, take}
use Rattle.requests.specs.Request.{schema}
use Rattle.requests.proofs.request.Loops.{Putting}
use Rattle.requests.proofs.request.store.Given as goal

abbrev pub invariant-loop-value : goal.invariant-loop-value
invariant-loop-value l = Putting (take (length (schema l.kind)) l.values) l.initial.out l.initial.at l.out l.at l.value-index
