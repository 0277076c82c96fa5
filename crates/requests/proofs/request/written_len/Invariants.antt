-- The bytes counted and those of the numbers left make up the written form.
use Rattle.std.proofs.Common.{length, take}
use Rattle.requests.specs.Request.{schema}
use Rattle.requests.specs.Values.{written_numbers}
use Rattle.requests.proofs.request.Loops.{Counting}
use Rattle.requests.proofs.request.written_len.Given as goal

abbrev pub invariant-loop-value : goal.invariant-loop-value
invariant-loop-value l = Counting (take (length (schema l.kind)) l.values) (length (written_numbers l.kind l.values)) l.n l.value-index
