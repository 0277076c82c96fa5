-- The arguments left have the first limit that is met.
use Rattle.std.proofs.Common.{◌≡◌}
use Rattle.std.specs.Iterator.Adapters.{zip_first, zip_second}
use Rattle.std.specs.Slice.Iter.{iter_rest}
use Rattle.requests.specs.Request.{schema, first_limit}
use Rattle.requests.proofs.request.first_limit.Given as goal

abbrev pub invariant-loop-argument : goal.invariant-loop-argument
invariant-loop-argument l = first_limit (iter_rest (zip_first l.argument-iterator)) (iter_rest (zip_second l.argument-iterator)) ≡ first_limit (schema l.kind) l.values
