-- The groups before place i are stored, and there is room for the others.
use Rattle.requests.specs.Number.{groups}
use Rattle.formats.proofs.Stores.{Storing}
use Rattle.requests.proofs.number.store.Given as goal

abbrev pub invariant-loop-i : goal.invariant-loop-i
invariant-loop-i l = Storing (groups l.fn.x) l.fn.out l.fn.at l.out l.i (groups l.left)
