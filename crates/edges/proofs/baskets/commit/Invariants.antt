-- The loop of `edges::baskets::commit`: what is left to be carried out comes to what all of it comes to.
-- Assumes nothing.
use Rattle.std.proofs.Common.{◌≡◌, drop}
use Rattle.calls.specs.Buffers.{buffers_of}
use Rattle.edges.specs.Baskets.{committed}
use Rattle.edges.proofs.baskets.commit.Given as goal

abbrev pub invariant-loop-request : goal.invariant-loop-request
invariant-loop-request l =
    committed l.pair (drop l.request-index l.requests) (buffers_of l.ledger l.titles l.rules)
    ≡ committed l.pair l.requests (buffers_of l.initial.ledger l.initial.titles l.initial.rules)
