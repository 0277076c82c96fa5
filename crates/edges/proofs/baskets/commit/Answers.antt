-- `edges::baskets::commit` meets its contract: the requests are carried out one after another.
-- Assumes nothing.
use Rattle.std.proofs.Common.{arith, ◌∙◌, sym}
use Rattle.edges.proofs.Basket.{carried_out, all_carried_out}
use Rattle.edges.proofs.baskets.commit.Goals as goal

pub loop-request-preserved : goal.loop-request-preserved
loop-request-preserved c =
    carried_out _ c.args.requests.now c.loop-request.request-index _ _ _ (omega (arith, c.loop-request-test.true)) c.perform.ensures ∙ c.loop-request.invariant

pub returns : goal.returns
returns c = sym (all_carried_out _ c.args.requests.now c.loop-request.request-index _ (omega (arith, c.loop-request-test.false))) ∙ c.loop-request.invariant
