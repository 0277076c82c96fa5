-- `edges::baskets::basket_of` meets its contract: in each place is what was read next.
-- Assumes nothing.
use Rattle.std.proofs.Common.{arith}
use Rattle.edges.proofs.Basket.{first, next}
use Rattle.edges.proofs.baskets.basket_of.Goals as goal

pub loop-place-init : goal.loop-place-init
loop-place-init c = first _ _

pub loop-place-preserved : goal.loop-place-preserved
loop-place-preserved c =
    next c.loop-place.invariant (omega (arith, c.loop-place-test.true)) _ c.read-found.ensures c.request_or.ensures c.remainder-rest.ensures
