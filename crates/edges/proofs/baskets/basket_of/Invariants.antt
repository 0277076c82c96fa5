-- The loop of `edges::baskets::basket_of`: the places before the next one are filled, and as many requests are read.
-- Assumes nothing.
use Rattle.edges.proofs.Basket.{Filling}
use Rattle.edges.proofs.baskets.basket_of.Given as goal

abbrev pub invariant-loop-place : goal.invariant-loop-place
invariant-loop-place l = Filling l.fn.s l.fn.spare l.place-index l.rest l.place-items
