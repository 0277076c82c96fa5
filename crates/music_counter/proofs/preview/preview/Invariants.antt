-- The loop of `music_counter::preview::preview`: so many are carried out on the copy, and their answers stand in front.
-- Assumes nothing.
use Rattle.std.proofs.Common.{map}
use Rattle.calls.specs.Buffers.{buffers_of}
use Rattle.music_counter.proofs.Basket.{Performing}
use Rattle.music_counter.proofs.preview.preview.Given as goal

abbrev pub invariant-loop-i : goal.invariant-loop-i
invariant-loop-i g l =
    Performing l.pair (map g.G.Given.given l.basket) l.count (buffers_of l.initial.ledger l.initial.titles l.initial.rules) l.initial.answers
    l.i (buffers_of l.ledger l.titles l.rules) l.answers
