-- `music_counter::preview::copy`: one byte after another, until none is left.
-- Assumes nothing.
use Rattle.std.proofs.Common.{ℕ, ◌+◌, ◌≡◌, ◌∷◌, ◌∙◌, sym, arith, drop, get_or}
use native.Mathlib.Numerals.{add-one}
use lib.ListN.{drop_of_length-le}
use lib.Seq.{drop-cons}
use Rattle.formats.proofs.Part.{put_whole}
use Rattle.formats.proofs.Stores.{start, store_next, stored}
use Rattle.music_counter.proofs.preview.copy.Goals as goal

pub loop-i-init : goal.loop-i-init
loop-i-init c = start c.args.from.now c.args.to.now 0

pub loop-i-preserved : goal.loop-i-preserved
loop-i-preserved c =
    let i = c.loop-i.i in
    let from = c.args.from.now in
    let next : drop i from ≡ get_or from i 0 ∷ drop (i + 1) from = rw add-one (drop-cons from i 0 (omega (arith, c.requires, c.loop-i-test.true))) in
    store_next (drop i from) c.loop-i.invariant next (omega (arith, c.loop-i.auto.to, c.loop-i-test.true))

pub returns : goal.returns
returns c =
    (stored c.loop-i.invariant (drop_of_length-le c.args.from.now (omega (arith, c.requires, c.loop-i-test.false)))).1
    ∙ put_whole c.args.to.now c.args.from.now (sym c.requires)
