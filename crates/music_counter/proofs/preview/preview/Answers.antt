-- `music_counter::preview::preview` meets its contract: refused, or carried out on a copy of the originals.
-- Assumes nothing.
use Rattle.std.proofs.Common.{ℕ, ◌∙◌, sym, ap, ap₂, arith, List}
use lib.ListN.{length-map}
use Rattle.calls.specs.Buffers.{buffers_of}
use Rattle.calls.specs.Preview.{as_long}
use Rattle.tables.specs.Shop.{lent}
use Rattle.calls.proofs.Preview.{too_many, not_as_long, fits}
use Rattle.music_counter.proofs.Basket.{none_yet, next, all_buffers, all_answers, tells_refused, tells_done}
use Rattle.music_counter.proofs.preview.preview.Goals as goal

pub returns-then-count-gt16 : goal.returns-then-count-gt16
returns-then-count-gt16 g c = tells_refused _ _ _ _ _ _ (λ z. omega (arith, z)) (too_many _ _ _ c.if-count-gt16.true)

pub returns-then-not-as_long : goal.returns-then-not-as_long
returns-then-not-as_long g c = tells_refused _ _ _ _ _ _ (λ z. omega (arith, z)) (not_as_long _ _ _ c.if-count-gt16.false (sym (ap (as_long (lent c.args.shop)) c.new.ensures) ∙ sym c.as_long.ensures ∙ c.if-not-as_long.true))

pub loop-i-init : goal.loop-i-init
loop-i-init g c = none_yet _ _ _ _ _

pub loop-i-preserved : goal.loop-i-preserved
loop-i-preserved g c =
    let below = c.loop-i-test.true in
    let most = c.if-count-gt16.false in
    next g.G.Given.given c.args.basket.now c.loop-i.invariant c.index-basket-i.result below (omega (arith, below, most, c.told-basket)) (omega (arith, below, most))
    c.perform.ensures

pub returns : goal.returns
returns g c =
    let card = ap₂ (buffers_of c.copy.new.to) c.copy-2.ensures c.copy-3.ensures in
    let copied = card ∙ ap (λ (l : List ℕ). buffers_of l c.args.shop.card.titles.now c.args.shop.card.rules.now) c.copy.ensures in
    let all = c.loop-i.invariant in
    let past = c.loop-i-test.false in
    tells_done _ _ _ _ _ _ (fits _ _ _ c.if-count-gt16.false (sym (ap (as_long (lent c.args.shop)) c.new.ensures) ∙ sym c.as_long.ensures ∙ c.if-not-as_long.false)) copied (length-map _ _ ∙ c.told-basket) c.if-count-gt16.false (all_buffers all past) (all_answers all past)
