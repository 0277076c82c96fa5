-- `requests::number::store`: one group, two groups, or a turn of the loop for each but the last.
-- Assumes nothing.
use Rattle.std.proofs.Common.{◌+◌, ◌-◌, ◌≡◌, ◌<◌, refl, sym, ap, arith, length}
use Rattle.formats.proofs.Stores.{start, store, store_next, stored}
use Rattle.requests.specs.Number.{groups}
use Rattle.requests.proofs.number.Laws.{groups_last, groups_more}
use Rattle.requests.proofs.number.Lengths.{groups_some, only_group, more_groups, second_group, two_groups}
use Rattle.requests.proofs.number.store.Goals as goal

pub bounds-out-at : goal.bounds-out-at
bounds-out-at c = omega (arith, c.requires, groups_some c.args.x)

pub overflow_cast-out : goal.overflow_cast-out
overflow_cast-out c = omega (arith, only_group c.args.x (omega (arith, c.len-groups.ensures.count, c.if-groups-eq1.true)))

pub returns-then-groups-eq1-clause-bytes : goal.returns-then-groups-eq1-clause-bytes
returns-then-groups-eq1-clause-bytes c =
    let w = groups c.args.x in
    let only = only_group c.args.x (omega (arith, c.len-groups.ensures.count, c.if-groups-eq1.true)) in
    (stored (store_next w (start w c.args.out.now c.args.at) (groups_last c.args.x only) (omega (arith, c.requires, groups_some c.args.x))) refl).1

pub overflow_cast-out-then-groups-eq2-2 : goal.overflow_cast-out-then-groups-eq2-2
overflow_cast-out-then-groups-eq2-2 c = omega (arith, second_group c.args.x (omega (arith, c.len-groups.ensures.count, c.if-groups-eq2.true)))

pub returns-then-groups-eq2-clause-bytes : goal.returns-then-groups-eq2-clause-bytes
returns-then-groups-eq2-clause-bytes c =
    let w = groups c.args.x in
    let two = two_groups c.args.x (omega (arith, c.len-groups.ensures.count, c.if-groups-eq2.true)) in
    let first = store_next w (start w c.args.out.now c.args.at) two (omega (arith, c.requires, ap length two)) in
    (stored (store first (omega (arith, c.requires, ap length two, first.size))) refl).1

pub overflow_sub-last : goal.overflow_sub-last
overflow_sub-last c = omega (arith, c.len-groups.ensures.count, groups_some c.args.x)

pub loop-i-preserved : goal.loop-i-preserved
loop-i-preserved c =
    let l = c.loop-i in
    store_next (groups l.left) l.invariant
    (groups_more l.left (more_groups l.left (omega (arith, l.invariant.count, c.len-groups.ensures.count, c.loop-i-test.true))))
    (omega (arith, c.requires, c.len-groups.ensures.count, c.loop-i-test.true, l.invariant.size))

pub overflow_cast-out-2 : goal.overflow_cast-out-2
overflow_cast-out-2 c =
    let l = c.loop-i in
    omega (arith, only_group l.left (omega (arith, l.invariant.count, c.len-groups.ensures.count, groups_some c.args.x, c.loop-i-test.false, l.auto.i-end)))

pub bounds-out-last : goal.bounds-out-last
bounds-out-last c = omega (arith, c.requires, c.len-groups.ensures.count, groups_some c.args.x, c.loop-i.invariant.size)

pub returns-clause-place : goal.returns-clause-place
returns-clause-place c = omega (arith, c.len-groups.ensures.count, groups_some c.args.x)

pub returns-clause-bytes : goal.returns-clause-bytes
returns-clause-bytes c =
    let l = c.loop-i in
    let some : 0 < c.len-groups.result = omega (arith, c.len-groups.ensures.count, groups_some c.args.x) in
    let end : l.i ≡ c.args.at + c.len-groups.result - 1 = omega (arith, c.loop-i-test.false, l.auto.i-end) in
    let one = only_group l.left (omega (arith, l.invariant.count, c.len-groups.ensures.count, groups_some c.args.x, end)) in
    rw (sym end)
    (stored (store_next (groups l.left) l.invariant (groups_last l.left one) (omega (arith, c.requires, c.len-groups.ensures.count, groups_some c.args.x, end, l.invariant.size))) refl).1
