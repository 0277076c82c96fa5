-- `requests::request::store`: the loop puts the numbers one after the other.
-- Assumes nothing.
use Rattle.std.proofs.Common.{ap, arith, length}
use Rattle.requests.proofs.request.Loops.{room_kind, room_next, put_number, put_done, put_kind, put_written}
use Rattle.requests.proofs.request.store.Goals as goal

pub store-at-requires : goal.store-at-requires
store-at-requires c = room_kind c.args.kind c.args.values.now c.args.out.now c.requires

pub loop-value-init : goal.loop-value-init
loop-value-init c =
    let kind = c.store-at.ensures in
    put_kind c.args.kind c.args.values.now c.args.out.now c.requires kind.place kind.bytes

pub store-at-requires-in-loop-value : goal.store-at-requires-in-loop-value
store-at-requires-in-loop-value c =
    let items = c.arguments-value-items.ensures in
    rw items (room_next c.loop-value.invariant (omega (arith, ap length items)))

pub loop-value-preserved : goal.loop-value-preserved
loop-value-preserved c =
    let next = c.store-at-in-loop-value.ensures in
    let items = c.arguments-value-items.ensures in
    put_number c.loop-value.invariant (omega (arith, ap length items)) (rw items at next.place) (rw items at next.bytes)

pub returns : goal.returns
returns c =
    let kind = c.store-at.ensures in
    let all = put_written c.args.kind c.args.values.now c.args.out.now c.requires kind.place kind.bytes
    (put_done c.loop-value.invariant (omega (arith, ap length c.arguments-value-items.ensures))) in
    record { count = all.0; bytes = all.1 }
