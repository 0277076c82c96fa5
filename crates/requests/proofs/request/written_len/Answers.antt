-- `requests::request::written_len`: the bytes counted and those of the numbers left make up the written form.
-- Assumes nothing.
use Rattle.std.proofs.Common.{ℕ, List, ◌∙◌, ap, arith, length, get_or}
use Rattle.requests.specs.Number.{groups}
use Rattle.requests.proofs.request.Loops.{count_kind, count_next, count_done}
use Rattle.requests.proofs.request.written_len.Goals as goal

pub loop-value-init : goal.loop-value-init
loop-value-init c = count_kind c.args.kind c.args.values.now c.len-n.ensures.count c.len-n.ensures.at_most_ten

pub loop-value-preserved : goal.loop-value-preserved
loop-value-preserved c =
    let next = c.len-n-in-loop-value.ensures in
    let items = c.arguments-value-items.ensures in
    count_next _ c.loop-value.invariant (omega (arith, ap length items))
    (next.count ∙ ap (λ (vs : List ℕ). length (groups (get_or vs c.loop-value.value-index 0))) items) next.at_most_ten

pub returns : goal.returns
returns c = count_done c.loop-value.invariant (omega (arith, ap length c.arguments-value-items.ensures))
