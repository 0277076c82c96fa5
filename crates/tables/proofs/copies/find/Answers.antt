-- `tables::copies::find` meets its contract: no entry before the next three is a copy.
-- Assumes nothing.
use Rattle.std.proofs.Common.{◌*◌, refl, sym, ◌∙◌}
use native.Mathlib.Omega.{arith}
use Rattle.calls.specs.Buffers.{first_of}
use Rattle.tables.proofs.Three.{third_at_most, found_in_three, read_to_it, not_in_three, none_may_be, none_on_card, all_read}
use Rattle.tables.proofs.copies.find.Goals as goal
use Rattle.tables.proofs.copies.find.Goals.{then-may_hold+else-bytes-ne0, else-may_hold}

pub loop-k-init : goal.loop-k-init
unfolding first_of
loop-k-init c = refl

pub overflow_add-result : goal.overflow_add-result
overflow_add-result c =
    let few = third_at_most c.args.content.0 c.args.card.titles.now c.args.card.rules.now (3 * c.loop-k.k) in
    omega (arith, c.bytes_to_copy-bytes.ensures)

pub returns-then-bytes-ne0-clause-found : goal.returns-then-bytes-ne0-clause-found
returns-then-bytes-ne0-clause-found c = found_in_three _ _ _ c.loop-k.invariant c.loop-k-test.true c.bytes_to_copy-bytes.ensures c.if-bytes-ne0.true

pub returns-then-bytes-ne0-clause-read : goal.returns-then-bytes-ne0-clause-read
returns-then-bytes-ne0-clause-read c = read_to_it _ _ _ c.loop-k.invariant c.loop-k-test.true c.bytes_to_copy-bytes.ensures c.if-bytes-ne0.true

pub returns-then-bytes-ne0-clause-at_most_999 : goal.returns-then-bytes-ne0-clause-at_most_999
returns-then-bytes-ne0-clause-at_most_999 c =
    let few = third_at_most c.args.content.0 c.args.card.titles.now c.args.card.rules.now (3 * c.loop-k.k) in
    omega (arith, c.bytes_to_copy-bytes.ensures)

pub loop-k-preserved : goal.loop-k-preserved
loop-k-preserved c =
    elim c.if-may_hold.branch [
      | then-may_hold+else-bytes-ne0 w ↦ not_in_three _ _ _ c.loop-k.invariant c.loop-k-test.true w.bytes_to_copy-bytes.ensures w.if-bytes-ne0.false
      | else-may_hold w ↦ none_may_be _ _ _ c.loop-k.invariant c.loop-k-test.true (sym w.if-may_hold.false ∙ c.may_hold.ensures)
    ]

pub returns-clause-found : goal.returns-clause-found
returns-clause-found c = none_on_card _ _ _ c.loop-k.invariant (omega arith)

pub returns-clause-read : goal.returns-clause-read
returns-clause-read c = all_read _ _ _ c.loop-k.invariant (omega arith)
