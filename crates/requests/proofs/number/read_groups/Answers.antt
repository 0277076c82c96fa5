-- `requests::number::read_groups`: at each return the tests that led there say what reading comes to.
-- Assumes nothing.
use Rattle.std.proofs.Common.{ap, arith}
use Rattle.requests.specs.Number.{number_answer}
use Rattle.requests.proofs.number.Reading.{end, tenth, tenth_not, last_zero, only, last, next}
use Rattle.requests.proofs.number.read_groups.Goals as goal
use Rattle.requests.proofs.number.read_groups.Goals.{else-b-eq0-via-then-b-eq0+else-is_longer, else-b-eq0-via-else-b-eq0}

pub returns-then-b-eq1 : goal.returns-then-b-eq1
returns-then-b-eq1 c =
    ap number_answer (tenth c.loop-i.invariant c.loop-i-test.true c.if-i-eq9.true (rw c.from-b.ensures at c.if-b-eq1.true))

pub returns-then-i-eq9 : goal.returns-then-i-eq9
returns-then-i-eq9 c =
    ap number_answer (tenth_not c.loop-i.invariant c.loop-i-test.true c.if-i-eq9.true (rw c.from-b.ensures at c.if-b-eq1.false))

pub returns-then-is_longer : goal.returns-then-is_longer
returns-then-is_longer c =
    ap number_answer (last_zero c.loop-i.invariant c.loop-i-test.true c.if-i-eq9.false (rw c.from-b.ensures at c.if-b-eq0.true) c.if-is_longer.true)

pub returns-then-b-lt128 : goal.returns-then-b-lt128
returns-then-b-lt128 c =
    let small = rw c.from-b.ensures at c.if-b-lt128.true in
    rw c.from-b.ensures
    (ap number_answer
    (elim c.else-b-eq0.branch [
      | else-b-eq0-via-then-b-eq0+else-is_longer w ↦ only c.loop-i.invariant c.loop-i-test.true c.if-i-eq9.false small (omega arith)
      | else-b-eq0-via-else-b-eq0 w ↦ last c.loop-i.invariant c.loop-i-test.true c.if-i-eq9.false small (rw c.from-b.ensures at w.if-b-eq0.false)
    ]))

pub loop-i-preserved : goal.loop-i-preserved
loop-i-preserved c =
    rw c.from-b.ensures
    (next c.loop-i.invariant c.loop-i-test.true c.if-i-eq9.false (rw c.from-b.ensures at c.if-b-lt128.false) (omega (arith, c.type_inv.s c.loop-i.i)))

pub returns : goal.returns
returns c = ap number_answer (end c.loop-i.invariant c.loop-i-test.false)
