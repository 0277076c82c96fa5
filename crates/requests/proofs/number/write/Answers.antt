-- `requests::number::write`: it tests the length and leaves the rest to `store`.
-- Assumes nothing.
use Rattle.std.proofs.Common.{arith}
use Rattle.requests.specs.Number.{groups}
use Rattle.requests.proofs.number.Laws.{too_short, wrote}
use Rattle.requests.proofs.number.write.Goals as goal

pub returns-then-out-len : goal.returns-then-out-len
returns-then-out-len c =
    let short = too_short (groups c.args.x) c.args.out.now (omega arith) in
    record { answer = short.0; bytes = short.1 }

pub returns : goal.returns
returns c =
    let done = wrote (groups c.args.x) c.args.out.now (omega arith) (omega arith) c.store.ensures.bytes in
    record { answer = done.0; bytes = done.1 }
