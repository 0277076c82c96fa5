-- `sheet::printed` meets its contract: the requests are served from a fresh ledger and card, and the sheet of what they left is written.
-- Assumes nothing.
use native.Mathlib.Omega.{arith}
use Rattle.sheet.proofs.Laws.{is_printed}
use Rattle.sheet.proofs.printed.Goals as goal

pub returns : goal.returns
returns c =
    let answer = rw c.new-shop.ensures at c.write.ensures.answer in
    let written = rw c.new-shop.ensures at c.write.ensures.written in
    let w =
    is_printed _ _ (omega arith) c.from_fresh.ensures.serves.buffers c.write.result (answer, written) c.unwrap_or.ensures in
    record { size = w.0; within = w.1.0; front = w.1.1.0; bytes = w.1.1.1 }
