-- `tables::format::fresh_table` meets its contract: the fields of the head one after the other, and zeros.
-- Assumes nothing.
use native.Mathlib.Omega.{arith}
use lib.ListN.{length}
use Rattle.formats.specs.Field.{bytes_of}
use Rattle.formats.specs.Head.{table_head}
use Rattle.formats.proofs.Writes.{wrote_start, wrote_byte, wrote_field}
use Rattle.tables.proofs.Fresh.{cleared_behind}
use Rattle.tables.proofs.format.fresh_table.Goals as goal

pub returns : goal.returns
unfolding table_head bytes_of
returns c =
    let a = c.args in
    let before = a.table.now in
    let w1 = wrote_field 2 a.identifier (wrote_start 0 before (omega arith)) (omega arith) c.write.ensures in
    let w2 = wrote_byte a.version (wrote_byte 0 w1 (omega arith)) (omega arith) in
    let w3 = wrote_field 4 (length before) w2 (omega arith) c.write-2.ensures in
    let w4 = wrote_field 2 a.application w3 (omega arith) c.write-3.ensures in
    let w5 = wrote_field 2 999 w4 (omega arith) c.write-4.ensures in
    let w6 = wrote_byte a.mark (wrote_byte a.width w5 (omega arith)) (omega arith) in
    cleared_behind w6 (c.fill.ensures.after (λ y e. e))
