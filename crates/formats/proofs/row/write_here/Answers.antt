-- `formats::row::write_here` meets its contract: three fields of eight bytes.
-- Assumes nothing.
use Rattle.formats.proofs.row.Laws.{here_length, here_fields, three_fields}
use Rattle.formats.proofs.row.write_here.Goals as goal

pub returns : goal.returns
returns c =
    let f = c.args.facts in
    three_fields _ _ _ c.args.row.now c.if-row-ne24.false (here_length f) (here_fields f c.here.ensures) c.write.ensures c.write-2.ensures c.write-3.ensures
