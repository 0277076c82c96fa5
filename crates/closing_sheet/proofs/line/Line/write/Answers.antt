-- `write` writes five fields, one after another.
-- Assumes nothing.
use Rattle.std.proofs.Common.{◌∙◌}
use Rattle.text.specs.Text.{field}
use Rattle.text.proofs.Placed.{next, last}
use Rattle.closing_sheet.proofs.line.Laws.{line_start}
use Rattle.closing_sheet.proofs.line.Line.write.Goals as goal

pub returns : goal.returns
returns c =
    let room = c.requires in
    let l = c.args.self in
    let row = c.number.ensures in
    let state = c.number-2.ensures in
    let permits = c.number-3.ensures in
    let rights = c.number-4.ensures in
    let copies = c.number-5.ensures in
    let w =
    last (field l.copies 10) room
    (next (field l.rights 32) room
    (next (field l.permits 32) room
    (next (field l.state 32) room (next (field l.row 32) room (line_start l _ _) (row.place, row.written)) (state.place, state.written))
    (permits.place, permits.written))
    (rights.place, rights.written))
    (copies.place, copies.written) in
    record { place = w.0; written = w.1; name = copies.name ∙ rights.name ∙ permits.name ∙ state.name ∙ row.name }
