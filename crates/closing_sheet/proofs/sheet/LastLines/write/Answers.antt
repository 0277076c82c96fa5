-- `write` writes two words and three fields, one after another.
-- Assumes nothing.
use Rattle.std.proofs.Common.{◌∙◌}
use Rattle.text.specs.Text.{field}
use Rattle.text.proofs.Placed.{next, last}
use Rattle.closing_sheet.specs.Sheet.{total_word, spent_word}
use Rattle.closing_sheet.proofs.sheet.Laws.{last_start}
use Rattle.closing_sheet.proofs.sheet.LastLines.write.Goals as goal

pub returns : goal.returns
returns c =
    let room = c.requires in
    let a = c.args.self in
    let total = c.word.ensures in
    let permits = c.number.ensures in
    let copies = c.number-2.ensures in
    let word = c.word-2.ensures in
    let spent = c.number-3.ensures in
    let totals =
    next (field a.copies 10) room
    (next (field a.permits 32) room (next total_word room (last_start a.permits a.copies a.spent _ _) (total.place, total.written)) (permits.place, permits.written))
    (copies.place, copies.written) in
    let w = last (field a.spent 10) room (next spent_word room totals (word.place, word.written)) (spent.place, spent.written) in
    record { place = w.0; written = w.1; name = spent.name ∙ word.name ∙ copies.name ∙ permits.name ∙ total.name }
