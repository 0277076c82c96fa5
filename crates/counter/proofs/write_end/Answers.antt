-- `counter::write_end` meets its contract: the word and a field, one after the other.
-- Assumes nothing.
use mathlib.Core.Path.{◌∙◌}
use Rattle.text.specs.Text.{field}
use Rattle.text.proofs.Placed.{next, last}
use Rattle.formats.specs.Refusal.{answer_number}
use Rattle.counter.specs.Printed.{end_word}
use Rattle.counter.proofs.Laws.{end_start}
use Rattle.counter.proofs.write_end.Goals as goal

pub returns : goal.returns
returns c =
    let w =
    last (field (answer_number c.args.stop) 10) c.requires.room
    (next end_word c.requires.room (end_start (answer_number c.args.stop) _ _) (c.word.ensures.place, c.word.ensures.written))
    (rw c.number.ensures at c.number-2.ensures.place, rw c.number.ensures at c.number-2.ensures.written) in
    record { place = w.0; written = w.1; name = c.number-2.ensures.name ∙ c.word.ensures.name }
