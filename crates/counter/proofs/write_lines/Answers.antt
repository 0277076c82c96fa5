-- `counter::write_lines` meets its contract.
-- Assumes nothing.
use mathlib.Core.Path.{◌∙◌}
use Rattle.counter.proofs.Laws.{writing_next, writing_all}
use Rattle.counter.proofs.write_lines.Goals as goal

pub loop-note-preserved : goal.loop-note-preserved
loop-note-preserved c =
    let last = c.number-in-loop-note.ensures in
    record {
      lines =
          writing_next c.loop-note.invariant.lines _ c.loop-note-test.true
          (c.number.ensures.place, c.number.ensures.written)
          (last.place, last.written);
      name = last.name ∙ c.number.ensures.name ∙ c.loop-note.invariant.name;
    }

pub returns : goal.returns
returns c =
    let w = writing_all c.loop-note.invariant.lines c.loop-note-test.false in
    record { place = w.0; written = w.1; name = c.loop-note.invariant.name }
