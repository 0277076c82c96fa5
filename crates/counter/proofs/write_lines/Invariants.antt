-- The loop of `counter::write_lines`: the lines of the requests before the next one are written.
-- Assumes nothing.
use Rattle.std.proofs.Common.{◌≡◌}
use Rattle.counter.proofs.Laws.{Writing}
use Rattle.counter.proofs.write_lines.Given as goal

abbrev pub invariant-loop-note : goal.invariant-loop-note
invariant-loop-note l =
    record {
      lines : Writing l.notes l.initial.text.out.now l.initial.text.at l.text.out.now l.text.at l.note-index;
      name : l.text.out.ghost_name ≡ l.initial.text.out.ghost_name;
    }
