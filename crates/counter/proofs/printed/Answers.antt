-- `counter::printed` meets its contract: the requests are served from a fresh ledger and card, and the lines of what was noted are written.
-- Assumes nothing.
use native.Mathlib.Omega.{arith}
use Rattle.counter.proofs.Laws.{served_in_front, lines_fit, end_fits, is_printed}
use Rattle.counter.proofs.printed.Goals as goal

pub slice_bounds-notes-end : goal.slice_bounds-notes-end
slice_bounds-notes-end c = (served_in_front _ c.requires c.from_fresh-served.ensures.serves).within

pub slice_bounds-write_lines-end : goal.slice_bounds-write_lines-end
slice_bounds-write_lines-end c = (served_in_front _ c.requires c.from_fresh-served.ensures.serves).taken

pub write_lines-requires : goal.write_lines-requires
write_lines-requires c = record { room = lines_fit (served_in_front _ c.requires c.from_fresh-served.ensures.serves) c.args.text.now (omega arith) }

pub write_end-requires : goal.write_end-requires
write_end-requires c =
    record {
      room =
          end_fits (served_in_front _ c.requires c.from_fresh-served.ensures.serves) _ (omega arith)
          (c.write_lines.ensures.place, c.write_lines.ensures.written);
    }

pub returns : goal.returns
returns c =
    let w =
    is_printed (served_in_front _ c.requires c.from_fresh-served.ensures.serves) _ (omega arith)
    (c.write_lines.ensures.place, c.write_lines.ensures.written)
    (c.write_end.ensures.place, c.write_end.ensures.written) in
    record { size = w.0; within = w.1.0; front = w.1.1.0; bytes = w.1.1.1 }
