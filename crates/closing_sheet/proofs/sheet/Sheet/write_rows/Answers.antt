-- `write_rows` writes each row's line behind those before it, and adds what it adds.
-- Assumes nothing.
use Rattle.std.proofs.Common.{◌≡◌, ◌<◌, refl, ◌∙◌, arith}
use Rattle.formats.specs.Head.{rows_of}
use Rattle.closing_sheet.proofs.sheet.Laws.{added_start, added_none, added_line, added_small, added_all, written_start, written_none, line_fits, written_line, written_all}
use Rattle.closing_sheet.proofs.sheet.Sheet.write_rows.Goals as goal
use Rattle.closing_sheet.proofs.sheet.Sheet.write_rows.Goals.{in-Some, in_default}

pub loop-k-init : goal.loop-k-init
loop-k-init c =
    record {
      added = rw (c.before_lines-sums.ensures.permits, c.before_lines-sums.ensures.copies) (added_start _);
      spent = c.before_lines-sums.ensures.spent;
      written = written_start _ _ c.requires.front c.requires.room;
      name = refl;
    }

pub add-requires : goal.add-requires
add-requires c =
    let (permits, copies) = added_small c.loop-k.invariant.added c.args.self.now.bytes.ledger (omega arith) c.in-Some.ensures in
    record { permits = permits; copies = copies }

pub write-requires : goal.write-requires
write-requires c = line_fits c.loop-k.invariant.written (omega arith) c.in-Some.ensures

pub loop-k-preserved : goal.loop-k-preserved
loop-k-preserved c =
    let i = c.loop-k.invariant in
    let more : c.loop-k.k < rows_of c.args.self.now.shop.ledger.now = omega arith in
    elim c.match-printed.branch [
      | in-Some w ↦
          let e = w.write.ensures in
          rw (w.sums-is, w.add.ensures.permits, w.add.ensures.copies, w.add.ensures.spent, w.text-is)
          (record {
            added = added_line i.added w.in-Some.ensures;
            spent = i.spent;
            written = written_line i.written more w.in-Some.ensures e.place e.written;
            name = e.name ∙ i.name;
          })
      | in_default w ↦
          rw (w.sums-is, w.text-is)
          (record { added = added_none i.added w.in_default.ensures; spent = i.spent; written = written_none i.written more w.in_default.ensures; name = i.name })
    ]

pub returns : goal.returns
returns c =
    let i = c.loop-k.invariant in
    let all : c.loop-k.k ≡ rows_of c.args.self.now.shop.ledger.now = omega arith in
    let (permits, copies) = added_all i.added all in
    let (place, written) = written_all i.written all in
    record { permits_total = permits; copies_total = copies; spent = i.spent; place = place; written = written; name = i.name }
