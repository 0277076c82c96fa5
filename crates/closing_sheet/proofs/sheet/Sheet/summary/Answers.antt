-- `summary` adds what each row adds, and the length of the last two lines.
-- Assumes nothing.
use Rattle.std.proofs.Common.{◌≡◌, arith}
use Rattle.formats.specs.Head.{rows_of}
use Rattle.closing_sheet.proofs.sheet.Laws.{rows_most, added_start, added_none, added_line, added_small, added_all, measured_start, measured_none, measured_line, measured_all}
use Rattle.closing_sheet.proofs.sheet.Sheet.summary.Goals as goal
use Rattle.closing_sheet.proofs.sheet.Sheet.summary.Goals.{in-Some, in_default}

pub loop-k-init : goal.loop-k-init
loop-k-init c = record { added = rw (c.before_lines-sums.ensures.permits, c.before_lines-sums.ensures.copies) (added_start _); measured = measured_start _; spent = c.before_lines-sums.ensures.spent }

pub add-requires : goal.add-requires
add-requires c =
    let (permits, copies) = added_small c.loop-k.invariant.added c.args.self.now.bytes.ledger (omega arith) c.in-Some.ensures in
    record { permits = permits; copies = copies }

pub overflow_add-len : goal.overflow_add-len
overflow_add-len c = let few = rows_most _ c.args.self.now.bytes.ledger in omega (arith, c.loop-k.invariant.measured.short)

pub loop-k-preserved : goal.loop-k-preserved
loop-k-preserved c =
    let i = c.loop-k.invariant in
    elim c.match-printed.branch [
      | in-Some w ↦
          rw (w.sums-is, w.add.ensures.permits, w.add.ensures.copies, w.add.ensures.spent, w.len-is)
          (record {
            added = added_line i.added w.in-Some.ensures;
            measured = measured_line i.measured w.in-Some.ensures w.len-len.ensures.text_length w.len-len.ensures.at_most_105;
            spent = i.spent;
          })
      | in_default w ↦
          rw (w.sums-is, w.len-is) (record { added = added_none i.added w.in_default.ensures; measured = measured_none i.measured w.in_default.ensures; spent = i.spent })
    ]

pub overflow_add-result : goal.overflow_add-result
overflow_add-result c = let few = rows_most _ c.args.self.now.bytes.ledger in omega (arith, c.loop-k.invariant.measured.short)

pub returns : goal.returns
returns c =
    let i = c.loop-k.invariant in
    let all : c.loop-k.k ≡ rows_of c.args.self.now.shop.ledger.now = omega arith in
    let (permits, copies) = added_all i.added all in
    record { permits_total = permits; copies_total = copies; spent = i.spent; text_length = measured_all i.measured i.added i.spent all c.len.ensures.text_length }
