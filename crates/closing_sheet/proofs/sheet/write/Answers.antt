-- `write`: the heads, the room, then the rows and the last two lines. What is found out about the sheet's buffers is of those that are lent.
-- Assumes nothing.
use mathlib.Core.Path.{refl, sym, ap, ◌∙◌}
use Rattle.std.proofs.Common.{rules}
use borrow.Author.Tests.{leb-true, leb-false}
use Rattle.formats.proofs.refusal.Laws.{some_number, handed_alone}
use Rattle.requests.specs.Number.{written_answer}
use Rattle.calls.specs.Buffers.{Buffers}
use Rattle.calls.specs.Refusal.{first}
use Rattle.calls.specs.Conditions.{all_head_conditions}
use Rattle.closing_sheet.specs.Sheet.{sheet_writing, sheet_written_to}
use Rattle.closing_sheet.proofs.sheet.Laws.{rows_fit, last_fits, sheet_put}
use Rattle.closing_sheet.proofs.sheet.Refusals.{head_refused, ledger_right, no_room, written}
use Rattle.closing_sheet.proofs.sheet.write.Goals as goal

pub returns-in_err-check_heads : goal.returns-in_err-check_heads
returns-in_err-check_heads c =
    let w = head_refused _ _ _ c.in_err-check_heads.ensures (some_number _) in
    record { answer = handed_alone c.from_residual.result _ c.from_residual.ensures.1 _ ∙ w.0; written = w.1 }

pub has_room-requires : goal.has_room-requires
has_room-requires c =
    ledger_right c.args.pair _ c.args.text.now (c.in_ok-check_heads.ensures ∙ ap (λ (b : Buffers). first (all_head_conditions c.args.pair b)) (sym c.of-sheet.ensures)) refl

pub returns-then-not-has_room : goal.returns-then-not-has_room
returns-then-not-has_room c =
    let heads = c.in_ok-check_heads.ensures ∙ ap (λ (b : Buffers). first (all_head_conditions c.args.pair b)) (sym c.of-sheet.ensures) in
    let w = no_room c.args.pair _ c.args.text.now heads refl (leb-false _ _ (sym c.has_room.ensures ∙ c.if-not-has_room.true)) in
    record {
      answer = w.0 ∙ ap (λ (b : Buffers). written_answer (sheet_writing c.args.pair b c.args.text.now)) c.of-sheet.ensures;
      written = w.1 ∙ ap (λ (b : Buffers). sheet_written_to c.args.pair b c.args.text.now) c.of-sheet.ensures;
    }

pub write_rows-sums-requires-clause-room : goal.write_rows-sums-requires-clause-room
write_rows-sums-requires-clause-room c = rows_fit _ _ (leb-true _ _ (sym c.has_room.ensures ∙ c.if-not-has_room.false))

pub write-requires : goal.write-requires
write-requires c =
    let r = c.write_rows-sums.ensures in
    last_fits _ _ (leb-true _ _ (sym c.has_room.ensures ∙ c.if-not-has_room.false)) r.permits_total r.copies_total r.spent (r.place, r.written)

pub returns : goal.returns
returns c =
    let heads = c.in_ok-check_heads.ensures ∙ ap (λ (b : Buffers). first (all_head_conditions c.args.pair b)) (sym c.of-sheet.ensures) in
    let r = c.write_rows-sums.ensures in
    let t = c.write.ensures in
    let room = leb-true _ _ (sym c.has_room.ensures ∙ c.if-not-has_room.false) in
    let e = sheet_put _ _ room r.permits_total r.copies_total r.spent (r.place, r.written) (t.place, t.written) in
    let w = written c.args.pair _ _ heads refl room e.0 e.1 in
    let after = w.1 ∙ ap (λ (b : Buffers). sheet_written_to c.args.pair b c.args.text.now) c.of-sheet.ensures in
    let name = sym (t.name ∙ r.name) in
    record {
      answer = w.0 ∙ ap (λ (b : Buffers). written_answer (sheet_writing c.args.pair b c.args.text.now)) c.of-sheet.ensures;
      written = search rules;
    }
