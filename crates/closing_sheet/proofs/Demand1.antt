-- Demand 1 of the closing sheet.
-- Assumes nothing.
use Prim.Native.Nat.{ℕ, ◌+◌, ◌^◌, ◌≤◌, ◌<◌}
use mathlib.Core.Path.{◌≡◌, refl, sym, ap, ◌∙◌}
use mathlib.Core.List.{List, [], ◌∷◌}
use mathlib.Core.Bool.{cond}
use native.Mathlib.Omega.{arith}
use native.Mathlib.Decide.{ℕ_discrete}
use lib.ListN.{length}
use lib.Dec.{ltb, eqb}
use borrow.Author.Tests.{eq-eqb, ne_eqb, ltb-false, le-ltb}
use Rattle.formats.specs.declared.head.Pair.{Pair}
use Rattle.formats.specs.Bytes.{Bytes}
use Rattle.formats.specs.Part.{put}
use Rattle.formats.proofs.Bytes.{bytes_put}
use Rattle.formats.proofs.Part.{put_length}
use Rattle.requests.specs.Number.{written_answer}
use Rattle.requests.specs.Number.{Wrote, NotWritten}
use Rattle.requests.specs.declared.request.Request.{Request}
use Rattle.calls.specs.Buffers.{Buffers, Within}
use Rattle.calls.specs.History.{start, run}
use Rattle.calls.specs.Needs.{◌needs◌}
use Rattle.formats.specs.Head.{LedgerHead}
use Rattle.calls.specs.Refusal.{RefusedFirst, NoneHolds}
use Rattle.calls.proofs.Refusals.{refused_first, either_way}
use Rattle.calls.proofs.Fresh.{each_fresh_head}
use Rattle.calls.proofs.History.Always.{sound, heads_stay}
use Rattle.calls.proofs.Named.{heads_pass}
use Rattle.calls.proofs.Passed.{Tests, end, ◌then◌, answered_by, tests_ledger, tests_titles, tests_rules}
use Rattle.tables.proofs.Told.{told_other_pair}
use Rattle.closing_sheet.specs.Sheet.{sheet_text, sheet_conditions, sheet_refusal, sheet_writing, sheet_written_to}
use Rattle.closing_sheet.specs.Demand1.{sheet_answer, WritesSheet, SheetOtherPair, sheet_size, Demand1Sheet}
use Rattle.closing_sheet.proofs.sheet.Laws.{sheet_listed, sheet_most}

-- THE ANSWER

number_is : (w n : ℕ) → (written_answer (cond (eqb w 0) (Wrote n) (NotWritten w))).number ≡ w
number_is w n = elim (ℕ_discrete w 0) [ yes z ↦ rw (eq-eqb w 0 z) (sym z) | no other ↦ rw (ne_eqb w 0 other) ]

-- 1: there is room
tests_room : (room size : ℕ) → Tests (ltb room size) (size ≤ room)
tests_room room size = record { met = λ e. ltb-false room size e; unmet = λ h. le-ltb room size h }

module _ (pair : Pair) (b : Buffers) (text : List ℕ) where
  answer : sheet_answer pair b text ≡ sheet_refusal pair b text
  unfolding sheet_writing
  answer = number_is (sheet_refusal pair b text) (length (sheet_text b))

  room : NoneHolds (sheet_conditions pair b text) → 0 + length (sheet_text b) ≤ length text
  room fits = omega (arith, ltb-false (length text) (length (sheet_text b)) fits.1.1.1.0)

  writes_sheet : WritesSheet pair b text
  unfolding sheet_writing sheet_written_to sheet_refusal
  writes_sheet =
      let d : RefusedFirst (List ℕ) (7 ∷ 8 ∷ 9 ∷ 1 ∷ []) (sheet_conditions pair b text) (sheet_answer pair b text) text (sheet_written_to pair b text) (put text 0 (sheet_text b))
      = refused_first (sheet_conditions pair b text) refl refl answer (ap (λ (n : ℕ). cond (eqb n 0) (put text 0 (sheet_text b)) text) (sym answer)) in
      record {
        refused_first = d;
        answered = answered_by (tests_ledger b.ledger then tests_titles pair b.titles then tests_rules pair b then tests_room (length text) (length (sheet_text b)) then end) refl answer;
        answers_length = λ z. rw (eq-eqb (sheet_refusal pair b text) 0 (sym answer ∙ z)) refl;
        same_length = either_way (λ (l : List ℕ). length l ≡ length text) d refl (λ fits. put_length text (sheet_text b) 0 (room fits));
        stays_bytes = λ bytes. either_way Bytes d bytes (λ fits. bytes_put text 0 bytes (sheet_listed b));
      }

  sheet_other_pair : SheetOtherPair pair b text
  sheet_other_pair = told_other_pair pair b.titles b.rules (7 needs LedgerHead b.ledger ∷ []) _ (λ h. h.head) writes_sheet.answered

-- after calls on a fresh ledger and card the heads are right, and a text of that size has room
after_calls : (pair : Pair) (rows application : ℕ) → Within 999 rows → application < 2 ^ 16 → (ks : List Request) (text : List ℕ)
    → sheet_size ≤ length text → sheet_answer pair (run pair ks (start pair rows application application)).buffers text ≡ 0
after_calls pair rows application in_range_lem small ks text room =
    let w = start pair rows application application in
    let b = (run pair ks w).buffers in
    let heads = heads_pass (heads_stay pair ks w (each_fresh_head pair rows application application in_range_lem.from in_range_lem.to small small)) in
    let bytes = (sound pair rows application application in_range_lem.from in_range_lem.to ks).bytes in
    (writes_sheet pair b text).answered.done (heads.ledger, (heads.titles, (heads.rules, (omega (arith, sheet_most b bytes heads.ledger), tt))))

-- DEMAND 1
pub demand_1_sheet : Demand1Sheet
demand_1_sheet = record { writes = writes_sheet; of_other_pair = sheet_other_pair; room_for_any = sheet_most; after_calls = after_calls }
