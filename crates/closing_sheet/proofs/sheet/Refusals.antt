-- What writing a sheet answers and leaves, by the first check that fails.
-- Assumes nothing.
use Prim.Native.Nat.{ℕ, ◌≤◌, ◌<◌}
use mathlib.Core.Path.{◌≡◌, refl, sym, ap, ◌∙◌}
use mathlib.Core.Logic.{◌≢◌}
use mathlib.Core.List.{List, [], ◌∷◌}
use native.Mathlib.Omega.{arith}
use lib.ListN.{length}
use lib.Dec.{ltb}
use borrow.Author.Tests.{ne_eqb, lt-ltb, le-ltb}
use Rattle.formats.specs.declared.head.Pair.{Pair}
use Rattle.formats.specs.Answer.{done, refused}
use Rattle.formats.specs.Part.{put}
use Rattle.requests.specs.Number.{written_answer}
use Rattle.formats.specs.Head.{LedgerHead}
use Rattle.calls.specs.Buffers.{Buffers}
use Rattle.calls.specs.Conditions.{all_head_conditions}
use Rattle.calls.specs.Refusal.{◌when◌, first}
use Rattle.calls.proofs.Passed.{tests_ledger}
use Rattle.calls.proofs.Refusals.{hit, skip, end, first_stage, next_stage, to_none}
use Rattle.closing_sheet.specs.Sheet.{sheet_text, sheet_refusal, sheet_writing, sheet_written_to}

module _ (pair : Pair) (b : Buffers) (text : List ℕ) where
  -- refused with the number w, nothing changes
  refuses : {w : ℕ} → w ≡ sheet_refusal pair b text → w ≢ 0 → (refused w ≡ written_answer (sheet_writing pair b text)) × (text ≡ sheet_written_to pair b text)
  unfolding sheet_writing sheet_written_to
  refuses e some = rw (sym e, ne_eqb _ 0 some) (refl, refl)

  -- a head is wrong
  pub head_refused : {w : ℕ} → w ≡ first (all_head_conditions pair b) → w ≢ 0 → (refused w ≡ written_answer (sheet_writing pair b text)) × (text ≡ sheet_written_to pair b text)
  unfolding sheet_refusal
  head_refused e some = refuses (first_stage (all_head_conditions pair b) _ e some) some

  module _ {w : ℕ} (heads : w ≡ first (all_head_conditions pair b)) (right : w ≡ 0) where
    past_heads : {n : ℕ} → n ≡ first (1 when ltb (length text) (length (sheet_text b)) ∷ []) → n ≡ sheet_refusal pair b text
    unfolding sheet_refusal
    past_heads e = next_stage (all_head_conditions pair b) _ refl (sym heads ∙ right) e

    -- the ledger's head is right
    pub ledger_right : LedgerHead b.ledger
    ledger_right = (tests_ledger b.ledger).met (to_none (all_head_conditions pair b) refl (sym heads ∙ right)).0

    -- the text is too short
    pub no_room : length text < length (sheet_text b) → (refused 1 ≡ written_answer (sheet_writing pair b text)) × (text ≡ sheet_written_to pair b text)
    no_room h = refuses (past_heads (hit 1 _ [] (lt-ltb (length text) (length (sheet_text b)) h))) (λ z. omega arith)

    -- the sheet is written
    pub written : {n : ℕ} {after : List ℕ} → length (sheet_text b) ≤ length text → n ≡ length (sheet_text b) → after ≡ put text 0 (sheet_text b)
        → (done (n ∷ []) ≡ written_answer (sheet_writing pair b text)) × (after ≡ sheet_written_to pair b text)
    unfolding sheet_writing sheet_written_to
    written h n after =
        let z = past_heads (skip 1 0 _ [] (le-ltb (length text) (length (sheet_text b)) h) end) in
        rw (sym z) (ap (λ (k : ℕ). done (k ∷ [])) n, after)
