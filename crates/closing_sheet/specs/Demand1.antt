-- Demand 1 of the closing sheet, in the two forms in which it is said of the calls: by conditions, and by needs in the paper's words.
use Rattle.std.specs.Prelude.{ℕ, ◌^◌, ◌≤◌, ◌<◌, ◌≡◌, List, [], ◌∷◌, ◌++◌, length}
use Rattle.formats.specs.declared.head.Pair.{Pair}
use Rattle.formats.specs.Answer.{done}
use Rattle.formats.specs.Bytes.{Bytes}
use Rattle.formats.specs.Head.{LedgerHead}
use Rattle.formats.specs.Part.{put}
use Rattle.requests.specs.Number.{written_answer}
use Rattle.requests.specs.declared.request.Request.{Request}
use Rattle.calls.specs.Buffers.{Buffers, Within}
use Rattle.calls.specs.History.{start, run}
use Rattle.calls.specs.Refusal.{RefusedFirst}
use Rattle.calls.specs.Needs.{◌needs◌, AnsweredBy, head_needs}
use Rattle.calls.specs.Perform.{AreBytes}
use Rattle.tables.specs.Told.{ToldOtherPair}
use Rattle.closing_sheet.specs.Sheet.{sheet_text, sheet_conditions, sheet_writing, sheet_written_to}

abbrev pub sheet_answer : Pair → Buffers → List ℕ → ℕ
sheet_answer pair b text = (written_answer (sheet_writing pair b text)).number

-- 7, 8, 9 as for a call that is lent the card, then 1; refused, the text is as it was; else the sheet stands at its front
pub record WritesSheet (pair : Pair) (b : Buffers) (text : List ℕ) : Type 0 where
  pub refused_first : RefusedFirst (List ℕ) (7 ∷ 8 ∷ 9 ∷ 1 ∷ []) (sheet_conditions pair b text) (sheet_answer pair b text)
      text (sheet_written_to pair b text) (put text 0 (sheet_text b))
  pub answered : AnsweredBy (head_needs pair b ++ (1 needs (length (sheet_text b) ≤ length text) ∷ [])) (sheet_answer pair b text)
  -- done, it answers how many bytes the sheet has
  pub answers_length : sheet_answer pair b text ≡ 0 → written_answer (sheet_writing pair b text) ≡ done (length (sheet_text b) ∷ [])
  -- it ends in bounds
  pub same_length : length (sheet_written_to pair b text) ≡ length text
  pub stays_bytes : Bytes text → Bytes (sheet_written_to pair b text)

-- on a card of the other pair it is answered 8; where only the rule table is of the other pair, 9
abbrev pub SheetOtherPair : Pair → Buffers → List ℕ → Type 0
SheetOtherPair pair b text = ToldOtherPair pair b.titles b.rules (7 needs LedgerHead b.ledger ∷ []) (written_answer (sheet_writing pair b text))

-- the size that the C header has: room for any sheet
abbrev pub sheet_size : ℕ
sheet_size = 18432

-- DEMAND 1, of the closing sheet
pub record Demand1Sheet : Type 0 where
  pub writes : (pair : Pair) (b : Buffers) (text : List ℕ) → WritesSheet pair b text
  pub of_other_pair : (pair : Pair) (b : Buffers) (text : List ℕ) → SheetOtherPair pair b text
  pub room_for_any : (b : Buffers) → AreBytes b → LedgerHead b.ledger → length (sheet_text b) ≤ sheet_size
  -- after every list of calls on a fresh ledger and card of one application, there is a sheet
  pub after_calls : (pair : Pair) (rows application : ℕ) → Within 999 rows → application < 2 ^ 16 → (ks : List Request) (text : List ℕ)
      → sheet_size ≤ length text → sheet_answer pair (run pair ks (start pair rows application application)).buffers text ≡ 0
