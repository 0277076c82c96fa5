-- The closing sheet of a ledger and a card: a line for each row that is not empty, the totals, and the number of spent entries. The
-- quotes are document 02's.
use Rattle.std.specs.Prelude.{codes, ℕ, zero, suc, ◌*◌, List, [], ◌∷◌, ◌++◌, Option, None, Some, cond, length, get_or, ltb, eqb}
use Rattle.formats.specs.Head.{rows_of}
use Rattle.formats.specs.Part.{put}
use Rattle.formats.specs.declared.head.Pair.{Pair}
use Rattle.formats.specs.declared.facts.Facts.{Facts}
use Rattle.formats.specs.declared.row.RowState.{RowState}
use Rattle.formats.specs.declared.row.RowState.TheVariants.{Empty, Here, Away, Gone, NoState}
use Rattle.requests.specs.Number.{Written, Wrote, NotWritten}
use Rattle.formats.specs.Rule.{rights_of, permits_of}
use Rattle.calls.specs.Buffers.{Buffers, rule_at, state_in, state_at, is_empty, copies, total}
use Rattle.calls.specs.Conditions.{all_head_conditions}
use Rattle.calls.specs.Refusal.{Condition, ◌when◌, first}
use Rattle.tables.specs.ByTitle.{first_full, spent_entries}
use Rattle.text.specs.Text.{line}
use Rattle.closing_sheet.specs.declared.line.Line.{Line}

-- A LINE: "row, state, permits, move rights, copies on the card"

-- "0 empty, 1 here, 2 away on the card, 3 gone" (document 01); a row in no state shows its byte 0
abbrev pub state_shown : RowState → ℕ → ℕ
state_shown Empty byte = 0
state_shown (Here f) byte = 1
state_shown Away byte = 2
state_shown Gone byte = 3
state_shown NoState byte = byte

-- "For an away title permits and rights are those on the card; for a gone one 0": one of these two, of a row that is here its own, and
-- none of a row in no state
abbrev pub shown : RowState → (Facts → ℕ) → ℕ → ℕ
shown Empty own card = 0
shown (Here f) own card = own f
shown Away own card = card
shown Gone own card = 0
shown NoState own card = 0

-- those on the card, in entry j; none where j is 0
abbrev pub permits_on_card : List ℕ → ℕ → ℕ
permits_on_card rules j = cond (eqb j 0) 0 (permits_of (rule_at rules j))

abbrev pub rights_on_card : List ℕ → ℕ → ℕ
rights_on_card rules j = cond (eqb j 0) 0 (rights_of (rule_at rules j))

-- the line of row c of a ledger, where n copies of its title are on the card, and entry j is its full one, or none is and j is 0
unfoldable pub line_with : List ℕ → List ℕ → ℕ → ℕ → ℕ → Line
line_with ledger rules c n j =
    record {
      row = c;
      state = state_shown (state_in ledger c) (get_or ledger (24 * c) 0);
      permits = shown (state_in ledger c) (λ f. f.permits) (permits_on_card rules j);
      rights = shown (state_in ledger c) (λ f. f.rights) (rights_on_card rules j);
      copies = n;
    }

-- by what the card has: its copies, and its first full entry
abbrev pub line_of : Buffers → ℕ → Line
line_of b c = line_with b.ledger b.rules c (copies c b.titles b.rules) (first_full c b.titles b.rules)

-- "as decimal numbers with one space between"
unfoldable pub line_text : Line → List ℕ
line_text l = line (l.row ∷ l.state ∷ l.permits ∷ l.rights ∷ l.copies ∷ [])

-- THE LINES: "a line per row that is not empty, lowest first"

-- what is printed of row c
unfoldable pub row_text : Buffers → ℕ → List ℕ
row_text b c = cond (is_empty (state_at b c)) [] (line_text (line_of b c))

-- of the rows 1 to n
unfoldable pub rows_text : ℕ → Buffers → List ℕ
rows_text zero b = []
rows_text (suc n) b = rows_text n b ++ row_text b (suc n)

-- THE TOTALS: "the sums of permits other than 15 and of copies over the printed lines"

abbrev pub other_than_15 : ℕ → ℕ
other_than_15 permits = cond (eqb permits 15) 0 permits

-- what row c adds to each, where its line is printed
unfoldable pub permits_added : Buffers → ℕ → ℕ
permits_added b c = cond (is_empty (state_at b c)) 0 (other_than_15 (line_of b c).permits)

unfoldable pub copies_added : Buffers → ℕ → ℕ
copies_added b c = cond (is_empty (state_at b c)) 0 (line_of b c).copies

unfoldable pub permits_total : Buffers → ℕ
permits_total b = total (rows_of b.ledger) (permits_added b)

unfoldable pub copies_total : Buffers → ℕ
copies_total b = total (rows_of b.ledger) (copies_added b)

-- `total` and a space
abbrev pub total_word : List ℕ
total_word = codes "total "

-- "`total`, then the sums"
unfoldable pub total_line : ℕ → ℕ → List ℕ
total_line permits copies = total_word ++ line (permits ∷ copies ∷ [])

-- `spent` and a space
abbrev pub spent_word : List ℕ
spent_word = codes "spent "

-- W7: "a line `spent` and their number"
unfoldable pub spent_line : ℕ → List ℕ
spent_line spent = spent_word ++ line (spent ∷ [])

-- W7: "The sheet ends with" it, "after `total`"
unfoldable pub last_lines : ℕ → ℕ → ℕ → List ℕ
last_lines permits copies spent = total_line permits copies ++ spent_line spent

-- THE SHEET
unfoldable pub sheet_text : Buffers → List ℕ
sheet_text b = rows_text (rows_of b.ledger) b ++ last_lines (permits_total b) (copies_total b) (spent_entries b.titles b.rules)

-- WRITING IT into a lent text: 7, 8 and 9 as for a call, then 1 where the text has no room for the sheet
abbrev pub sheet_conditions : Pair → Buffers → List ℕ → List Condition
sheet_conditions pair b text = all_head_conditions pair b ++ (1 when ltb (length text) (length (sheet_text b)) ∷ [])

unfoldable pub sheet_refusal : Pair → Buffers → List ℕ → ℕ
sheet_refusal pair b text = first (sheet_conditions pair b text)

-- the answer: how many bytes the sheet has, or the refusal
unfoldable pub sheet_writing : Pair → Buffers → List ℕ → Written
sheet_writing pair b text = cond (eqb (sheet_refusal pair b text) 0) (Wrote (length (sheet_text b))) (NotWritten (sheet_refusal pair b text))

-- and the text afterwards: the sheet at its front, or as it was
unfoldable pub sheet_written_to : Pair → Buffers → List ℕ → List ℕ
sheet_written_to pair b text = cond (eqb (sheet_refusal pair b text) 0) (put text 0 (sheet_text b)) text

-- ONLY FOR THE CODE'S HELPERS

-- the line of row c, where it is printed
abbrev pub printed : Buffers → ℕ → Option Line
printed b c = cond (is_empty (state_at b c)) None (Some (line_of b c))
