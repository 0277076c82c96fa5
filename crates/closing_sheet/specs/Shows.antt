-- What the sheet shows, once more and as facts: state by state what a line has, and what stands where in the text. Nothing here goes
-- by how `line_of` and `rows_text` compute it.
use Rattle.std.specs.Prelude.{ℕ, ◌+◌, ◌*◌, ◌≤◌, ◌<◌, ◌≡◌, ◌≢◌, List, [], ◌∷◌, ◌++◌, get_or, replicate, codes}
use Rattle.formats.specs.Head.{rows_of}
use Rattle.formats.specs.Half.{wiped}
use Rattle.formats.specs.Title.{title_half}
use Rattle.formats.specs.Rule.{rule_half}
use Rattle.formats.specs.Row.{here_row, plain_row}
use Rattle.formats.specs.declared.head.Pair.{Pair}
use Rattle.formats.specs.declared.facts.Facts.{Facts}
use Rattle.formats.specs.declared.row.RowState.TheVariants.{Empty, Here, Away, Gone, NoState}
use Rattle.formats.specs.declared.entry.EntryKind.TheVariants.{Full, Spent}
use Rattle.calls.specs.Buffers.{Buffers, state_at, kind_at, content_at, facts_at, copies, fresh, total, Within}
use Rattle.tables.specs.ByTitle.{spent_entries}
use Rattle.closing_sheet.specs.Sheet.{line_of, line_text, permits_total, copies_total, total_line, spent_line, sheet_text}

-- row c's line has this state, these permits and rights, and the tally's copies
abbrev pub Shows : Buffers → ℕ → ℕ → ℕ → ℕ → Type 0
Shows b c state permits rights =
    line_of b c ≡ record { row = c; state = state; permits = permits; rights = rights; copies = copies c b.titles b.rules }

-- no full entry before entry j has the ID c
abbrev pub NoFullBefore : Buffers → ℕ → ℕ → Type 0
NoFullBefore b c j = (i : ℕ) → 1 ≤ i → i < j → kind_at b i ≡ Full → content_at b i ≢ c

pub record LineShows (b : Buffers) (c : ℕ) : Type 0 where
  pub here : (f : Facts) → state_at b c ≡ Here f → Shows b c 1 f.permits f.rights
  -- "For an away title permits and rights are those on the card": in its first full entry
  pub away : (j : ℕ) → state_at b c ≡ Away → Within 999 j → kind_at b j ≡ Full → content_at b j ≡ c → NoFullBefore b c j
      → Shows b c 2 (facts_at b j).permits (facts_at b j).rights
  pub away_nowhere : state_at b c ≡ Away → NoFullBefore b c 1000 → Shows b c 2 0 0
  -- "for a gone one 0"
  pub gone : state_at b c ≡ Gone → Shows b c 3 0 0
  pub no_state : state_at b c ≡ NoState → Shows b c (get_or b.ledger (24 * c) 0) 0 0

-- "a line per row that is not empty, lowest first": what comes before a row's line is the text of the rows before it, and of an empty
-- row there is none. `up_to n` is the text of the rows 1 to n
pub record TextOf (b : Buffers) (up_to : ℕ → List ℕ) : Type 0 where
  pub starts : up_to 0 ≡ []
  pub printed : (c : ℕ) → state_at b (c + 1) ≢ Empty → up_to (c + 1) ≡ up_to c ++ line_text (line_of b (c + 1))
  pub not_printed : (c : ℕ) → state_at b (c + 1) ≡ Empty → up_to (c + 1) ≡ up_to c
  -- behind the last row `total` and the sums, and W7: "The sheet ends with a line `spent` and their number, after `total`"
  pub ends : sheet_text b
      ≡ up_to (rows_of b.ledger) ++ (total_line (permits_total b) (copies_total b) ++ spent_line (spent_entries b.titles b.rules))

-- "the sums of permits other than 15 and of copies over the printed lines": each is a sum over the rows, of what an addend says
pub record Totals (b : Buffers) (permits copied : ℕ → ℕ) : Type 0 where
  pub permits_total : permits_total b ≡ total (rows_of b.ledger) permits
  pub copies_total : copies_total b ≡ total (rows_of b.ledger) copied
  pub unlimited : (c : ℕ) → (line_of b c).permits ≡ 15 → permits c ≡ 0
  pub limited : (c : ℕ) → state_at b c ≢ Empty → (line_of b c).permits ≢ 15 → permits c ≡ (line_of b c).permits
  pub copies_of : (c : ℕ) → state_at b c ≢ Empty → copied c ≡ (line_of b c).copies
  pub empty : (c : ℕ) → state_at b c ≡ Empty → (permits c ≡ 0) × (copied c ≡ 0)

-- "their number": each entry counts that is spent, and no other
pub record SpentCounted (b : Buffers) (counts : ℕ → ℕ) : Type 0 where
  pub number : spent_entries b.titles b.rules ≡ total 999 counts
  pub of_spent : (j : ℕ) → kind_at b j ≡ Spent → counts j ≡ 1
  pub of_other : (j : ℕ) → kind_at b j ≢ Spent → counts j ≡ 0

-- "row, state, permits, move rights, copies on the card, as decimal numbers with one space between", the sums in their order, and the
-- number of spent entries
pub record SampleLines : Type 0 where
  pub a_line : line_text (record { row = 12; state = 1; permits = 3; rights = 4; copies = 5 }) ≡ codes "12 1 3 4 5\n"
  pub the_totals : total_line 140 67 ≡ codes "total 140 67\n"
  pub the_last : spent_line 250 ≡ codes "spent 250\n"

-- a whole sheet: title 1 is here, with a copy in entry 2; title 2 is away, in entry 1; row 3 is empty; title 4 is here, unlimited.
-- Entry 3 had a copy of title 4 that was checked in, and is spent
abbrev pub limited : Facts
limited = record { cci = 2; trigger = 0; rights = 7; permits = 14; title_key = 5; sti_key = 6 }

abbrev pub unlimited : Facts
unlimited = record { cci = 0; trigger = 1; rights = 15; permits = 15; title_key = 7; sti_key = 8 }

abbrev pub sample_buffers : Buffers
sample_buffers =
    record {
      ledger = 0 ∷ 0 ∷ 0 ∷ 4 ∷ (replicate 20 0 ++ (here_row limited ++ (plain_row 2 ++ (plain_row 0 ++ here_row unlimited))));
      titles = replicate 16 0 ++ (title_half 2 9 2 ++ (title_half 3 5 1 ++ wiped (title_half 0 7 4) 1));
      rules = replicate 32 0 ++ rule_half (record { cci = 2; trigger = 0; rights = 5; permits = 3; title_key = 9; sti_key = 10 }) 0 2;
    }

abbrev pub SampleSheet : Type 0
SampleSheet = sheet_text sample_buffers ≡ codes "1 1 14 7 1\n2 2 3 5 0\n4 1 15 15 0\ntotal 17 1\nspent 1\n"

-- of every ledger and card
pub record SheetShows : Type 0 where
  pub lines : (b : Buffers) (c : ℕ) → LineShows b c
  pub text : (b : Buffers) → (up_to : ℕ → List ℕ) × TextOf b up_to
  pub sums : (b : Buffers) → (permits : ℕ → ℕ) × (copied : ℕ → ℕ) × Totals b permits copied
  pub spent : (b : Buffers) → (counts : ℕ → ℕ) × SpentCounted b counts
  pub samples : SampleLines
  pub a_sheet : SampleSheet
  -- a fresh ledger and card
  pub fresh_sheet : (pair : Pair) (rows application card_application : ℕ) → 1 ≤ rows → rows ≤ 999
      → sheet_text (fresh pair rows application card_application) ≡ codes "total 0 0\nspent 0\n"
