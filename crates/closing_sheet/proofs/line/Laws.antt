-- A row's line: what it shows, how long it is as text, and how large its numbers are.
-- Assumes nothing.
use Prim.Native.Nat.{ℕ, ◌+◌, ◌*◌, ◌≤◌}
use mathlib.Core.Path.{◌≡◌, refl, sym, ap, subst}
use mathlib.Core.List.{List, ◌++◌}
use mathlib.Core.Bool.{Bool, true, false, cond, ◌&&◌, true≢false}
use native.Mathlib.Omega.{arith}
use lib.ListN.{length, get_or, length-append}
use lib.Dec.{eqb, leb}
use Rattle.formats.specs.Head.{rows_of}
use Rattle.formats.specs.Row.{state_of}
use Rattle.formats.specs.declared.facts.Facts.{Facts}
use Rattle.formats.specs.declared.row.RowState.{RowState}
use Rattle.formats.specs.declared.row.RowState.TheVariants.{Empty, Here, Away, Gone, NoState}
use Rattle.formats.specs.Bytes.{Bytes}
use Rattle.formats.specs.Rule.{permits_of, rights_of}
use Rattle.formats.proofs.Bytes.{Listed, then, bytes_part}
use Rattle.formats.proofs.Stores.{Storing, start}
use Rattle.formats.proofs.facts.Laws.{Ranges, ranges}
use Rattle.formats.proofs.row.Laws.{here_facts_lem}
use Rattle.calls.specs.Buffers.{Buffers, row_at, title_at, rule_at, state_in, state_at, is_here, copies, copy_of}
use Rattle.calls.specs.Perform.{AreBytes}
use Rattle.tables.specs.ByTitle.{first_full}
use Rattle.tables.proofs.PerTitle.{ones}
use Rattle.text.specs.Text.{decimal, field, line}
use Rattle.text.proofs.Decimal.{field_length, field_listed, length_most}
use Rattle.closing_sheet.specs.declared.line.Line.{Line}
use Rattle.closing_sheet.specs.Sheet.{state_shown, shown, permits_on_card, rights_on_card, line_with, line_of, line_text}

-- the text of a line, field by field
line_fields : (l : Line)
    → line_text l ≡ field l.row 32 ++ (field l.state 32 ++ (field l.permits 32 ++ (field l.rights 32 ++ field l.copies 10)))
unfolding line_text line
line_fields l = refl

-- so it is stored field by field
pub line_start : (l : Line) (out : List ℕ) (at : ℕ)
    → Storing (line_text l) out at out at (field l.row 32 ++ (field l.state 32 ++ (field l.permits 32 ++ (field l.rights 32 ++ field l.copies 10))))
line_start l out at = subst (Storing (line_text l) out at out at) (line_fields l) (start (line_text l) out at)

pub line_length : (l : Line)
    → length (line_text l)
    ≡ length (decimal l.row) + length (decimal l.state) + length (decimal l.permits) + length (decimal l.rights) + length (decimal l.copies) + 5
line_length l = rw (line_fields l) (simp (length-append, field_length) (omega arith))

-- and bytes
pub line_listed : (l : Line) → Listed (line_text l)
line_listed l =
    rw (line_fields l)
    (then (field_listed l.row 32 (omega arith))
    (then (field_listed l.state 32 (omega arith))
    (then (field_listed l.permits 32 (omega arith)) (then (field_listed l.rights 32 (omega arith)) (field_listed l.copies 10 (omega arith))))))

-- HOW LARGE THE NUMBERS ARE

copies_most : (c : ℕ) (titles rules : List ℕ) → copies c titles rules ≤ 999
unfolding copies
copies_most c titles rules = ones 999 (λ j. copy_of c (title_at titles j) (rule_at rules j))

pub line_copies : (b : Buffers) (c : ℕ) → (line_of b c).copies ≤ 999
unfolding line_with
line_copies b c = copies_most c b.titles b.rules

-- what is on the card is half a byte each
card_permits : (r : List ℕ) (j : ℕ) → permits_on_card r j ≤ 15
card_permits r j = by (eqb j 0)
  where
    by : (x : Bool) → cond x 0 (permits_of (rule_at r j)) ≤ 15
    by true = omega arith
    by false = omega arith

card_rights : (r : List ℕ) (j : ℕ) → Bytes r → rights_on_card r j ≤ 15
card_rights r j bytes = by (eqb j 0)
  where
    by : (x : Bool) → cond x 0 (rights_of (rule_at r j)) ≤ 15
    by true = omega arith
    by false = omega (arith, bytes_part r (32 * j) 32 bytes 17)

-- those of a row that is here are in range
in_row : (l : List ℕ) (c : ℕ) {f : Facts} → state_in l c ≡ Here f → Ranges f
unfolding state_in
in_row l c {f} e = by (leb 1 c && leb c (rows_of l)) e
  where
    by : (x : Bool) → cond x (state_of (row_at l c)) NoState ≡ Here f → Ranges f
    by true h = ranges (here_facts_lem (row_at l c) h).passes
    by false h = absurd (true≢false (sym (ap is_here h)))

pub permits_most : (b : Buffers) (c : ℕ) → (line_of b c).permits ≤ 15
unfolding line_with
permits_most b c = by (state_at b c) refl
  where
    by : (s : RowState) → state_at b c ≡ s → shown s (λ f. f.permits) (permits_on_card b.rules (first_full c b.titles b.rules)) ≤ 15
    by Empty e = omega arith
    by (Here f) e = (in_row b.ledger c e).permits
    by Away e = omega (arith, card_permits b.rules (first_full c b.titles b.rules))
    by Gone e = omega arith
    by NoState e = omega arith

pub rights_most : (b : Buffers) (c : ℕ) → Bytes b.rules → (line_of b c).rights ≤ 15
unfolding line_with
rights_most b c bytes = by (state_at b c) refl
  where
    by : (s : RowState) → state_at b c ≡ s → shown s (λ f. f.rights) (rights_on_card b.rules (first_full c b.titles b.rules)) ≤ 15
    by Empty e = omega arith
    by (Here f) e = (in_row b.ledger c e).rights
    by Away e = omega (arith, card_rights b.rules (first_full c b.titles b.rules) bytes)
    by Gone e = omega arith
    by NoState e = omega arith

pub state_most : (b : Buffers) (c : ℕ) → Bytes b.ledger → (line_of b c).state ≤ 255
unfolding line_with
state_most b c bytes = by (state_at b c)
  where
    by : (s : RowState) → state_shown s (get_or b.ledger (24 * c) 0) ≤ 255
    by Empty = omega arith
    by (Here f) = omega arith
    by Away = omega arith
    by Gone = omega arith
    by NoState = omega (arith, bytes (24 * c))

-- so a line has at most 18 bytes
pub line_most : (b : Buffers) (c : ℕ) → AreBytes b → c ≤ 999 → length (line_text (line_of b c)) ≤ 18
line_most b c bytes few =
    let l = line_of b c in
    let row = length_most 2 l.row (unfold line_with in omega arith) in
    let state = length_most 2 l.state (omega (arith, state_most b c bytes.ledger)) in
    let permits = length_most 1 l.permits (omega (arith, permits_most b c)) in
    let rights = length_most 1 l.rights (omega (arith, rights_most b c bytes.rules)) in
    let copies = length_most 2 l.copies (omega (arith, line_copies b c)) in
    omega (arith, line_length l)
