-- The sheet put together row by row.
-- Assumes nothing.
use Prim.Native.Nat.{ℕ, zero, suc, ◌+◌, ◌-◌, ◌*◌, ◌^◌, ◌≤◌, ◌<◌}
use mathlib.Core.Path.{◌≡◌, refl, sym, ap, ap₂, subst, ◌∙◌}
use mathlib.Core.List.{List, [], ◌++◌, append_assoc}
use mathlib.Core.Bool.{Bool, true, false, cond}
use Rattle.std.specs.Prelude.{None, Some}
use native.Mathlib.Omega.{arith}
use native.Mathlib.Numerals.{add-one}
use native.Mathlib.Nat.{add-zero, zero-add, suc-add, pow-le-pow_right}
use lib.ListN.{length, take, drop, length-append, take-append-drop}
use lib.Seq.{take_all}
use lib.Dec.{eqb}
use Rattle.formats.specs.Head.{LedgerHead, rows_of}
use Rattle.formats.specs.Bytes.{Bytes}
use Rattle.formats.specs.Field.{number}
use Rattle.formats.specs.Part.{part, put}
use Rattle.formats.proofs.Bytes.{Listed, none, more, then, bytes_part}
use Rattle.formats.proofs.Part.{put_next, put_length, part_most}
use Rattle.formats.proofs.field.Laws.{number_below}
use Rattle.formats.proofs.Stores.{Storing, start}
use Rattle.formats.specs.declared.row.RowState.{RowState}
use Rattle.formats.specs.declared.row.RowState.TheVariants.{Empty, Here, Away, Gone, NoState}
use Rattle.calls.specs.Buffers.{Buffers, state_at, is_empty, total}
use Rattle.calls.specs.Perform.{AreBytes}
use Rattle.tables.specs.ByTitle.{spent_entries}
use Rattle.tables.proofs.PerTitle.{spent_most}
use Rattle.text.specs.Text.{decimal, field, line}
use Rattle.text.proofs.Decimal.{field_length, field_listed, length_most}
use Rattle.closing_sheet.specs.declared.line.Line.{Line}
use Rattle.closing_sheet.specs.Sheet.{line_of, line_text, row_text, rows_text, other_than_15, permits_added, copies_added, permits_total, copies_total, total_word, total_line, spent_word, spent_line, last_lines, sheet_text, printed}
use Rattle.closing_sheet.proofs.line.Laws.{permits_most, line_copies, line_listed, line_most}

-- ONE ROW

pub not_empty : (s : RowState) → (s ≡ Empty → ⊥) → is_empty s ≡ false
not_empty Empty h = absurd (h refl)
not_empty (Here f) h = refl
not_empty Away h = refl
not_empty Gone h = refl
not_empty NoState h = refl

pub other_most : (n : ℕ) → other_than_15 n ≤ n
other_most n = by (eqb n 15)
  where
    by : (x : Bool) → cond x 0 n ≤ n
    by true = omega arith
    by false = omega arith

module _ (b : Buffers) (c : ℕ) where
  -- an empty row has no line and adds nothing
  pub row_empty : is_empty (state_at b c) ≡ true → (row_text b c ≡ []) × (permits_added b c ≡ 0) × (copies_added b c ≡ 0)
  unfolding row_text permits_added copies_added
  row_empty e = rw e (refl, refl, refl)

  -- any other adds what its line has
  pub row_printed : is_empty (state_at b c) ≡ false
      → (row_text b c ≡ line_text (line_of b c)) × (permits_added b c ≡ other_than_15 (line_of b c).permits) × (copies_added b c ≡ (line_of b c).copies)
  unfolding row_text permits_added copies_added
  row_printed e = rw e (refl, refl, refl)

  -- what is printed of a row, by its state as it was read
  pub prints_none : Empty ≡ state_at b c → None ≡ printed b c
  prints_none e = rw (sym e) refl

  pub prints : {s : RowState} {l : Line} → s ≡ state_at b c → (s ≡ Empty → ⊥) → l ≡ line_of b c → Some l ≡ printed b c
  prints {s} e some l = rw (sym e, not_empty s some) (ap (λ (k : Line). Some k) l)

  -- what is not printed adds nothing
  pub none_adds : None ≡ printed b c → (row_text b c ≡ []) × (permits_added b c ≡ 0) × (copies_added b c ≡ 0)
  none_adds e = row_empty (by (is_empty (state_at b c)) e)
    where
      by : (x : Bool) → None ≡ cond x None (Some (line_of b c)) → x ≡ true
      by true h = refl
      by false h = cc

  -- and what is adds what the line has
  printed_is : {l : Line} → Some l ≡ printed b c → (is_empty (state_at b c) ≡ false) × (l ≡ line_of b c)
  printed_is {l} e = by (is_empty (state_at b c)) e
    where
      by : (x : Bool) → Some l ≡ cond x None (Some (line_of b c)) → (x ≡ false) × (l ≡ line_of b c)
      by true h = (cc, cc)
      by false h = (refl, cc)

  pub line_adds : {l : Line} → Some l ≡ printed b c
      → (row_text b c ≡ line_text l) × (permits_added b c ≡ other_than_15 l.permits) × (copies_added b c ≡ l.copies)
  line_adds {l} e = let (some, is) = printed_is e in rw is (row_printed some)

-- THE ROWS, one after another

pub rows_next : (b : Buffers) (n : ℕ) → rows_text (n + 1) b ≡ rows_text n b ++ row_text b (n + 1)
unfolding rows_text
rows_next b n = rw add-one refl

rows_length : (b : Buffers) (n : ℕ) → length (rows_text (n + 1) b) ≡ length (rows_text n b) + length (row_text b (n + 1))
rows_length b n = ap length (rows_next b n) ∙ length-append (rows_text n b) (row_text b (n + 1))

grows : (b : Buffers) (m n : ℕ) → length (rows_text n b) ≤ length (rows_text (m + n) b)
grows b zero n = rw (zero-add n) (omega arith)
grows b (suc m) n = omega (arith, grows b m n, rows_length b (m + n), ap (λ (k : ℕ). length (rows_text k b)) (suc-add m n ∙ sym (add-one (m + n))))

rows_grow : (b : Buffers) (n m : ℕ) → n ≤ m → length (rows_text n b) ≤ length (rows_text m b)
rows_grow b n m h = let e : m - n + n ≡ m = omega arith in rw e at (grows b (m - n) n)

total_next : (w : ℕ → ℕ) (n : ℕ) → total (n + 1) w ≡ total n w + w (n + 1)
unfolding total
total_next w n = rw add-one (omega arith)

-- THE SUMS are not large
module _ (b : Buffers) where
  added_most : (c : ℕ) → (permits_added b c ≤ 15) × (copies_added b c ≤ 999)
  unfolding permits_added copies_added
  added_most c = by (is_empty (state_at b c))
    where
      by : (x : Bool) → (cond x 0 (other_than_15 (line_of b c).permits) ≤ 15) × (cond x 0 (line_of b c).copies ≤ 999)
      by true = (omega arith, omega arith)
      by false = (omega (arith, other_most (line_of b c).permits, permits_most b c), line_copies b c)

  totals_most : (n : ℕ) → (total n (permits_added b) ≤ 15 * n) × (total n (copies_added b) ≤ 999 * n)
  unfolding total
  totals_most zero = (omega arith, omega arith)
  totals_most (suc n) = let (p, c) = totals_most n in let (q, d) = added_most (suc n) in (omega arith, omega arith)

-- THE LAST TWO LINES

module _ (permits copies spent : ℕ) where
  -- word by word
  abbrev pub words : List ℕ
  words = total_word ++ (field permits 32 ++ (field copies 10 ++ (spent_word ++ field spent 10)))

  last_words : last_lines permits copies spent ≡ words
  unfolding last_lines total_line spent_line line
  last_words = ap (λ (l : List ℕ). total_word ++ l) (append_assoc (field permits 32) (field copies 10) (spent_word ++ field spent 10))

  -- so they are stored
  pub last_start : (out : List ℕ) (at : ℕ) → Storing (last_lines permits copies spent) out at out at words
  last_start out at = subst (Storing (last_lines permits copies spent) out at out at) last_words (start (last_lines permits copies spent) out at)

  pub last_length : length (last_lines permits copies spent) ≡ length (decimal permits) + length (decimal copies) + length (decimal spent) + 15
  last_length = rw last_words (simp (length-append, field_length) (omega arith))

-- those of a sheet
abbrev pub last_of : Buffers → List ℕ
last_of b = last_lines (permits_total b) (copies_total b) (spent_entries b.titles b.rules)

pub sheet_length : (b : Buffers) → length (sheet_text b) ≡ length (rows_text (rows_of b.ledger) b) + length (last_of b)
unfolding sheet_text
sheet_length b = length-append (rows_text (rows_of b.ledger) b) (last_of b)

-- THE LOOPS

-- a field of two bytes is no larger
pub rows_most : (l : List ℕ) → Bytes l → rows_of l ≤ 65535
rows_most l bytes =
    let m = part l 2 2 in
    let short : length m ≤ 2 = part_most 2 2 l in
    let below : number (part m 0 (length m)) < 2 ^ (8 * length m) = number_below (length m) 0 m (bytes_part l 2 2 bytes) (omega arith) in
    let most : 2 ^ (8 * length m) ≤ 2 ^ 16 = let wide : 8 * length m ≤ 16 = omega arith in pow-le-pow_right {n = 2} (omega arith) wide in
    let whole : part m 0 (length m) ≡ m = take_all (length m) m (omega arith) in
    omega (arith, ap number whole)

-- what the rows 1 to n add to the sums
pub record Added (b : Buffers) (n permits copies : ℕ) : Type 0 where
  pub permits_are : permits ≡ total n (permits_added b)
  pub copies_are : copies ≡ total n (copies_added b)

pub added_start : (b : Buffers) → Added b 0 0 0
unfolding total
added_start b = record { permits_are = refl; copies_are = refl }

-- and with the next row, n + 1
module _ {b : Buffers} {n permits copies : ℕ} (s : Added b n permits copies) where
  pub added_none : None ≡ printed b (n + 1) → Added b (n + 1) permits copies
  added_none e =
      let (text, p, c) = none_adds b (n + 1) e in
      record {
        permits_are = omega (arith, s.permits_are, p, total_next (permits_added b) n);
        copies_are = omega (arith, s.copies_are, c, total_next (copies_added b) n);
      }

  pub added_line : {l : Line} → Some l ≡ printed b (n + 1) → Added b (n + 1) (permits + other_than_15 l.permits) (copies + l.copies)
  added_line e =
      let (text, p, c) = line_adds b (n + 1) e in
      record {
        permits_are = omega (arith, s.permits_are, p, total_next (permits_added b) n);
        copies_are = omega (arith, s.copies_are, c, total_next (copies_added b) n);
      }

  -- neither sum is large, since a field of two bytes has the number of rows
  pub added_small : {l : Line} → Bytes b.ledger → n < rows_of b.ledger → Some l ≡ printed b (n + 1)
      → (permits + other_than_15 l.permits < 2 ^ 64) × (copies + l.copies < 2 ^ 64)
  added_small bytes h e =
      let after = added_line e in
      let few = rows_most b.ledger bytes in
      let (p, c) = totals_most b (n + 1) in
      (omega (arith, after.permits_are), omega (arith, after.copies_are))

  pub added_all : n ≡ rows_of b.ledger → (permits ≡ permits_total b) × (copies ≡ copies_total b)
  unfolding permits_total copies_total
  added_all e = (s.permits_are ∙ ap (λ (m : ℕ). total m (permits_added b)) e, s.copies_are ∙ ap (λ (m : ℕ). total m (copies_added b)) e)

same_last : (b : Buffers) {permits copies spent : ℕ} → permits ≡ permits_total b → copies ≡ copies_total b → spent ≡ spent_entries b.titles b.rules
    → last_lines permits copies spent ≡ last_of b
same_last b {spent = spent} p n z = ap₂ (λ (x y : ℕ). last_lines x y spent) p n ∙ ap (last_lines (permits_total b) (copies_total b)) z

-- how long their lines are
pub record Measured (b : Buffers) (n len : ℕ) : Type 0 where
  pub is : len ≡ length (rows_text n b)
  pub short : len ≤ 105 * n

pub measured_start : (b : Buffers) → Measured b 0 0
unfolding rows_text
measured_start b = record { is = refl; short = omega arith }

module _ {b : Buffers} {n len : ℕ} (m : Measured b n len) where
  pub measured_none : None ≡ printed b (n + 1) → Measured b (n + 1) len
  measured_none e =
      let (text, p, c) = none_adds b (n + 1) e in record { is = omega (arith, m.is, ap length text, rows_length b n); short = omega (arith, m.short) }

  pub measured_line : {l : Line} {k : ℕ} → Some l ≡ printed b (n + 1) → k ≡ length (line_text l) → k ≤ 105 → Measured b (n + 1) (len + k)
  measured_line e k short =
      let (text, p, c) = line_adds b (n + 1) e in record { is = omega (arith, m.is, k, ap length text, rows_length b n); short = omega (arith, m.short) }

  -- all of them, with the last two
  pub measured_all : {permits copies spent k : ℕ} → Added b n permits copies → spent ≡ spent_entries b.titles b.rules → n ≡ rows_of b.ledger
      → k ≡ length (last_lines permits copies spent) → len + k ≡ length (sheet_text b)
  measured_all s z e last =
      let (p, n) = added_all s e in
      omega (arith, m.is, last, ap (λ (i : ℕ). length (rows_text i b)) e, ap length (same_last b p n z), sheet_length b)

-- the lines of the rows 1 to n stand at the front of the text, which has room for those of all
pub record Written (b : Buffers) (rows : ℕ) (text₀ text : List ℕ) (at n : ℕ) : Type 0 where
  pub room : length (rows_text rows b) ≤ length text₀
  pub place : at ≡ length (rows_text n b)
  pub is : text ≡ put text₀ 0 (rows_text n b)
  pub size : length text ≡ length text₀

pub written_start : (b : Buffers) {at : ℕ} (text : List ℕ) → at ≡ 0 → length (rows_text (rows_of b.ledger) b) ≤ length text → Written b (rows_of b.ledger) text text at 0
unfolding rows_text put
written_start b text at room = record { room = room; place = at; is = refl; size = refl }

module _ {b : Buffers} {rows : ℕ} {text₀ text : List ℕ} {at n : ℕ} (s : Written b rows text₀ text at n) where
  -- there is room for the next row
  row_fits : n < rows → at + length (row_text b (n + 1)) ≤ length text
  row_fits h = omega (arith, s.place, s.room, s.size, rows_length b n, rows_grow b (n + 1) rows (omega arith))

  written_next : {at' : ℕ} {text' : List ℕ} → n < rows → at' ≡ at + length (row_text b (n + 1)) → text' ≡ put text at (row_text b (n + 1))
      → Written b rows text₀ text' at' (n + 1)
  written_next {at'} {text'} h place is =
      let front = rows_text n b in
      let more = row_text b (n + 1) in
      let fits = row_fits h in
      let start = s.place in
      let size = s.size in
      let whole : put (put text₀ 0 front) (length front) more ≡ put text₀ 0 (front ++ more)
      = ap (λ (k : ℕ). put (put text₀ 0 front) k more) (sym (zero-add (length front))) ∙ put_next text₀ front more 0 (omega arith) in
      record {
        room = s.room;
        place = omega (arith, place, rows_length b n);
        is = is ∙ ap₂ (λ (k : ℕ) (l : List ℕ). put l k more) s.place s.is ∙ whole ∙ ap (put text₀ 0) (sym (rows_next b n));
        size = ap length is ∙ put_length text more at fits ∙ s.size;
      }

  pub written_none : n < rows → None ≡ printed b (n + 1) → Written b rows text₀ text at (n + 1)
  unfolding put
  written_none h e =
      let (nothing, p, c) = none_adds b (n + 1) e in
      written_next h (omega (arith, ap length nothing))
      (sym
      (ap (λ (p : List ℕ). take at text ++ (p ++ drop (at + length p) text)) nothing
      ∙ ap (λ (k : ℕ). take at text ++ drop k text) (add-zero at)
      ∙ take-append-drop at text))

  -- and for its line
  pub line_fits : {l : Line} → n < rows → Some l ≡ printed b (n + 1) → at + length (line_text l) ≤ length text
  line_fits h e = let (text, p, c) = line_adds b (n + 1) e in omega (arith, row_fits h, ap length text)

  pub written_line : {l : Line} {at' : ℕ} {text' : List ℕ} → n < rows → Some l ≡ printed b (n + 1) → at' ≡ at + length (line_text l)
      → text' ≡ put text at (line_text l) → Written b rows text₀ text' at' (n + 1)
  written_line h e place is =
      let (line, p, c) = line_adds b (n + 1) e in
      written_next h (place ∙ ap (λ (k : List ℕ). at + length k) (sym line)) (is ∙ ap (put text at) (sym line))

  pub written_all : n ≡ rows_of b.ledger → (at ≡ length (rows_text (rows_of b.ledger) b)) × (text ≡ put text₀ 0 (rows_text (rows_of b.ledger) b))
  written_all e = (s.place ∙ ap (λ (m : ℕ). length (rows_text m b)) e, s.is ∙ ap (λ (m : ℕ). put text₀ 0 (rows_text m b)) e)

-- THE SHEET: its rows and its last two lines, in a text that has room for it
module _ (b : Buffers) (text : List ℕ) (room : length (sheet_text b) ≤ length text) where
  pub rows_fit : length (rows_text (rows_of b.ledger) b) ≤ length text
  rows_fit = omega (arith, room, sheet_length b)

  module _ {permits copies spent : ℕ} (p : permits ≡ permits_total b) (n : copies ≡ copies_total b) (z : spent ≡ spent_entries b.titles b.rules)
      {at : ℕ} {m : List ℕ} (rows : (at ≡ length (rows_text (rows_of b.ledger) b)) × (m ≡ put text 0 (rows_text (rows_of b.ledger) b))) where
    its_last : last_lines permits copies spent ≡ last_of b
    its_last = same_last b p n z

    pub last_fits : at + length (last_lines permits copies spent) ≤ length m
    last_fits =
        omega (arith, room, sheet_length b, rows.0, ap length its_last, ap length rows.1, put_length text (rows_text (rows_of b.ledger) b) 0 (omega (arith, rows_fit)))

    pub sheet_put : {r : ℕ} {n : List ℕ} → (r ≡ at + length (last_lines permits copies spent)) × (n ≡ put m at (last_lines permits copies spent))
        → (r ≡ length (sheet_text b)) × (n ≡ put text 0 (sheet_text b))
    unfolding sheet_text
    sheet_put {r} {n} e =
        let front = rows_text (rows_of b.ledger) b in
        let more = last_of b in
        let all = sheet_length b in (
          omega (arith, e.0, rows.0, all, ap length its_last),
          e.1
              ∙ ap (put m at) its_last
              ∙ ap₂ (λ (k : ℕ) (l : List ℕ). put l k more) (rows.0 ∙ sym (zero-add (length front))) rows.1
              ∙ put_next text front more 0 (omega (arith, room, all)),
        )

-- ALL OF IT IS BYTES
row_listed : (b : Buffers) (c : ℕ) → Listed (row_text b c)
unfolding row_text
row_listed b c = by (is_empty (state_at b c))
  where
    by : (x : Bool) → Listed (cond x [] (line_text (line_of b c)))
    by true = none
    by false = line_listed (line_of b c)

rows_listed : (b : Buffers) (n : ℕ) → Listed (rows_text n b)
unfolding rows_text
rows_listed b zero = none
rows_listed b (suc n) = then (rows_listed b n) (row_listed b (suc n))

pub sheet_listed : (b : Buffers) → Listed (sheet_text b)
unfolding sheet_text
sheet_listed b =
    then (rows_listed b (rows_of b.ledger))
    (rw (last_words (permits_total b) (copies_total b) spent)
    (then word (then (field_listed (permits_total b) 32 (omega arith)) (then (field_listed (copies_total b) 10 (omega arith)) (then word_spent (field_listed spent 10 (omega arith)))))))
  where
    spent : ℕ
    spent = spent_entries b.titles b.rules

    word : Listed total_word
    word = more 116 (omega arith) (more 111 (omega arith) (more 116 (omega arith) (more 97 (omega arith) (more 108 (omega arith) (more 32 (omega arith) none)))))

    word_spent : Listed spent_word
    word_spent = more 115 (omega arith) (more 112 (omega arith) (more 101 (omega arith) (more 110 (omega arith) (more 116 (omega arith) (more 32 (omega arith) none)))))

-- HOW LONG IT IS
module _ (b : Buffers) (bytes : AreBytes b) where
  row_most : (c : ℕ) → c ≤ 999 → length (row_text b c) ≤ 18
  unfolding row_text
  row_most c few = by (is_empty (state_at b c))
    where
      by : (x : Bool) → length (cond x [] (line_text (line_of b c))) ≤ 18
      by true = omega arith
      by false = line_most b c bytes few

  rows_long : (n : ℕ) → n ≤ 999 → length (rows_text n b) ≤ 18 * n
  rows_long zero few = unfold rows_text in omega arith
  rows_long (suc n) few = omega (arith, rows_long n (omega arith), ap (λ (k : ℕ). length (rows_text k b)) (add-one n), rows_length b n, row_most (n + 1) (omega arith))

  pub sheet_most : LedgerHead b.ledger → length (sheet_text b) ≤ 18432
  unfolding permits_total copies_total
  sheet_most head =
      let rows = rows_of b.ledger in
      let high : rows ≤ 999 = head.high in
      let (p, c) = totals_most b rows in
      let permits = length_most 4 (permits_total b) (omega arith) in
      let copies = length_most 5 (copies_total b) (omega arith) in
      let n = spent_entries b.titles b.rules in
      let spent = length_most 2 n (omega (arith, spent_most b.titles b.rules)) in
      omega (arith, sheet_length b, last_length (permits_total b) (copies_total b) n, rows_long rows high)
