-- What the tests of the heads say, and the laws of heads and fresh tables.
-- Assumes nothing.
use Prim.Native.Nat.{ℕ, ◌+◌, ◌-◌, ◌*◌, ◌≤◌, ◌<◌, ◌^◌}
use mathlib.Core.Path.{◌≡◌, refl, sym, ap, ◌∙◌}
use mathlib.Core.List.{List, ◌++◌, append_assoc}
use mathlib.Core.Bool.{true}
use mathlib.Core.Logic.{inr, ⊎_map}
use native.Mathlib.Omega.{arith}
use lib.ListN.{length, get_or, replicate, length-append, length-replicate, get_or-replicate}
use lib.Seq.{ext_get_or, get_or-take, get_or-append-add}
use lib.Dec.{lit<}
use borrow.Author.Tests.{le-leb, leb-true, eq-eqb, eqb-true}
use Rattle.formats.specs.Part.{part}
use Rattle.formats.specs.Field.{number, bytes_of}
use Rattle.formats.specs.declared.head.Pair.{Pair}
use Rattle.formats.specs.declared.head.Pair.TheVariants.{Audio, Picture}
use Rattle.formats.specs.Head.{titles_identifier, rules_identifier, LedgerHead, TableHead, TitlesHead, RulesHead, ledger_application, rows_of, ledger_passes, table_passes, titles_pass, rules_pass, rules_application, ledger_answer, titles_answer, rules_answer, fresh_ledger, table_head, fresh_titles, fresh_rules}
use Rattle.formats.proofs.Part.{part_length, get_or_part, part_inside}
use Rattle.formats.specs.Bytes.{Bytes}
use Rattle.formats.proofs.Bytes.{Listed, none, more, bytes, then, zeros, field}
use Rattle.formats.proofs.field.Laws.{length_bytes_of, number_whole}
use Rattle.formats.specs.Facts.{numbered}
use Rattle.formats.proofs.facts.Laws.{numbered_range, range_numbered}
use Rattle.formats.proofs.Tests.{split, both, either, one_holds, refuses}

-- a ledger that passes has a right head
pub ledger_head : (l : List ℕ) → ledger_passes l ≡ true → LedgerHead l
unfolding ledger_passes
ledger_head l e =
    let (p, q) = split (numbered (rows_of l)) _ e in
    let (low, high) = numbered_range (rows_of l) p in
    record { low = low; high = high; size = eqb-true _ _ q }

-- and a ledger with a right head passes
pub ledger_passes_lem : {l : List ℕ} → LedgerHead l → ledger_passes l ≡ true
unfolding ledger_passes
ledger_passes_lem h = both (range_numbered h.low h.high) (eq-eqb _ _ h.size)

-- a table that passes has them
pub table_head_lem : {identifier size width mark : ℕ} {t : List ℕ} → table_passes identifier size width mark t ≡ true → TableHead identifier size width mark t
unfolding table_passes
table_head_lem e =
    let (p, e₁) = split _ _ e in
    let (q, e₂) = split _ _ e₁ in
    let (r, e₃) = split _ _ e₂ in
    let (s, e₄) = split _ _ e₃ in
    let (w, m) = split _ _ e₄ in
    record { long = eqb-true _ _ p; names = eqb-true _ _ q; sized = eqb-true _ _ r; count = eqb-true _ _ s; wide = eqb-true _ _ w; marked = eqb-true _ _ m }

-- and a table that has them passes
pub table_passes_lem : {identifier size width mark : ℕ} {t : List ℕ} → TableHead identifier size width mark t → table_passes identifier size width mark t ≡ true
unfolding table_passes
table_passes_lem h =
    both (eq-eqb _ _ h.long)
    (both (eq-eqb _ _ h.names) (both (eq-eqb _ _ h.sized) (both (eq-eqb _ _ h.count) (both (eq-eqb _ _ h.wide) (eq-eqb _ _ h.marked)))))

-- an identifier has two bytes
titles_two_bytes : (pair : Pair) → titles_identifier pair < 2 ^ 16
unfolding titles_identifier
titles_two_bytes Audio = lit< tt
titles_two_bytes Picture = lit< tt

rules_two_bytes : (pair : Pair) → rules_identifier pair < 2 ^ 16
unfolding rules_identifier
rules_two_bytes Audio = lit< tt
rules_two_bytes Picture = lit< tt

-- a title table that passes has a right head
pub titles_head : {pair : Pair} {t : List ℕ} → titles_pass pair t ≡ true → TitlesHead pair t
unfolding titles_pass
titles_head e =
    let (p, q) = split _ _ e in
    let (v, z) = split _ _ q in
    record { table = table_head_lem p; version = ⊎_map (eqb-true _ _) (eqb-true _ _) (either _ _ v); zero = eqb-true _ _ z }

-- and a title table with a right head passes
pub titles_pass_lem : {pair : Pair} {t : List ℕ} → TitlesHead pair t → titles_pass pair t ≡ true
unfolding titles_pass
titles_pass_lem h = both (table_passes_lem h.table) (both (one_holds (⊎_map (eq-eqb _ _) (eq-eqb _ _) h.version)) (eq-eqb _ _ h.zero))

-- a rule table that passes has a right head
pub rules_head : {pair : Pair} {r : List ℕ} → rules_pass pair r ≡ true → RulesHead pair r
unfolding rules_pass
rules_head e =
    let (p, v) = split _ _ e in
    record { table = table_head_lem p; version = leb-true _ _ v }

-- and a rule table with a right head passes
pub rules_pass_lem : {pair : Pair} {r : List ℕ} → RulesHead pair r → rules_pass pair r ≡ true
unfolding rules_pass
rules_pass_lem h = both (table_passes_lem h.table) (le-leb _ _ h.version)

-- the identifiers of the pairs differ, so that no table is of both
pub titles_of_one : (t : List ℕ) → TitlesHead Audio t → TitlesHead Picture t → ⊥
unfolding titles_identifier
titles_of_one t audio picture = omega (arith, audio.table.names, picture.table.names)

pub rules_of_one : (r : List ℕ) → RulesHead Audio r → RulesHead Picture r → ⊥
unfolding rules_identifier
rules_of_one r audio picture = omega (arith, audio.table.names, picture.table.names)

-- a ledger is refused where its head is not right
pub ledger_refused : {l : List ℕ} → (LedgerHead l → ⊥) → 7 ≡ ledger_answer l
ledger_refused h = refuses (λ e. h (ledger_head _ e))

-- so is a title table
pub titles_refused : {pair : Pair} {t : List ℕ} → (TitlesHead pair t → ⊥) → 8 ≡ titles_answer pair t
titles_refused h = refuses (λ e. h (titles_head e))

-- so is a rule table
pub rules_refused : {pair : Pair} {r : List ℕ} → (RulesHead pair r → ⊥) → 9 ≡ rules_answer pair r
rules_refused h = refuses (λ e. h (rules_head e))

-- tables of one length whose first bytes are the same have the same head
module _ (width : ℕ) (old new : List ℕ) (long : length new ≡ length old) (head : part new 0 width ≡ part old 0 width) where
  -- a field of it, and a byte
  field_kept : (a n : ℕ) → a + n ≤ width → number (part new a n) ≡ number (part old a n)
  field_kept a n h = ap number (sym (part_inside new a n width h) ∙ ap (λ (l : List ℕ). part l a n) head ∙ part_inside old a n width h)

  byte_kept : (i : ℕ) → i < width → get_or new i 0 ≡ get_or old i 0
  byte_kept i h = sym (get_or-take width new i 0 h) ∙ ap (λ (l : List ℕ). get_or l i 0) head ∙ get_or-take width old i 0 h

  -- the ledger's application number and its count of rows, and whether it passes
  pub ledger_application_kept : 24 ≤ width → ledger_application new ≡ ledger_application old
  ledger_application_kept h = field_kept 0 2 (omega arith)

  pub rows_kept : 24 ≤ width → rows_of new ≡ rows_of old
  rows_kept h = field_kept 2 2 (omega arith)

  pub ledger_kept : 24 ≤ width → ledger_passes new ≡ ledger_passes old
  unfolding ledger_passes
  ledger_kept h = simp (rows_kept h, long)

  -- what the two card tables share
  table_kept : 16 ≤ width → (identifier size entry mark : ℕ) → table_passes identifier size entry mark new ≡ table_passes identifier size entry mark old
  unfolding table_passes
  table_kept h identifier size entry mark =
      simp (long, field_kept 0 2 (omega arith), field_kept 4 4 (omega arith), field_kept 10 2 (omega arith), byte_kept 12 (omega arith), byte_kept 13 (omega arith))

  -- whether a title table passes
  pub titles_kept : (pair : Pair) → 16 ≤ width → titles_pass pair new ≡ titles_pass pair old
  unfolding titles_pass
  titles_kept pair h = simp (table_kept h, byte_kept 3 (omega arith), field_kept 8 2 (omega arith))

  -- whether a rule table passes, and its application number
  pub rules_kept : (pair : Pair) → 32 ≤ width → rules_pass pair new ≡ rules_pass pair old
  unfolding rules_pass
  rules_kept pair h = let k : 16 ≤ width = omega arith in simp (table_kept k, byte_kept 3 (omega arith))

  pub rules_application_kept : 32 ≤ width → rules_application new ≡ rules_application old
  rules_application_kept h = field_kept 8 2 (omega arith)

-- a part of the zeros behind a front
pub zeros_part : (front : List ℕ) (n a m : ℕ) → length front ≤ a → a + m ≤ length front + n → part (front ++ replicate n 0) a m ≡ replicate m 0
zeros_part front n a m h w =
    ext_get_or 0 (part all a m) (replicate m 0) (long ∙ sym (length-replicate m 0))
    (λ i k.
    let j : i < m = omega (arith, long) in
    let e : a + i ≡ length front + (a + i - length front) = omega arith in
    get_or_part all a m i j
    ∙ ap (λ (x : ℕ). get_or all x 0) e
    ∙ get_or-append-add front (replicate n 0) (a + i - length front) 0
    ∙ get_or-replicate n (a + i - length front) 0 0 (omega arith)
    ∙ sym (get_or-replicate m i 0 0 j))
  where
    all : List ℕ
    all = front ++ replicate n 0

    long : length (part all a m) ≡ m
    long = part_length a m all (omega (arith, length-append front (replicate n 0), length-replicate {A = ℕ} n 0))

-- the fresh ledger
module _ (rows application : ℕ) where
  -- its length
  pub fresh_ledger_length : length (fresh_ledger rows application) ≡ 24 * (rows + 1)
  unfolding fresh_ledger
  fresh_ledger_length = simp (length-append, length_bytes_of, length-replicate) (omega arith)

  -- its application number
  pub fresh_ledger_application : application < 2 ^ 16 → ledger_application (fresh_ledger rows application) ≡ application
  unfolding fresh_ledger bytes_of
  fresh_ledger_application h = number_whole 2 h

  -- its count of rows
  pub fresh_rows : rows < 2 ^ 16 → rows_of (fresh_ledger rows application) ≡ rows
  unfolding fresh_ledger bytes_of
  fresh_rows h = number_whole 2 h

  -- it passes
  pub fresh_ledger_passes : 1 ≤ rows → rows ≤ 999 → ledger_passes (fresh_ledger rows application) ≡ true
  fresh_ledger_passes low high =
      let e : rows_of (fresh_ledger rows application) ≡ rows = fresh_rows (omega arith) in
      ledger_passes_lem (record { low = omega arith; high = omega arith; size = omega (arith, fresh_ledger_length) })

  -- its rows are zeros
  pub fresh_zeros : (a n : ℕ) → 4 ≤ a → a + n ≤ 24 * (rows + 1) → part (fresh_ledger rows application) a n ≡ replicate n 0
  unfolding fresh_ledger
  fresh_zeros a n low high =
      let e : length (bytes_of 2 application ++ bytes_of 2 rows) ≡ 4 = simp (length-append, length_bytes_of) in
      ap (λ (l : List ℕ). part l a n) (sym (append_assoc (bytes_of 2 application) (bytes_of 2 rows) (replicate (20 + 24 * rows) 0)))
      ∙ zeros_part (bytes_of 2 application ++ bytes_of 2 rows) (20 + 24 * rows) a n (omega arith) (omega arith)

  pub fresh_row : (c : ℕ) → 1 ≤ c → c ≤ rows → part (fresh_ledger rows application) (24 * c) 24 ≡ replicate 24 0
  fresh_row c low high = fresh_zeros (24 * c) 24 (omega arith) (omega arith)

-- a fresh card table: its head, version and application number, and zeros behind them
record FreshTable (identifier version size application width mark : ℕ) (t : List ℕ) : Type 0 where
  head : TableHead identifier size width mark t
  dated : get_or t 3 0 ≡ version
  numbered : application < 2 ^ 16 → number (part t 8 2) ≡ application
  zeros : (a m : ℕ) → 14 ≤ a → a + m ≤ size → part t a m ≡ replicate m 0

fresh_table : (identifier version size application width mark n : ℕ) → identifier < 2 ^ 16 → size < 2 ^ 32 → 14 + n ≡ size
    → FreshTable identifier version size application width mark (table_head identifier version size application width mark ++ replicate n 0)
unfolding table_head bytes_of
fresh_table identifier version size application width mark n h k e =
    record {
      head =
          record {
            long = omega (arith, length-replicate {A = ℕ} n 0);
            names = number_whole 2 h;
            sized = number_whole 4 k;
            count = number_whole 2 (lit< tt);
            wide = refl;
            marked = refl;
          };
      dated = refl;
      numbered = λ small. number_whole 2 small;
      zeros = λ a m low high. zeros_part (table_head identifier version size application width mark) n a m low (omega arith);
    }

-- the fresh title table
module _ (pair : Pair) where
  titles_fresh : FreshTable (titles_identifier pair) 0x10 16000 0 16 0x01 (fresh_titles pair)
  unfolding fresh_titles
  titles_fresh = fresh_table (titles_identifier pair) 0x10 16000 0 16 0x01 15986 (titles_two_bytes pair) (lit< tt) refl

  -- its length
  pub fresh_titles_length : length (fresh_titles pair) ≡ 16000
  fresh_titles_length = titles_fresh.head.long

  -- it passes
  pub fresh_titles_pass : titles_pass pair (fresh_titles pair) ≡ true
  fresh_titles_pass = titles_pass_lem (record { table = titles_fresh.head; version = inr titles_fresh.dated; zero = titles_fresh.numbered (lit< tt) })

  -- its entries are zeros
  pub fresh_title : (j : ℕ) → 1 ≤ j → j ≤ 999 → part (fresh_titles pair) (16 * j) 16 ≡ replicate 16 0
  fresh_title j low high = titles_fresh.zeros (16 * j) 16 (omega arith) (omega arith)

-- the fresh rule table
module _ (pair : Pair) (application : ℕ) where
  rules_fresh : FreshTable (rules_identifier pair) 0x11 32000 application 32 0x02 (fresh_rules pair application)
  unfolding fresh_rules
  rules_fresh = fresh_table (rules_identifier pair) 0x11 32000 application 32 0x02 31986 (rules_two_bytes pair) (lit< tt) refl

  -- its length
  pub fresh_rules_length : length (fresh_rules pair application) ≡ 32000
  fresh_rules_length = rules_fresh.head.long

  -- its application number
  pub fresh_rules_application : application < 2 ^ 16 → rules_application (fresh_rules pair application) ≡ application
  fresh_rules_application = rules_fresh.numbered

  -- it passes
  pub fresh_rules_pass : rules_pass pair (fresh_rules pair application) ≡ true
  fresh_rules_pass = rules_pass_lem (record { table = rules_fresh.head; version = omega (arith, rules_fresh.dated) })

  -- its entries are zeros
  pub fresh_rule : (j : ℕ) → 1 ≤ j → j ≤ 999 → part (fresh_rules pair application) (32 * j) 32 ≡ replicate 32 0
  fresh_rule j low high = rules_fresh.zeros (32 * j) 32 (omega arith) (omega arith)

-- fresh tables hold bytes
pub fresh_ledger_bytes : (rows application : ℕ) → Bytes (fresh_ledger rows application)
unfolding fresh_ledger
fresh_ledger_bytes rows application = bytes (then (field 2 application) (then (field 2 rows) (zeros (20 + 24 * rows))))

head_bytes : (identifier version size application width mark : ℕ) → version < 256 → width < 256 → mark < 256 → Listed (table_head identifier version size application width mark)
unfolding table_head
head_bytes identifier version size application width mark v w m =
    then (field 2 identifier) (more 0 (omega arith) (more version v (then (field 4 size) (then (field 2 application) (then (field 2 999) (more width w (more mark m none)))))))

pub fresh_titles_bytes : (pair : Pair) → Bytes (fresh_titles pair)
unfolding fresh_titles
fresh_titles_bytes pair = bytes (then (head_bytes (titles_identifier pair) 0x10 16000 0 16 0x01 (lit< tt) (lit< tt) (lit< tt)) (zeros 15986))

pub fresh_rules_bytes : (pair : Pair) (application : ℕ) → Bytes (fresh_rules pair application)
unfolding fresh_rules
fresh_rules_bytes pair application = bytes (then (head_bytes (rules_identifier pair) 0x11 32000 application 32 0x02 (lit< tt) (lit< tt) (lit< tt)) (zeros 31986))
