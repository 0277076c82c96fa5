-- Rows as states and entries as places, and what they are after one of them was written.
-- Assumes nothing.
use Prim.Native.Nat.{ℕ, ◌+◌, ◌*◌, ◌≤◌}
use mathlib.Core.Path.{◌≡◌, refl, sym, ap, ap₂, ◌∙◌}
use mathlib.Core.Logic.{◌≢◌, ⊎_elim}
use mathlib.Core.List.{List}
use mathlib.Core.Bool.{Bool, true, false, cond, ◌&&◌}
use native.Mathlib.Omega.{arith}
use lib.ListN.{length}
use lib.Dec.{leb, eqb}
use borrow.Author.Tests.{le-leb, leb-true}
use Rattle.std.specs.Prelude.{Option, Some}
use Rattle.formats.specs.Part.{part, put}
use Rattle.formats.specs.Half.{id_of}
use Rattle.formats.specs.Entry.{kind_of, entry_facts, is_copy, is_full}
use Rattle.formats.specs.Head.{LedgerHead, rows_of}
use Rattle.formats.specs.Row.{state_of}
use Rattle.formats.specs.declared.facts.Facts.{Facts}
use Rattle.formats.specs.declared.entry.EntryKind.{EntryKind}
use Rattle.formats.specs.declared.entry.EntryKind.TheVariants.{Free, Copy, Full, Torn, Spent}
use Rattle.formats.specs.declared.row.RowState.TheVariants.{NoState}
use Rattle.formats.proofs.Part.{part_length}
use Rattle.formats.proofs.Tests.{split, both}
use Rattle.formats.proofs.head.Laws.{rows_kept}
use Rattle.calls.specs.Buffers.{kind_at, content_at, facts_at, cci_at, one, copy_of, copies, full_entries, Buffers, row_at, title_at, rule_at, state_in, state_at, Within}
use Rattle.calls.specs.Needs.{Vacant}
use Rattle.calls.specs.Untouched.{SlotsKept}
use Rattle.calls.proofs.Slots.{slot_ends, slot_same, slots_kept}
use Rattle.calls.proofs.History.Totals.{total_same}
use Rattle.calls.proofs.History.Titles.{Place, no_title, copy, full, copy_in, full_in}
use Rattle.calls.proofs.History.Step.{State, copies_in, fulls_in}

-- ROWS

-- row c is one of the ledger's
pub record IsRow (ledger : List ℕ) (c : ℕ) : Type 0 where
  pub head : LedgerHead ledger
  pub from : 1 ≤ c
  pub to : c ≤ rows_of ledger

module _ (ledger : List ℕ) (c : ℕ) where
  -- a row of the ledger reads as its bytes say
  pub state_of_row : 1 ≤ c → c ≤ rows_of ledger → state_in ledger c ≡ state_of (row_at ledger c)
  unfolding state_in
  state_of_row from to = ap (λ (x : Bool). cond x (state_of (row_at ledger c)) NoState) (both (le-leb 1 c from) (le-leb c (rows_of ledger) to))

  -- a row in a state is one of the ledger's
  pub inside : state_in ledger c ≢ NoState → Within (rows_of ledger) c
  unfolding state_in
  inside in_one = by (leb 1 c && leb c (rows_of ledger)) refl
    where
      by : (x : Bool) → (leb 1 c && leb c (rows_of ledger)) ≡ x → Within (rows_of ledger) c
      by true e = let (p, q) = split _ _ e in record { from = leb-true _ _ p; to = leb-true _ _ q }
      by false e = absurd (in_one (ap (λ (x : Bool). cond x (state_of (row_at ledger c)) NoState) e))

  pub in_a_state : LedgerHead ledger → state_in ledger c ≢ NoState → IsRow ledger c
  in_a_state head in_one = let l = inside in_one in record { head = head; from = l.from; to = l.to }

  module _ (is : IsRow ledger c) where
    pub row_inside : 24 * c + 24 ≤ length ledger
    row_inside = omega (arith, is.to, is.head.size)

    pub row_length : length (row_at ledger c) ≡ 24
    row_length = part_length (24 * c) 24 ledger row_inside

-- a ledger of which one row at most was written
module _ {old new : List ℕ} {written : Option ℕ} (kept : SlotsKept 24 written old new) where
  same_rows : rows_of new ≡ rows_of old
  same_rows = rows_kept 24 old new kept.same_length kept.head (omega arith)

  -- each row reads as its bytes say
  pub row_reads : {c : ℕ} → IsRow old c → state_in new c ≡ state_of (row_at new c)
  row_reads {c} is = state_of_row new c is.from (omega (arith, is.to, same_rows))

  -- and any other row as it did
  pub row_else : LedgerHead old → (d : ℕ) → written ≢ Some d → state_in new d ≡ state_in old d
  unfolding state_in
  row_else head d other = by (leb 1 d && leb d (rows_of old)) refl
    where
      count : state_in new d ≡ cond (leb 1 d && leb d (rows_of old)) (state_of (row_at new d)) NoState
      count = ap (λ (n : ℕ). cond (leb 1 d && leb d n) (state_of (row_at new d)) NoState) same_rows

      by : (x : Bool) → (leb 1 d && leb d (rows_of old)) ≡ x → state_in new d ≡ state_in old d
      by true e =
          let (p, q) = split (leb 1 d) (leb d (rows_of old)) e in
          let inside = leb-true d (rows_of old) q in
          count ∙ ap (λ (r : List ℕ). cond (leb 1 d && leb d (rows_of old)) (state_of r) NoState) (kept.others d (omega (arith, head.size)) other)
      by false e =
          count ∙ ap (λ (x : Bool). cond x (state_of (row_at new d)) NoState) e ∙ sym (ap (λ (x : Bool). cond x (state_of (row_at old d)) NoState) e)

-- ENTRIES

-- what an entry is as a place: a free, torn or spent one has nothing
abbrev pub place_by : EntryKind → ℕ → Facts → Place
place_by Free c f = no_title
place_by Copy c f = copy c f.cci
place_by Full c f = full c f
place_by Torn c f = no_title
place_by Spent c f = no_title

abbrev pub place_of : List ℕ → List ℕ → Place
place_of t r = place_by (kind_of t r) (id_of t) (entry_facts t r)

-- a place that has c in full is a full entry with its ID
pub full_entry : (k : EntryKind) (id : ℕ) (f : Facts) (c : ℕ) (h : Facts) → place_by k id f ≡ full c h → (k ≡ Full) × (id ≡ c) × (f ≡ h)
full_entry Free id f c h e = (cc, cc, cc)
full_entry Copy id f c h e = (cc, cc, cc)
full_entry Full id f c h e = (refl, cc, cc)
full_entry Torn id f c h e = (cc, cc, cc)
full_entry Spent id f c h e = (cc, cc, cc)

-- what the rows and entries are
abbrev pub view : Buffers → State
view b = record { rows = state_at b; places = λ j. place_of (title_at b.titles j) (rule_at b.rules j) }

-- an entry of a kind, as a place
pub place_is : (b : Buffers) (j : ℕ) {k : EntryKind} → kind_at b j ≡ k → (view b).places j ≡ place_by k (content_at b j) (facts_at b j)
place_is b j e = ap (λ (k : EntryKind). place_by k (content_at b j) (facts_at b j)) e

-- one that is free or spent has nothing
pub nothing_at : (b : Buffers) (j : ℕ) → Vacant b j → (view b).places j ≡ no_title
nothing_at b j = ⊎_elim (place_is b j) (place_is b j)

-- and a copy, with its CCI
pub copy_is : (b : Buffers) (j c : ℕ) → kind_at b j ≡ Copy → content_at b j ≡ c → (view b).places j ≡ copy c (cci_at b j)
unfolding entry_facts
copy_is b j c e id = place_is b j e ∙ ap (λ (i : ℕ). copy i (cci_at b j)) id

-- COUNTS

-- the copies that the bytes show are those at the places
copy_counts : (c : ℕ) (k : EntryKind) (id : ℕ) (f : Facts) → copy_in c (place_by k id f) ≡ one (is_copy k && eqb id c)
copy_counts c Free id f = refl
copy_counts c Copy id f = refl
copy_counts c Full id f = refl
copy_counts c Torn id f = refl
copy_counts c Spent id f = refl

-- which kinds count as copies, kind by kind
copy_said : (c : ℕ) (t r : List ℕ) (k : EntryKind) → kind_of t r ≡ k → one (is_copy k && eqb (id_of t) c) ≡ one (copy_of c t r)
copy_said c t r Free e = rw e refl
copy_said c t r Copy e = rw e refl
copy_said c t r Full e = rw e refl
copy_said c t r Torn e = rw e refl
copy_said c t r Spent e = rw e refl

pub copies_seen : (c : ℕ) (b : Buffers) → copies c b.titles b.rules ≡ copies_in 999 c (view b)
unfolding copies
copies_seen c b =
    total_same 999 _ _ (λ j l. sym (copy_counts c (kind_at b j) (content_at b j) (facts_at b j) ∙ copy_said c (title_at b.titles j) (rule_at b.rules j) (kind_at b j) refl))

-- the holders that the bytes show are those at the places
full_counts : (c : ℕ) (k : EntryKind) (id : ℕ) (f : Facts) → full_in c (place_by k id f) ≡ one (is_full k && eqb id c)
full_counts c Free id f = refl
full_counts c Copy id f = refl
full_counts c Full id f = refl
full_counts c Torn id f = refl
full_counts c Spent id f = refl

pub fulls_seen : (c : ℕ) (b : Buffers) → full_entries c b.titles b.rules ≡ fulls_in 999 c (view b)
unfolding full_entries
fulls_seen c b = total_same 999 _ _ (λ j l. sym (full_counts c (kind_at b j) (content_at b j) (facts_at b j)))

-- ENTRIES WRITTEN

-- an entry of a card table: its head and 999 entries are 1,000 slots
module _ (width : ℕ) (table : List ℕ) (long : length table ≡ width * 1000) where
  pub entry_inside : (j : ℕ) → Within 999 j → width * j + width ≤ length table
  entry_inside j in_table = omega (arith, slot_ends width j 1000 (omega (arith, in_table.to)))

  pub entry_length : (j : ℕ) → Within 999 j → length (part table (width * j) width) ≡ width
  entry_length j in_table = part_length (width * j) width table (entry_inside j in_table)

  -- the one that was written
  pub entry_same : (p : List ℕ) → length p ≡ width → (j : ℕ) → Within 999 j → part (put table (width * j) p) (width * j) width ≡ p
  entry_same p size j in_table = slot_same width table p j (entry_inside j in_table) size

  -- and that all others are as they were
  pub entries_kept : (p : List ℕ) → length p ≡ width → (j : ℕ) → Within 999 j → SlotsKept width (Some j) table (put table (width * j) p)
  entries_kept p size j in_table = slots_kept width table p j (entry_inside j in_table) size in_table.from

-- a card of which one entry at most was written: any other has the halves that it had
module _ (b after : Buffers) {title rule : Option ℕ} (titles : SlotsKept 16 title b.titles after.titles) (rules : SlotsKept 32 rule b.rules after.rules)
    (titles_long : length b.titles ≡ 16000) (rules_long : length b.rules ≡ 32000) (i : ℕ) (in_table : Within 999 i) (other_title : title ≢ Some i)
    (other-rule : rule ≢ Some i) where
  pub same_title : title_at after.titles i ≡ title_at b.titles i
  same_title = titles.others i (entry_inside 16 b.titles titles_long i in_table) other_title

  same_rule : rule_at after.rules i ≡ rule_at b.rules i
  same_rule = rules.others i (entry_inside 32 b.rules rules_long i in_table) other-rule

  -- so it is of the kind that it was, and the place that it was
  pub kind_else : kind_at after i ≡ kind_at b i
  kind_else = ap₂ kind_of same_title same_rule

  pub place_else : (view after).places i ≡ (view b).places i
  place_else = ap₂ place_of same_title same_rule
