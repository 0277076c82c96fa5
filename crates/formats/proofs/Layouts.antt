-- The layouts in plain bytes and numbers, as specs/Layout.antt states them.
-- Assumes nothing.
use Prim.Native.Nat.{ℕ, zero, suc, ◌+◌, ◌*◌, ◌%◌, ◌≤◌, ◌<◌}
use mathlib.Core.Path.{◌≡◌, refl, sym, ap, ◌∙◌}
use mathlib.Core.List.{List, [], ◌∷◌, ◌++◌}
use mathlib.Core.Bool.{Bool, true, false, not, true≢false}
use mathlib.Core.Logic.{◌⊎◌, inl, inr}
use native.Mathlib.Omega.{arith}
use native.Mathlib.Nat.{mod-eq_of_lt}
use native.Mathlib.Decide.{dec_le, ℕ_discrete}
use lib.ListN.{length, get_or, replicate}
use lib.Seq.{get_or-take}
use borrow.Author.Tests.{le-leb, lt-leb, leb-false, ne_eqb, not-true}
use Rattle.formats.specs.Bytes.{Bytes}
use Rattle.formats.specs.Part.{put}
use Rattle.formats.specs.Field.{number, bytes_of}
use Rattle.formats.specs.Half.{id_of, usable_of, names_spent, half_bytes, wiped}
use Rattle.formats.specs.Title.{title_half}
use Rattle.formats.specs.Rule.{rule_half, wiped_rule}
use Rattle.formats.specs.Entry.{kind_of, is_vacant, entry_facts}
use Rattle.formats.specs.declared.head.Pair.{Pair}
use Rattle.formats.specs.declared.head.Pair.TheVariants.{Audio, Picture}
use Rattle.formats.specs.Head.{titles_identifier, rules_identifier, fresh_ledger, table_head, fresh_titles, fresh_rules}
use Rattle.formats.specs.Facts.{in_range}
use Rattle.formats.specs.Row.{facts_of, state_of, here_row, plain_row, with_permits}
use Rattle.formats.specs.Layout.{Fields, WipedTitle, WipedRule, WrittenHalf, WrittenTitle, WrittenRule, WrittenHere, WrittenPlain, ChangedPermits, InRanges, HoldsHere, HoldsNone, States, SameButZeros, content_id, Usable, NoneUsable, NamesSpent, HoldsSpent, HoldsFree, HoldsCopy, HoldsFull, HoldsTorn, Kinds, HoldsFacts, FreshLedger, FreshCard, Halves, Heads, Rows, Entries, Fresh, Layout, titles_letter, rules_letter}
use Rattle.formats.specs.declared.facts.Facts.{Facts}
use Rattle.formats.specs.declared.facts.Fillers.{Fillers}
use Rattle.formats.specs.declared.entry.EntryKind.{EntryKind}
use Rattle.formats.specs.declared.entry.EntryKind.TheVariants.{Free, Copy, Full, Torn, Spent}
use Rattle.formats.specs.declared.row.RowState.{RowState}
use Rattle.formats.specs.declared.row.RowState.TheVariants.{Empty, Here, Away, Gone, NoState}
use Rattle.formats.proofs.Bytes.{bytes, field}
use Rattle.formats.proofs.Zeros.{zero_at}
use Rattle.formats.proofs.Tests.{split, refuted}
use Rattle.formats.proofs.field.Laws.{number_snoc, number_bytes_of, length_bytes_of}
use Rattle.formats.proofs.facts.Laws.{ranges, in_range_lem, facts_same}
use Rattle.formats.proofs.row.Laws.{is_empty_lem, is_here_lem, is_away_lem, is_gone, is_torn, is_none}
use Rattle.formats.proofs.Cells.{of_cells, part_cells}
use Rattle.formats.proofs.title.Laws.{length_title_half}
use Rattle.formats.proofs.rule.Laws.{length_rule_half}
use Rattle.formats.proofs.half.Laws.{usable_id_lem, flagged, not_flagged, names_lem, names_says}
use Rattle.formats.proofs.entry.Laws.{kind_free, kind_spent, vacant_lem, vacant_by, copy_beside, full_beside, IsVacant, of_free, of_spent, of_copy, of_full}
use Rattle.formats.proofs.head.Laws.{ledger_head, ledger_passes_lem, titles_head, titles_pass_lem, rules_head, rules_pass_lem, titles_of_one, rules_of_one, fresh_ledger_length, fresh_titles_length, fresh_rules_length}

fields : Fields
unfolding number
fields =
    record {
      none = refl;
      last = λ l b. number_snoc l b ∙ omega arith;
      written = number_bytes_of;
      size = length_bytes_of;
      bytes = λ n x. bytes (field n x);
    }

-- a half of known length is written out, so that all its bytes compute
wiped_title : (t : List ℕ) (f1 : ℕ) → length t ≡ 16 → WipedTitle t f1 (wiped t f1)
unfolding wiped put bytes_of
wiped_title t f1 size =
    of_cells (λ (x : List ℕ). WipedTitle x f1 (wiped x f1)) 16 t size
    (record { size = refl; bytes_0_7 = refl; byte_8 = refl; flag = lt-leb 128 (get_or t 8 0 % 128) (omega arith); bytes_9_15 = refl })

wiped_rule_lem : (r : List ℕ) (f : Fillers) → length r ≡ 32 → WipedRule r f (wiped_rule r f)
unfolding wiped_rule wiped put bytes_of
wiped_rule_lem r f size =
    of_cells (λ (x : List ℕ). WipedRule x f (wiped_rule x f)) 32 r size
    (record {
      size = refl;
      bytes_0_7 = refl;
      byte_8 = refl;
      flag = lt-leb 128 (get_or r 8 0 % 128) (omega arith);
      bytes_9_15 = refl;
      bytes_16_23 = refl;
      bytes_24_31 = refl;
    })

written_half : (first key id : ℕ) (rest : List ℕ) → id < 1024 → WrittenHalf key id (half_bytes first key id ++ rest)
unfolding half_bytes bytes_of
written_half first key id rest small = record { bytes_1_7 = refl; byte_8 = refl; bytes_9_13 = refl; byte_14 = omega arith; byte_15 = refl }

written_title : (cci key id : ℕ) → cci < 4 → id < 1024 → WrittenTitle cci key id (title_half cci key id)
unfolding title_half half_bytes bytes_of
written_title cci key id low small =
    record { size = length_title_half cci key id; byte_0 = mod-eq_of_lt low; half = written_half (cci % 4) key id [] small }

written_rule : (f : Facts) (hash id : ℕ) → f.trigger ≤ 1 → f.rights ≤ 15 → f.permits ≤ 15 → id < 1024 → WrittenRule f hash id (rule_half f hash id)
unfolding rule_half half_bytes bytes_of
written_rule f hash id t r p small =
    record {
      size = length_rule_half f hash id;
      byte_0 = refl;
      half =
          written_half 0 f.sti_key id
          (f.trigger % 2 * 128 ∷ (f.rights % 16 * 16 + f.permits % 16) ∷ (bytes_of 8 hash ++ (0 ∷ 0 ∷ 0 ∷ 0 ∷ 0 ∷ 0 ∷ []))) small;
      byte_16 = omega arith;
      byte_17 = omega arith;
      bytes_18_25 = refl;
      bytes_26_31 = refl;
    }

halves : Halves
halves = record { wiped_title = wiped_title; wiped_rule = wiped_rule_lem; written_title = written_title; written_rule = written_rule }

heads : Heads
heads =
    record {
      ledger = λ l. (ledger_head l, ledger_passes_lem);
      titles = λ pair t. (titles_head, titles_pass_lem);
      rules = λ pair r. (rules_head, rules_pass_lem);
      titles_of_one = titles_of_one;
      rules_of_one = rules_of_one;
    }

-- ROWS

written_here : (f : Facts) → f.cci < 256 → f.trigger < 256 → f.rights < 256 → f.permits < 256 → WrittenHere f (here_row f)
unfolding here_row bytes_of
written_here f c t r p =
    record {
      size = refl;
      byte_0 = refl;
      byte_1 = mod-eq_of_lt c;
      byte_2 = mod-eq_of_lt t;
      byte_3 = mod-eq_of_lt r;
      byte_4 = mod-eq_of_lt p;
      bytes_5_7 = refl;
      bytes_8_14 = refl;
      byte_15 = refl;
      bytes_16_22 = refl;
      byte_23 = refl;
    }

written_plain : (state : ℕ) → WrittenPlain state (plain_row state)
unfolding plain_row
written_plain state = record { size = refl; byte_0 = refl; bytes_1_23 = refl }

changed_permits : (row : List ℕ) (permits : ℕ) → length row ≡ 24 → permits < 256 → ChangedPermits row permits (with_permits row permits)
unfolding with_permits put
changed_permits row permits size small =
    of_cells (λ (x : List ℕ). ChangedPermits x permits (with_permits x permits)) 24 row size
    (record { size = refl; bytes_0_3 = refl; byte_4 = mod-eq_of_lt small; bytes_5_23 = refl })

-- the ranges of a row's bytes are those of the facts in it
module _ (row : List ℕ) where
  in_ranges : in_range (facts_of row) ≡ true → InRanges row
  unfolding facts_of
  in_ranges e =
      let r = ranges e in
      record {
        cci = by (ℕ_discrete (get_or row 1 0) 0) (ℕ_discrete (get_or row 1 0) 2) r.cci r.kind;
        trigger = r.trigger;
        rights = r.rights;
        permits = r.permits;
      }
    where
      by : Dec (get_or row 1 0 ≡ 0) → Dec (get_or row 1 0 ≡ 2) → get_or row 1 0 ≤ 3 → (get_or row 1 0 ≡ 1 → ⊥)
          → (get_or row 1 0 ≡ 0) ⊎ ((get_or row 1 0 ≡ 2) ⊎ (get_or row 1 0 ≡ 3))
      by (yes a) _ h n = inl a
      by (no a) (yes b) h n = inr (inl b)
      by (no a) (no b) h n = inr (inr (omega arith))

  ranges_pass : InRanges row → in_range (facts_of row) ≡ true
  unfolding facts_of
  ranges_pass r = in_range_lem (record { cci = most r.cci; kind = not_one r.cci; trigger = r.trigger; rights = r.rights; permits = r.permits })
    where
      most : (get_or row 1 0 ≡ 0) ⊎ ((get_or row 1 0 ≡ 2) ⊎ (get_or row 1 0 ≡ 3)) → get_or row 1 0 ≤ 3
      most (inl a) = omega arith
      most (inr (inl b)) = omega arith
      most (inr (inr c)) = omega arith

      not_one : (get_or row 1 0 ≡ 0) ⊎ ((get_or row 1 0 ≡ 2) ⊎ (get_or row 1 0 ≡ 3)) → get_or row 1 0 ≡ 1 → ⊥
      not_one (inl a) e = omega arith
      not_one (inr (inl b)) e = omega arith
      not_one (inr (inr c)) e = omega arith

-- what a state says of the bytes
abbrev Holds : List ℕ → RowState → Type 0
Holds row Empty = get_or row 0 0 ≡ 0
Holds row (Here f) = HoldsHere row f
Holds row Away = get_or row 0 0 ≡ 2
Holds row Gone = get_or row 0 0 ≡ 3
Holds row NoState = HoldsNone row

module _ (row : List ℕ) (size : length row ≡ 24) where
  holds_here : get_or row 0 0 ≡ 1 → InRanges row → HoldsHere row (facts_of row)
  unfolding facts_of
  holds_here e r = record { state = e; ranges = r; cci = refl; trigger = refl; rights = refl; permits = refl; title_key = refl; sti_key = refl }

  holds : Holds row (state_of row)
  holds = by (ℕ_discrete (get_or row 0 0) 0) (ℕ_discrete (get_or row 0 0) 1) (ℕ_discrete (get_or row 0 0) 2) (ℕ_discrete (get_or row 0 0) 3) (in_range (facts_of row)) refl
    where
      by : Dec (get_or row 0 0 ≡ 0) → Dec (get_or row 0 0 ≡ 1) → Dec (get_or row 0 0 ≡ 2) → Dec (get_or row 0 0 ≡ 3) → (b : Bool) → in_range (facts_of row) ≡ b → Holds row (state_of row)
      by (yes e) _ _ _ _ _ = rw (is_empty_lem row size e) e
      by (no _) (yes e) _ _ true p = rw (is_here_lem row size e p) (holds_here e (in_ranges row p))
      by (no _) (yes e) _ _ false p = rw (is_torn row e p) (inr (e, λ r. true≢false (sym (ranges_pass row r) ∙ p)))
      by (no _) (no _) (yes e) _ _ _ = rw (is_away_lem row size e) e
      by (no _) (no _) (no _) (yes e) _ _ = rw (is_gone row size e) e
      by (no a) (no b) (no c) (no d) _ _ = let above : 3 < get_or row 0 0 = omega arith in rw (is_none row above) (inl above)

  is_here_with : (f : Facts) → HoldsHere row f → state_of row ≡ Here f
  unfolding facts_of
  is_here_with f h =
      is_here_lem row size h.state (ranges_pass row h.ranges)
      ∙ ap Here (facts_same (sym h.cci) (sym h.trigger) (sym h.rights) (sym h.permits) (sym h.title_key) (sym h.sti_key))

  is_no_state : HoldsNone row → state_of row ≡ NoState
  is_no_state (inl above) = is_none row above
  is_no_state (inr (e, outside)) = is_torn row e (refuted (λ p. outside (in_ranges row p)))

  states : States row
  states =
      record {
        empty = (λ e. rw e at holds, is_empty_lem row size);
        here = λ f. (λ e. rw e at holds, is_here_with f);
        away = (λ e. rw e at holds, is_away_lem row size);
        gone = (λ e. rw e at holds, is_gone row size);
        none = (λ e. rw e at holds, is_no_state);
      }

-- the bytes that a state is read from are the same
zeros_ignored : (x y : List ℕ) → length x ≡ 24 → length y ≡ 24 → SameButZeros x y → state_of x ≡ state_of y
unfolding state_of facts_of
zeros_ignored x y p q s =
    rw (p, q, byte 0 (omega arith), byte 1 (omega arith), byte 2 (omega arith), byte 3 (omega arith), byte 4 (omega arith), s.bytes_8_14, s.bytes_16_22) refl
  where
    byte : (i : ℕ) → i < 5 → get_or x i 0 ≡ get_or y i 0
    byte i h = sym (get_or-take 5 x i 0 h) ∙ ap (λ (l : List ℕ). get_or l i 0) s.bytes_0_4 ∙ get_or-take 5 y i 0 h

rows : Rows
rows =
    record {
      written_here = written_here;
      written_plain = written_plain;
      changed_permits = changed_permits;
      states = states;
      zeros_ignored = zeros_ignored;
    }

-- ENTRIES

-- a half of bytes: its ID and its use
module _ (h : List ℕ) (size : 16 ≤ length h) (byte : Bytes h) where
  id_same : content_id h ≡ id_of h
  unfolding number
  id_same = ap (λ (l : List ℕ). number l % 1024) (part_cells 2 14 h size) ∙ omega (arith, byte 15)

  is_usable : usable_of h ≡ true → Usable h
  is_usable u =
      record {
        flag =
            elim (dec_le 128 (get_or h 8 0)) [
              | yes p ↦ p
              | no p ↦ absurd (true≢false (sym u ∙ not_flagged h (lt-leb 128 (get_or h 8 0) (omega arith))))
            ];
        named = λ z. omega (arith, usable_id_lem h u, id_same);
      }

  usable : Usable h → usable_of h ≡ true
  usable u = flagged h size (le-leb _ _ u.flag) ∙ ap not (ne_eqb _ _ (λ z. u.named (id_same ∙ z)))

  not_usable : usable_of h ≡ false → Usable h → ⊥
  not_usable e u = true≢false (sym (usable u) ∙ e)

  unusable : (Usable h → ⊥) → usable_of h ≡ false
  unusable n = refuted (λ u. n (is_usable u))

module _ (t r : List ℕ) (t-size : length t ≡ 16) (r-size : length r ≡ 32) (t-byte : Bytes t) (r-byte : Bytes r) where
  t_long : 16 ≤ length t
  t_long = omega arith

  r_long : 16 ≤ length r
  r_long = omega arith

  t_id : content_id t ≡ id_of t
  t_id = id_same t t_long t-byte

  r_id : content_id r ≡ id_of r
  r_id = id_same r r_long r-byte

  none_usable : {named : Bool} → IsVacant t r named → NoneUsable t r
  none_usable k = record { title = not_usable t t_long t-byte k.title_unusable; rule = not_usable r r_long r-byte k.rule_unusable }

  holds_spent : kind_of t r ≡ Spent → HoldsSpent t r
  holds_spent e =
      let k = of_spent t r e in
      let n = names_says t k.names in
      record {
        unusable = none_usable k;
        names = record { flag = leb-false 128 (get_or t 8 0) n.flag; from = omega (arith, t_id, n.from); to = omega (arith, t_id, n.to) };
      }

  named_lem : NamesSpent t → names_spent t ≡ true
  named_lem n = names_lem (record { whole = t_long; flag = lt-leb 128 (get_or t 8 0) n.flag; from = omega (arith, t_id, n.from); to = omega (arith, t_id, n.to) })

  holds_free : kind_of t r ≡ Free → HoldsFree t r
  holds_free e =
      let k = of_free t r e in
      record { unusable = none_usable k; not_spent = λ s. true≢false (sym (named_lem s.names) ∙ k.names) }

  holds_copy : kind_of t r ≡ Copy → HoldsCopy t r
  holds_copy e =
      let k = of_copy t r e in
      let s = k.title_sound in
      record {
        title = is_usable t t_long t-byte s.usable;
        rule = not_usable r r_long r-byte k.rule_unusable;
        most = omega (arith, t_id);
        cci = s.cci_not_one;
      }

  holds_full : kind_of t r ≡ Full → HoldsFull t r
  holds_full e =
      let k = of_full t r e in
      let s = k.title_sound in
      record {
        title = is_usable t t_long t-byte s.usable;
        rule = is_usable r r_long r-byte k.rule_usable;
        same = t_id ∙ k.same_id ∙ sym r_id;
        most = omega (arith, t_id);
        cci = s.cci_not_one;
      }

  -- no half is usable: spent or free, by the title half
  module _ (h : NoneUsable t r) where
    title_no : usable_of t ≡ false
    title_no = unusable t t_long t-byte h.title

    rule_no : usable_of r ≡ false
    rule_no = unusable r r_long r-byte h.rule

    free_or_spent : (kind_of t r ≡ Free) ⊎ (kind_of t r ≡ Spent)
    free_or_spent = by (names_spent t) refl
      where
        by : (x : Bool) → names_spent t ≡ x → (kind_of t r ≡ Free) ⊎ (kind_of t r ≡ Spent)
        by true e = inr (kind_spent t r title_no rule_no e)
        by false e = inl (kind_free t r title_no rule_no e)

  none_where : is_vacant (kind_of t r) ≡ true → NoneUsable t r
  none_where e =
      let (title, rule) = split (not (usable_of t)) (not (usable_of r)) (vacant_lem t r ∙ e) in
      record { title = not_usable t t_long t-byte (not-true _ title); rule = not_usable r r_long r-byte (not-true _ rule) }

  is_spent_lem : HoldsSpent t r → kind_of t r ≡ Spent
  is_spent_lem h = kind_spent t r (title_no h.unusable) (rule_no h.unusable) (named_lem h.names)

  is_free_lem : HoldsFree t r → kind_of t r ≡ Free
  is_free_lem h = elim (free_or_spent h.unusable) [ inl free ↦ free | inr spent ↦ absurd (h.not_spent (holds_spent spent)) ]

  is_copy_lem : HoldsCopy t r → kind_of t r ≡ Copy
  is_copy_lem h = copy_beside t r (usable t t_long t-byte h.title) (omega (arith, t_id)) h.cci (unusable r r_long r-byte h.rule)

  is_full_lem : HoldsFull t r → kind_of t r ≡ Full
  is_full_lem h =
      full_beside t r (usable t t_long t-byte h.title) (omega (arith, t_id)) h.cci (usable r r_long r-byte h.rule)
      (sym t_id ∙ h.same ∙ r_id)

  holds_torn : kind_of t r ≡ Torn → HoldsTorn t r
  holds_torn e =
      record {
        not_free = λ h. let k = is_free_lem h in let z : ◌≡◌ {A = ℕ} 0 1 = cc in omega arith;
        not_copy = λ h. let k = is_copy_lem h in let z : ◌≡◌ {A = ℕ} 0 1 = cc in omega arith;
        not_full = λ h. let k = is_full_lem h in let z : ◌≡◌ {A = ℕ} 0 1 = cc in omega arith;
        not_spent = λ h. let k = is_spent_lem h in let z : ◌≡◌ {A = ℕ} 0 1 = cc in omega arith;
      }

  -- the kind is one of the five
  is_torn_entry : HoldsTorn t r → kind_of t r ≡ Torn
  is_torn_entry h = by (kind_of t r) refl
    where
      by : (k : EntryKind) → kind_of t r ≡ k → kind_of t r ≡ Torn
      by Free e = absurd (h.not_free (holds_free e))
      by Copy e = absurd (h.not_copy (holds_copy e))
      by Full e = absurd (h.not_full (holds_full e))
      by Torn e = e
      by Spent e = absurd (h.not_spent (holds_spent e))

  kinds : Kinds t r
  kinds =
      record {
        free = (holds_free, is_free_lem);
        copy = (holds_copy, is_copy_lem);
        full = (holds_full, is_full_lem);
        torn = (holds_torn, is_torn_entry);
        spent = (holds_spent, is_spent_lem);
        vacant = (none_where, λ h. sym (vacant_by t r (title_no h) (rule_no h)));
      }

facts : (t r : List ℕ) → HoldsFacts t r (entry_facts t r)
unfolding entry_facts
facts t r = record { cci = refl; trigger = refl; rights = refl; permits = refl; title_key = refl; sti_key = refl }

entries : Entries
entries = record { kinds = kinds; facts = facts }

-- FRESH TABLES

-- behind a front of known length there is nothing but zeros
zeros_from : (front : List ℕ) (n i : ℕ) → length front ≤ i → get_or (front ++ replicate n 0) i 0 ≡ 0
zeros_from [] n i h = zero_at n i
zeros_from (b ∷ front) n zero h = absurd (omega arith)
zeros_from (b ∷ front) n (suc i) h = zeros_from front n i (omega arith)

fresh_ledger_lem : (rows application : ℕ) → FreshLedger rows application (fresh_ledger rows application)
unfolding fresh_ledger bytes_of
fresh_ledger_lem rows application =
    record {
      size = fresh_ledger_length rows application;
      bytes_0_1 = refl;
      bytes_2_3 = refl;
      zeros = λ i h. zeros_from (bytes_of 2 application ++ bytes_of 2 rows) (20 + 24 * rows) i h;
    }

-- the head and the zeros of a card table, by its identifier's two bytes
fresh_card : (identifier letter version size application width mark n : ℕ) → bytes_of 2 identifier ≡ letter ∷ 0x31 ∷ [] → (t : List ℕ)
    → t ≡ table_head identifier version size application width mark ++ replicate n 0 → length t ≡ size
    → FreshCard letter version size application width mark t
unfolding table_head bytes_of
fresh_card identifier letter version size application width mark n two t is long =
    rw is
    record {
      long = rw is at long;
      bytes_0_3 = ap (λ (l : List ℕ). l ++ (0 ∷ version ∷ [])) two;
      bytes_4_7 = refl;
      bytes_8_9 = refl;
      bytes_10_11 = refl;
      byte_12 = refl;
      byte_13 = refl;
      zeros = λ i h. zeros_from (table_head identifier version size application width mark) n i h;
    }

titles_letter_lem : (pair : Pair) → bytes_of 2 (titles_identifier pair) ≡ titles_letter pair ∷ 0x31 ∷ []
unfolding bytes_of titles_identifier
titles_letter_lem Audio = refl
titles_letter_lem Picture = refl

rules_letter_lem : (pair : Pair) → bytes_of 2 (rules_identifier pair) ≡ rules_letter pair ∷ 0x31 ∷ []
unfolding bytes_of rules_identifier
rules_letter_lem Audio = refl
rules_letter_lem Picture = refl

fresh_titles_lem : (pair : Pair) → FreshCard (titles_letter pair) 0x10 16000 0 16 0x01 (fresh_titles pair)
unfolding fresh_titles
fresh_titles_lem pair = fresh_card (titles_identifier pair) (titles_letter pair) 0x10 16000 0 16 0x01 15986 (titles_letter_lem pair) _ refl (fresh_titles_length pair)

fresh_rules_lem : (pair : Pair) (application : ℕ) → FreshCard (rules_letter pair) 0x11 32000 application 32 0x02 (fresh_rules pair application)
unfolding fresh_rules
fresh_rules_lem pair application =
    fresh_card (rules_identifier pair) (rules_letter pair) 0x11 32000 application 32 0x02 31986 (rules_letter_lem pair) _ refl (fresh_rules_length pair application)

fresh : Fresh
fresh = record { ledger = fresh_ledger_lem; titles = fresh_titles_lem; rules = fresh_rules_lem }

pub layout : Layout
layout = record { fields = fields; halves = halves; heads = heads; rows = rows; entries = entries; fresh = fresh }
