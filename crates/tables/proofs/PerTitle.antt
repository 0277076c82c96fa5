-- What a card has of each title, and its spent entries: one more entry.
-- Assumes nothing.
use Prim.Native.Nat.{ℕ, zero, suc, ◌+◌, ◌≤◌, ◌<◌}
use mathlib.Core.Path.{◌≡◌, refl, sym, ap, ap₂, ◌∙◌}
use mathlib.Core.Logic.{◌≢◌}
use mathlib.Core.List.{List}
use mathlib.Core.Bool.{Bool, true, false, ◌&&◌}
use native.Mathlib.Omega.{arith}
use native.Mathlib.Numerals.{add-one}
use native.Mathlib.Decide.{ℕ_discrete, dec_lt}
use lib.Dec.{eqb}
use lib.ListN.{length, get_or, set, replicate, length-set, length-replicate, get_or-replicate, get_or-eq_default}
use lib.Seq.{get_or-set_same, get_or-set_other}
use borrow.Author.Tests.{eq-eqb, ne_eqb}
use Rattle.formats.specs.Half.{id_of}
use Rattle.formats.specs.Entry.{kind_of, is_copy, is_full, is_spent}
use Rattle.formats.specs.declared.entry.EntryKind.{EntryKind}
use Rattle.formats.specs.declared.entry.EntryKind.TheVariants.{Free, Copy, Full, Torn, Spent}
use Rattle.formats.proofs.Tests.{and_false}
use Rattle.formats.proofs.half.Laws.{names_says}
use Rattle.formats.proofs.entry.Laws.{of_copy, of_full, of_spent}
use Rattle.calls.specs.Buffers.{title_at, rule_at, copies, full_with, first_of, one, total}
use Rattle.calls.proofs.First.{first_before, first_here, first_not_yet}
use Rattle.tables.specs.Copies.{copy_at}
use Rattle.tables.specs.declared.by_title.OnCard.{OnCard}
use Rattle.tables.specs.ByTitle.{first_full, spent_at, spent_entries, nothing, ForEach}

-- a copy or a full entry has an ID that has a place
module _ (t r : List ℕ) {content : ℕ} (is : content ≡ id_of t) where
  pub copy_within : kind_of t r ≡ Copy → content ≤ 999
  copy_within e = let s = (of_copy t r e).title_sound in omega (arith, is, s.id_to)

  pub full_within : kind_of t r ≡ Full → content ≤ 999
  full_within e = let s = (of_full t r e).title_sound in omega (arith, is, s.id_to)

-- ONE ENTRY MORE

-- a sum of ones
pub ones : (n : ℕ) (t : ℕ → Bool) → total n (λ j. one (t j)) ≤ n
unfolding total
ones zero t = omega arith
ones (suc n) t = by (t (suc n)) (ones n t)
  where
    by : (x : Bool) → total n (λ j. one (t j)) ≤ n → one x + total n (λ j. one (t j)) ≤ suc n
    by true h = omega arith
    by false h = omega arith

at_next : (t : ℕ → Bool) (k : ℕ) {b : Bool} → t (k + 1) ≡ b → t (suc k) ≡ b
at_next t k e = sym (ap t (add-one k)) ∙ e

module _ (t : ℕ → Bool) (k : ℕ) {n : ℕ} where
  same_count : n ≡ total k (λ j. one (t j)) → t (k + 1) ≡ false → n ≡ total (k + 1) (λ j. one (t j))
  unfolding total
  same_count is e = rw (add-one k) (omega (arith, is, ap one (at_next t k e)))

  one_more : n ≡ total k (λ j. one (t j)) → t (k + 1) ≡ true → n + 1 ≡ total (k + 1) (λ j. one (t j))
  unfolding total
  one_more is e = rw (add-one k) (omega (arith, is, ap one (at_next t k e)))

  stays_first : n ≡ first_of k t → n ≢ 0 → n ≡ first_of (k + 1) t
  stays_first is some = rw (add-one k) (is ∙ sym (first_before t k (λ z. some (is ∙ z))))

  same_first : n ≡ first_of k t → t (k + 1) ≡ false → n ≡ first_of (k + 1) t
  same_first is e =
      elim (ℕ_discrete n 0) [
        | yes z ↦ rw (add-one k) (z ∙ sym (first_not_yet t k (sym is ∙ z) (at_next t k e)))
        | no some ↦ stays_first is some
      ]

  is_first : n ≡ first_of k t → n ≡ 0 → t (k + 1) ≡ true → k + 1 ≡ first_of (k + 1) t
  is_first is z e = rw (add-one k) (sym (first_here t k (sym is ∙ z) (at_next t k e)))

-- WHAT THE FIRST K ENTRIES HAVE OF EACH TITLE, and how many of them are spent

module _ (titles rules : List ℕ) where
  abbrev full_at : ℕ → ℕ → Bool
  full_at c j = full_with c (title_at titles j) (rule_at rules j)

  pub record Found (k : ℕ) (places : List OnCard) (spent : ℕ) : Type 0 where
    pub few : k ≤ 999
    pub size : 1000 ≡ length places
    pub copies_at : (c : ℕ) → (get_or places c nothing).copies ≡ total k (λ j. one (copy_at c titles rules j))
    pub first_full_at : (c : ℕ) → (get_or places c nothing).first_full ≡ first_of k (full_at c)
    pub spent_are : spent ≡ total k (λ j. one (spent_at titles rules j))

  pub found_start : Found 0 (replicate 1000 nothing) 0
  unfolding total first_of
  found_start =
      let size : 1000 ≡ length (replicate 1000 nothing) = sym (length-replicate {A = OnCard} 1000 nothing) in
      let at : (c : ℕ) → get_or (replicate 1000 nothing) c nothing ≡ nothing
      = λ c. elim (dec_lt c 1000) [
        | yes h ↦ get_or-replicate {A = OnCard} 1000 c nothing nothing h
        | no h ↦ get_or-eq_default (replicate 1000 nothing) nothing {n = c} (omega (arith, size))
      ] in
      record {
        few = omega arith;
        size = size;
        copies_at = λ c. ap (λ (p : OnCard). p.copies) (at c);
        first_full_at = λ c. ap (λ (p : OnCard). p.first_full) (at c);
        spent_are = refl;
      }

  pub found_all : {k : ℕ} {places : List OnCard} {spent : ℕ} → Found k places spent → 999 ≤ k
      → ForEach titles rules places × (spent ≡ spent_entries titles rules)
  unfolding copies first_full spent_entries
  found_all {k} s h =
      let few = s.few in
      let e : k ≡ 999 = omega arith in (
        record {
          size = s.size;
          copies_at = λ c. s.copies_at c ∙ ap (λ (n : ℕ). total n (λ j. one (copy_at c titles rules j))) e;
          first_full_at = λ c. s.first_full_at c ∙ ap (λ (n : ℕ). first_of n (full_at c)) e;
        },
        s.spent_are ∙ ap (λ (n : ℕ). total n (λ j. one (spent_at titles rules j))) e,
      )

  pub spent_most : spent_entries titles rules ≤ 999
  unfolding spent_entries
  spent_most = ones 999 (spent_at titles rules)

  pub copies_few : {k : ℕ} {places : List OnCard} {spent : ℕ} → Found k places spent → (c : ℕ) → (get_or places c nothing).copies ≤ 999
  copies_few {k} s c = let few = s.few in omega (arith, s.copies_at c, ones k (λ j. copy_at c titles rules j))

  pub spent_few : {k : ℕ} {places : List OnCard} {spent : ℕ} → Found k places spent → spent ≤ 999
  spent_few {k} s = let few = s.few in omega (arith, s.spent_are, ones k (λ j. spent_at titles rules j))

  -- the next entry
  module _ {k : ℕ} {places : List OnCard} {spent : ℕ} (s : Found k places spent) (more : k < 999) {t r : List ℕ} (title : t ≡ title_at titles (k + 1)) (rule : r ≡ rule_at rules (k + 1)) where
    kind_is : {x : EntryKind} → kind_of t r ≡ x → kind_of (title_at titles (k + 1)) (rule_at rules (k + 1)) ≡ x
    kind_is e = ap₂ kind_of (sym title) (sym rule) ∙ e

    -- an entry that is neither a copy nor full adds nothing to any title
    nothing_more : {x : EntryKind} {n : ℕ} → kind_of t r ≡ x → is_copy x ≡ false → is_full x ≡ false → n ≡ total (k + 1) (λ j. one (spent_at titles rules j)) → Found (k + 1) places n
    nothing_more e copy full spent =
        record {
          few = omega arith;
          size = s.size;
          copies_at = λ c. same_count (λ j. copy_at c titles rules j) k (s.copies_at c) (ap (λ x. is_copy x && eqb (id_of (title_at titles (k + 1))) c) (kind_is e) ∙ ap (λ b. b && eqb (id_of (title_at titles (k + 1))) c) copy);
          first_full_at = λ c. same_first (full_at c) k (s.first_full_at c) (ap (λ x. is_full x && eqb (id_of (title_at titles (k + 1))) c) (kind_is e) ∙ ap (λ b. b && eqb (id_of (title_at titles (k + 1))) c) full);
          spent_are = spent;
        }

    not_spent : {x : EntryKind} → kind_of t r ≡ x → is_spent x ≡ false → spent ≡ total (k + 1) (λ j. one (spent_at titles rules j))
    not_spent e other = same_count (spent_at titles rules) k s.spent_are (ap is_spent (kind_is e) ∙ other)

    pub one_free : kind_of t r ≡ Free → Found (k + 1) places spent
    one_free e = nothing_more e refl refl (not_spent e refl)

    pub one_torn : kind_of t r ≡ Torn → Found (k + 1) places spent
    one_torn e = nothing_more e refl refl (not_spent e refl)

    pub one_spent : kind_of t r ≡ Spent → Found (k + 1) places (spent + 1)
    one_spent e = nothing_more e refl refl (one_more (spent_at titles rules) k s.spent_are (ap is_spent (kind_is e)))

    -- an entry whose title half has ID 0 is free or torn
    pub one_passed : id_of t ≡ 0 → Found (k + 1) places spent
    one_passed none = by (kind_of t r) refl
      where
        by : (x : EntryKind) → kind_of t r ≡ x → Found (k + 1) places spent
        by Free e = one_free e
        by Copy e = let h = (of_copy t r e).title_sound in absurd (omega (arith, none, h.id_from))
        by Full e = let h = (of_full t r e).title_sound in absurd (omega (arith, none, h.id_from))
        by Torn e = one_torn e
        by Spent e = let h = names_says t (of_spent t r e).names in absurd (omega (arith, none, h.from))

    -- its ID
    module _ {content : ℕ} (id : content ≡ id_of t) where
      abbrev place : OnCard
      place = get_or places content nothing

      id_is : id_of (title_at titles (k + 1)) ≡ content
      id_is = ap id_of (sym title) ∙ sym id

      own : eqb (id_of (title_at titles (k + 1))) content ≡ true
      own = eq-eqb (id_of (title_at titles (k + 1))) content id_is

      other : {c : ℕ} → c ≢ content → eqb (id_of (title_at titles (k + 1))) c ≡ false
      other {c} ne = ne_eqb (id_of (title_at titles (k + 1))) c (λ e. ne (sym e ∙ id_is))

      -- of another title there is what there was
      other_copies : {c : ℕ} → c ≢ content → (get_or places c nothing).copies ≡ total (k + 1) (λ j. one (copy_at c titles rules j))
      other_copies {c} ne = same_count (λ j. copy_at c titles rules j) k (s.copies_at c) (rw (other ne) (and_false _))

      other_first : {c : ℕ} → c ≢ content → (get_or places c nothing).first_full ≡ first_of (k + 1) (full_at c)
      other_first {c} ne = same_first (full_at c) k (s.first_full_at c) (rw (other ne) (and_false _))

      -- so the place of its own title is the one that changes
      changed : (p : OnCard) → content ≤ 999 → p.copies ≡ total (k + 1) (λ j. one (copy_at content titles rules j)) → p.first_full ≡ first_of (k + 1) (full_at content)
          → spent ≡ total (k + 1) (λ j. one (spent_at titles rules j)) → Found (k + 1) (set places content p) spent
      changed p few copied first none =
          let here : get_or (set places content p) content nothing ≡ p = get_or-set_same places content p nothing (omega (arith, s.size)) in
          record {
            few = omega arith;
            size = s.size ∙ sym (length-set places content p);
            copies_at = λ c.
                elim (ℕ_discrete c content) [
                  | yes e ↦ rw (e, here) copied
                  | no ne ↦ rw (get_or-set_other places content c p nothing ne) (other_copies ne)
                ];
            first_full_at = λ c.
                elim (ℕ_discrete c content) [
                  | yes e ↦ rw (e, here) first
                  | no ne ↦ rw (get_or-set_other places content c p nothing ne) (other_first ne)
                ];
            spent_are = none;
          }

      pub one_copy : kind_of t r ≡ Copy → Found (k + 1) (set places content (record { copies = place.copies + 1; first_full = place.first_full })) spent
      one_copy copy =
          let e = kind_is copy in
          changed _ (copy_within t r id copy)
          (one_more (λ j. copy_at content titles rules j) k (s.copies_at content) (rw (e, own) refl))
          (same_first (full_at content) k (s.first_full_at content) (rw e refl))
          (not_spent copy refl)

      module _ (full : kind_of t r ≡ Full) where
        full_is : kind_of (title_at titles (k + 1)) (rule_at rules (k + 1)) ≡ Full
        full_is = kind_is full

        same_copies : (c : ℕ) → (get_or places c nothing).copies ≡ total (k + 1) (λ j. one (copy_at c titles rules j))
        same_copies c = same_count (λ j. copy_at c titles rules j) k (s.copies_at c) (rw full_is refl)

        -- an entry before it is the title's first
        pub one_before : place.first_full ≢ 0 → Found (k + 1) places spent
        one_before found =
            record {
              few = omega arith;
              size = s.size;
              copies_at = same_copies;
              first_full_at = λ c.
                  elim (ℕ_discrete c content) [
                    | yes e ↦ rw e (stays_first (full_at content) k (s.first_full_at content) found)
                    | no ne ↦ other_first ne
                  ];
              spent_are = not_spent full refl;
            }

        -- it is the first
        pub first_one : place.first_full ≡ 0 → Found (k + 1) (set places content (record { copies = place.copies; first_full = k + 1 })) spent
        first_one none =
            changed _ (full_within t r id full) (same_copies content)
            (is_first (full_at content) k (s.first_full_at content) none (rw (full_is, own) refl))
            (not_spent full refl)
