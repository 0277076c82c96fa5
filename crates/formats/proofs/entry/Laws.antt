-- The laws of an entry's kind: one for each way to it, what a kind says of the halves, and what writing and wiping make of them.
-- Assumes nothing.
use Prim.Native.Nat.{ℕ, ◌^◌, ◌≤◌, ◌<◌}
use mathlib.Core.Path.{◌≡◌, refl, sym, ap, ap₂, ◌∙◌}
use mathlib.Core.List.{List, []}
use mathlib.Core.Logic.{◌⊎◌, ⊎_elim}
use mathlib.Core.Bool.{Bool, true, false, not, ◌&&◌, ◌||◌, cond, true≢false}
use native.Mathlib.Omega.{arith}
use native.Mathlib.Decide.{dec_lt, ℕ_discrete}
use lib.Dec.{ltb, eqb}
use lib.ListN.{length, replicate}
use borrow.Author.Tests.{lt-ltb, le-ltb, eq-eqb, ne_eqb}
use Rattle.formats.specs.Bytes.{Bytes}
use Rattle.formats.specs.Answer.{Answer, case}
use Rattle.formats.specs.Half.{usable_of, id_of, names_spent, wiped}
use Rattle.formats.specs.Title.{cci_of, title_half}
use Rattle.formats.specs.Entry.{kind_by, kind_of, is_vacant, entry_facts}
use Rattle.formats.specs.Rule.{rule_half, wiped_rule}
use Rattle.formats.specs.declared.facts.Facts.{Facts}
use Rattle.formats.specs.declared.facts.Fillers.{Fillers}
use Rattle.formats.specs.declared.entry.EntryKind.{EntryKind}
use Rattle.formats.specs.declared.entry.EntryKind.TheVariants.{Free, Copy, Full, Torn, Spent}
use Rattle.formats.proofs.half.Laws.{written_key, written_id, written_usable, usable_id_lem, usable_whole, zeros_unusable, half_wiped, wiped_length, flag_cleared, id_kept, names_lem}
use Rattle.formats.proofs.title.Laws.{title_written_lem, title_cci}
use Rattle.formats.proofs.rule.Laws.{rule_written_lem, rule_trigger, rule_rights, rule_permits, rule_wiped}
use Rattle.formats.proofs.field.Laws.{number_below}
use Rattle.formats.proofs.facts.Laws.{Ranges, facts_same}

-- the kinds numbered from 0 in the papers' order, "free .. copy .. full .. torn" and "a fifth, spent", without values
unfoldable pub kind_answer : EntryKind → Answer
kind_answer Free = case 0 []
kind_answer Copy = case 1 []
kind_answer Full = case 2 []
kind_answer Torn = case 3 []
kind_answer Spent = case 4 []

-- a kind back from its number
kind_from : ℕ → EntryKind
kind_from n = cond (eqb n 0) Free (cond (eqb n 1) Copy (cond (eqb n 2) Full (cond (eqb n 3) Torn Spent)))

kind_back : (k : EntryKind) → kind_from (kind_answer k).number ≡ k
unfolding kind_answer kind_from
kind_back Free = refl
kind_back Copy = refl
kind_back Full = refl
kind_back Torn = refl
kind_back Spent = refl

-- kinds with the same answer are the same
pub same_kind : {x y : EntryKind} → kind_answer x ≡ kind_answer y → x ≡ y
same_kind {x} {y} e = sym (kind_back x) ∙ ap (λ (a : Answer). kind_from a.number) e ∙ kind_back y

torn_anyway : (b : Bool) → cond b Torn Torn ≡ Torn
torn_anyway true = refl
torn_anyway false = refl

torn_last : (a b : Bool) (k : EntryKind) → cond (a || (b || true)) Torn k ≡ Torn
torn_last true b k = refl
torn_last false true k = refl
torn_last false false k = refl

module _ (t r : List ℕ) where
  -- no half is usable: spent or free, by whether the title half names a title
  pub kind_spent : usable_of t ≡ false → usable_of r ≡ false → names_spent t ≡ true → kind_of t r ≡ Spent
  unfolding kind_of
  kind_spent t-no r-no named = simp (t-no, r-no, named)

  pub kind_free : usable_of t ≡ false → usable_of r ≡ false → names_spent t ≡ false → kind_of t r ≡ Free
  unfolding kind_of
  kind_free t-no r-no unnamed = simp (t-no, r-no, unnamed)

  -- only the rule half is usable
  pub torn_lone : usable_of t ≡ false → usable_of r ≡ true → kind_of t r ≡ Torn
  unfolding kind_of
  torn_lone t-no r-yes = simp (t-no, r-yes, torn_anyway)

  module _ (t-yes : usable_of t ≡ true) where
    -- a usable title half with an ID above 999
    pub torn_id : 999 < id_of t → kind_of t r ≡ Torn
    unfolding kind_of
    torn_id above = simp (t-yes, lt-ltb 999 (id_of t) above)

    -- a usable title half with CCI 1
    pub torn_cci : cci_of t ≡ 1 → kind_of t r ≡ Torn
    unfolding kind_of
    torn_cci one = simp (t-yes, eq-eqb (cci_of t) 1 one, torn_last)

    module _ (in_limits : id_of t ≤ 999) (not_one : cci_of t ≡ 1 → ⊥) where
      -- a sound title half beside a rule half that is not usable
      pub copy_beside : usable_of r ≡ false → kind_of t r ≡ Copy
      unfolding kind_of
      copy_beside r-no = simp (t-yes, r-no, le-ltb 999 (id_of t) in_limits, ne_eqb (cci_of t) 1 not_one)

      -- beside a usable rule half with its ID
      pub full_beside : usable_of r ≡ true → id_of t ≡ id_of r → kind_of t r ≡ Full
      unfolding kind_of
      full_beside r-yes same =
          simp (t-yes, r-yes, le-ltb 999 (id_of t) in_limits, ne_eqb (cci_of t) 1 not_one, le-ltb 999 (id_of r) (omega arith), eq-eqb (id_of t) (id_of r) same)

      -- and beside one with another ID
      pub torn_ids : usable_of r ≡ true → (id_of t ≡ id_of r → ⊥) → kind_of t r ≡ Torn
      unfolding kind_of
      torn_ids r-yes other = simp (t-yes, r-yes, le-ltb 999 (id_of t) in_limits, ne_eqb (cci_of t) 1 not_one, ne_eqb (id_of t) (id_of r) other, torn_anyway)

-- an entry is free or spent exactly where no half is usable
torn_not : (torn : Bool) (k : EntryKind) → is_vacant k ≡ false → is_vacant (cond torn Torn k) ≡ false
torn_not true k e = refl
torn_not false k e = e

used_not : (torn a b same named : Bool) → (a || b) ≡ true → is_vacant (cond torn Torn (kind_by a b same named)) ≡ false
used_not torn true false same named e = torn_not torn Copy refl
used_not torn true true true named e = torn_not torn Full refl
used_not torn true true false named e = torn_not torn Torn refl
used_not torn false true same named e = torn_not torn Torn refl
used_not torn false false same named e = absurd (true≢false (sym e))

pub vacant_lem : (t r : List ℕ) → (not (usable_of t) && not (usable_of r)) ≡ is_vacant (kind_of t r)
unfolding kind_of
vacant_lem t r =
    by (usable_of t) (usable_of r) (ltb 999 (id_of t)) (ltb 999 (id_of r)) (eqb (cci_of t) 1) (eqb (id_of t) (id_of r)) (names_spent t)
  where
    by : (a b x y z same named : Bool) → (not a && not b) ≡ is_vacant (cond ((a && x) || ((b && y) || (a && z))) Torn (kind_by a b same named))
    by false false x y z same true = refl
    by false false x y z same false = refl
    by false true x y z same named = sym (used_not (y || false) false true same named refl)
    by true b x y z same named = sym (used_not (x || ((b && y) || z)) true b same named refl)

pub vacant_by : (t r : List ℕ) {a b : Bool} → usable_of t ≡ a → usable_of r ≡ b → (not a && not b) ≡ is_vacant (kind_of t r)
vacant_by t r title rule = ap₂ (λ (x y : Bool). not x && not y) (sym title) (sym rule) ∙ vacant_lem t r

-- an entry of zeros is free
pub kind_zeros : kind_of (replicate 16 0) (replicate 32 0) ≡ Free
kind_zeros = kind_free (replicate 16 0) (replicate 32 0) (zeros_unusable 16) (zeros_unusable 32) (unfold names_spent in refl)

module _ (cci key id : ℕ) (from : 1 ≤ id) (to : id ≤ 999) (small : cci < 4) (not_one : cci ≡ 1 → ⊥) where
  -- a title half, written beside a rule half that is not usable, makes a copy
  pub kind_copy : (r : List ℕ) → usable_of r ≡ false → kind_of (title_half cci key id) r ≡ Copy
  kind_copy r r-no =
      let t = title_written_lem cci key id in
      copy_beside (title_half cci key id) r (written_usable t from (omega arith)) (omega (arith, written_id t (omega arith)))
      (λ e. not_one (sym (title_cci cci key id small) ∙ e)) r-no

  -- beside a rule half that was written with the same ID, a full entry
  pub kind_full : (f : Facts) (hash : ℕ) → kind_of (title_half cci key id) (rule_half f hash id) ≡ Full
  kind_full f hash =
      let t = title_written_lem cci key id in
      let r = rule_written_lem f hash id in
      full_beside (title_half cci key id) (rule_half f hash id) (written_usable t from (omega arith)) (omega (arith, written_id t (omega arith)))
      (λ e. not_one (sym (title_cci cci key id small) ∙ e)) (written_usable r from (omega arith)) (t.id_is ∙ sym r.id_is)

-- a free or spent entry: no half is usable, and the title half names a title or does not
pub record IsVacant (t r : List ℕ) (named : Bool) : Type 0 where
  pub title_unusable : usable_of t ≡ false
  pub rule_unusable : usable_of r ≡ false
  pub names : names_spent t ≡ named

-- a usable title half with an ID from 1 to 999 and a CCI other than 1
pub record Sound (t : List ℕ) : Type 0 where
  pub usable : usable_of t ≡ true
  pub id_from : 1 ≤ id_of t
  pub id_to : id_of t ≤ 999
  pub cci_not_one : cci_of t ≡ 1 → ⊥

-- a copy: only the title half is usable, and it is sound
pub record IsCopy (t r : List ℕ) : Type 0 where
  pub title_sound : Sound t
  pub rule_unusable : usable_of r ≡ false

-- a full entry: both are usable with one ID, and the title half is sound
pub record IsFull (t r : List ℕ) : Type 0 where
  pub title_sound : Sound t
  pub rule_usable : usable_of r ≡ true
  pub same_id : id_of t ≡ id_of r

-- what a kind says of the halves
abbrev Says : EntryKind → List ℕ → List ℕ → Type 0
Says Free t r = IsVacant t r false
Says Copy t r = IsCopy t r
Says Full t r = IsFull t r
Says Torn t r = Unit {0}
Says Spent t r = IsVacant t r true

says : (t r : List ℕ) → Says (kind_of t r) t r
says t r = by (usable_of t) (usable_of r) refl refl (dec_lt 999 (id_of t)) (ℕ_discrete (cci_of t) 1) (ℕ_discrete (id_of t) (id_of r))
  where
    by : (a b : Bool) → usable_of t ≡ a → usable_of r ≡ b → Dec (999 < id_of t) → Dec (cci_of t ≡ 1) → Dec (id_of t ≡ id_of r) → Says (kind_of t r) t r
    by false false p q _ _ _ = vacant (names_spent t) refl
      where
        vacant : (x : Bool) → names_spent t ≡ x → Says (kind_of t r) t r
        vacant true e = rw (kind_spent t r p q e) (record { title_unusable = p; rule_unusable = q; names = e })
        vacant false e = rw (kind_free t r p q e) (record { title_unusable = p; rule_unusable = q; names = e })
    by false true p q _ _ _ = rw (torn_lone t r p q) tt
    by true _ p _ (yes above) _ _ = rw (torn_id t r p above) tt
    by true _ p _ (no _) (yes one) _ = rw (torn_cci t r p one) tt
    by true b p q (no x) (no y) z = beside b q z (record { usable = p; id_from = usable_id_lem t p; id_to = omega arith; cci_not_one = y })
      where
        beside : (b : Bool) → usable_of r ≡ b → Dec (id_of t ≡ id_of r) → Sound t → Says (kind_of t r) t r
        beside false q _ s = rw (copy_beside t r p s.id_to y q) (record { title_sound = s; rule_unusable = q })
        beside true q (yes same) s = rw (full_beside t r p s.id_to y q same) (record { title_sound = s; rule_usable = q; same_id = same })
        beside true q (no other) s = rw (torn_ids t r p s.id_to y q other) tt

-- a sound title half that is wiped names the title that it named
wiped_names : (t : List ℕ) (f : ℕ) → Sound t → names_spent (wiped t f) ≡ true
wiped_names t f s =
    let whole = usable_whole t s.usable in
    names_lem
    (record {
      whole = omega (arith, wiped_length t f whole);
      flag = flag_cleared t f;
      from = omega (arith, id_kept t f, s.id_from);
      to = omega (arith, id_kept t f, s.id_to);
    })

module _ (t r : List ℕ) where
  -- from a free entry to its halves, and from a spent one
  pub of_free : kind_of t r ≡ Free → IsVacant t r false
  of_free e = rw e at (says t r)

  pub of_spent : kind_of t r ≡ Spent → IsVacant t r true
  of_spent e = rw e at (says t r)

  pub vacant_rule : (kind_of t r ≡ Free) ⊎ (kind_of t r ≡ Spent) → usable_of r ≡ false
  vacant_rule = ⊎_elim (λ e. (of_free e).rule_unusable) (λ e. (of_spent e).rule_unusable)

  -- from a copy to its halves
  pub of_copy : kind_of t r ≡ Copy → IsCopy t r
  of_copy e = rw e at (says t r)

  -- from a full entry to its halves
  pub of_full : kind_of t r ≡ Full → IsFull t r
  of_full e = rw e at (says t r)

  -- a copy whose title half is wiped is spent
  pub copy_wiped : (f : ℕ) → kind_of t r ≡ Copy → kind_of (wiped t f) r ≡ Spent
  copy_wiped f e = let c = of_copy e in kind_spent (wiped t f) r (half_wiped t f).unusable c.rule_unusable (wiped_names t f c.title_sound)

  -- and so is a full entry with both halves wiped
  pub both_wiped : (f : ℕ) (fillers : Fillers) → length r ≡ 32 → kind_of t r ≡ Full → kind_of (wiped t f) (wiped_rule r fillers) ≡ Spent
  both_wiped f fillers size e =
      kind_spent (wiped t f) (wiped_rule r fillers) (half_wiped t f).unusable (rule_wiped r fillers size).unusable (wiped_names t f (of_full e).title_sound)

-- the facts that were written in an entry's halves are read back
pub entry_facts_back : (f : Facts) (hash id : ℕ) → Ranges f → f.title_key < 2 ^ 56 → f.sti_key < 2 ^ 56
    → entry_facts (title_half f.cci f.title_key id) (rule_half f hash id) ≡ f
unfolding entry_facts
entry_facts_back f hash id r t s =
    facts_same (title_cci f.cci f.title_key id (omega arith)) (rule_trigger f hash id (omega arith)) (rule_rights f hash id (omega arith))
    (rule_permits f hash id (omega arith)) (written_key (title_written_lem f.cci f.title_key id) t) (written_key (rule_written_lem f hash id) s)

-- the facts of an entry of bytes whose title half is sound are in their ranges, and its keys are below 2 ^ 56
module _ (t r : List ℕ) (t-bytes : Bytes t) (r-bytes : Bytes r) where
  pub entry_facts_range : Sound t → Ranges (entry_facts t r)
  unfolding entry_facts
  entry_facts_range s =
      record {
        cci = omega arith;
        kind = s.cci_not_one;
        trigger = omega (arith, r-bytes 16);
        rights = omega (arith, r-bytes 17);
        permits = omega arith;
      }

  pub entry_keys : length t ≡ 16 → length r ≡ 32 → ((entry_facts t r).title_key < 2 ^ 56) × ((entry_facts t r).sti_key < 2 ^ 56)
  unfolding entry_facts
  entry_keys t-size r-size = (number_below 7 1 t t-bytes (omega arith), number_below 7 1 r r-bytes (omega arith))
