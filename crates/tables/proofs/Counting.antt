-- Counting the entries of which a test holds, from the first on, and when an entry is a copy of a title or full with it.
-- Assumes nothing.
use Prim.Native.Nat.{ℕ, suc, ◌+◌, ◌-◌, ◌≤◌, ◌<◌}
use mathlib.Core.Path.{◌≡◌, refl, sym, ap, ◌∙◌}
use mathlib.Core.List.{List}
use mathlib.Core.Bool.{Bool, true, false, not, ◌&&◌, true≢false}
use native.Mathlib.Omega.{arith}
use lib.Dec.{eqb}
use borrow.Author.Tests.{eq-eqb, eqb-true, le-leb}
use Rattle.formats.specs.Half.{id_of, usable_of, flagged_with}
use Rattle.formats.specs.Title.{cci_of}
use Rattle.formats.specs.Entry.{kind_of, is_copy, is_full}
use Rattle.formats.proofs.Tests.{split, both, refuted}
use Rattle.formats.specs.Facts.{numbered}
use Rattle.formats.proofs.facts.Laws.{numbered_range}
use Rattle.formats.proofs.entry.Laws.{Sound, IsCopy, IsFull, of_copy, of_full, copy_beside, full_beside}
use Rattle.calls.specs.Buffers.{copy_of, full_with, one, total}
use Rattle.calls.proofs.Passed.{is_copy_lem, is_full_lem}
use Rattle.calls.proofs.Refusals.{holds_not}

-- n of the entries before j pass
pub record Counted (p : ℕ → Bool) (j n : ℕ) : Type 0 where
  pub from : 1 ≤ j
  pub to : j ≤ 1000
  pub few : n < j
  pub is : n ≡ total (j - 1) (λ i. one (p i))

pub start : (p : ℕ → Bool) → Counted p 1 0
unfolding total
start p = record { from = omega arith; to = omega arith; few = omega arith; is = refl }

module _ {p : ℕ → Bool} {j n : ℕ} (r : Counted p j n) where
  turn : (b : Bool) → b ≡ p j → one b + n ≡ total (j + 1 - 1) (λ i. one (p i))
  unfolding total
  turn b e =
      let from = r.from in
      let x : j + 1 - 1 ≡ suc (j - 1) = omega arith in
      let y : suc (j - 1) ≡ j = omega arith in
      sym
      (ap (λ (k : ℕ). total k (λ i. one (p i))) x
      ∙ ap (λ (k : ℕ). one (p k) + total (j - 1) (λ i. one (p i))) y
      ∙ ap (λ (k : ℕ). one (p j) + k) (sym r.is)
      ∙ ap (λ (b : Bool). one b + n) (sym e))

  -- entry j passes
  counted : j < 1000 → true ≡ p j → Counted p (j + 1) (n + 1)
  counted h e = record { from = omega arith; to = omega arith; few = omega (arith, r.few); is = omega (arith, turn true e) }

  -- entry j does not pass
  passed_over : j < 1000 → false ≡ p j → Counted p (j + 1) n
  passed_over h e = record { from = omega arith; to = omega arith; few = omega (arith, r.few); is = omega (arith, turn false e) }

  -- all are counted
  pub done : 1000 ≤ j → n ≡ total 999 (λ i. one (p i))
  done h =
      let to = r.to in
      let x : j - 1 ≡ 999 = omega arith in
      r.is ∙ ap (λ (k : ℕ). total k (λ i. one (p i))) x

-- the same count at the same place, written otherwise
pub moved : {p : ℕ → Bool} {j n k m : ℕ} → Counted p j n → j ≡ k → n ≡ m → Counted p k m
moved r e f = rw (sym e, sym f) r

-- one entry more, whether it passes or not
turned : {p : ℕ → Bool} {j n : ℕ} → Counted p j n → j < 1000 → Counted p (j + 1) (n + one (p j))
turned {p} {j} {n} r h = by (p j) refl
  where
    by : (b : Bool) → p j ≡ b → Counted p (j + 1) (n + one (p j))
    by true e = moved (counted r h (sym e)) refl (ap (λ (b : Bool). n + one b) (sym e))
    by false e = moved (passed_over r h (sym e)) refl (omega (arith, ap one e))

-- three entries more
pub three : {p : ℕ → Bool} {j n : ℕ} → Counted p j n → j ≤ 997 → Counted p (j + 3) (n + (one (p j) + one (p (j + 1)) + one (p (j + 2))))
three {p} {j} {n} r h =
    let e : j + 1 + 1 ≡ j + 2 = omega arith in
    let f = turned (moved (turned (turned r (omega arith)) (omega arith)) e refl) (omega arith) in
    moved f (omega arith) (omega arith)

-- three that do not pass
pub three_over : {p : ℕ → Bool} {j n : ℕ} → Counted p j n → j ≤ 997 → false ≡ p j → false ≡ p (j + 1) → false ≡ p (j + 2) → Counted p (j + 3) n
three_over {p} {j} {n} r h e1 e2 e3 = moved (three r h) refl (omega (arith, ap one e1, ap one e2, ap one e3))

-- what a copy of c has, and what is full with it
module _ (c : ℕ) (t r : List ℕ) where
  copy_says : copy_of c t r ≡ true → IsCopy t r × (id_of t ≡ c)
  copy_says e =
      let (k, i) = split (is_copy (kind_of t r)) (eqb (id_of t) c) e in
      (of_copy t r (is_copy_lem (kind_of t r) (holds_not k)), eqb-true (id_of t) c i)

  full_says : full_with c t r ≡ true → IsFull t r × (id_of t ≡ c)
  full_says e =
      let (k, i) = split (is_full (kind_of t r)) (eqb (id_of t) c) e in
      (of_full t r (is_full_lem (kind_of t r) (holds_not k)), eqb-true (id_of t) c i)

  -- flag and ID among it
  sound_flagged : Sound t → id_of t ≡ c → flagged_with c t ≡ true
  unfolding flagged_with
  sound_flagged s i = both (both (le-leb 1 c (omega (arith, s.id_from))) (le-leb c 999 (omega (arith, s.id_to)))) (both s.usable (eq-eqb (id_of t) c i))

  -- so what lacks them is neither
  module _ (lacks : false ≡ flagged_with c t) where
    pub not_copy : false ≡ copy_of c t r
    not_copy =
        sym
        (refuted
        (λ e.
        let (k, i) = copy_says e in
        true≢false (sym (sound_flagged k.title_sound i) ∙ sym lacks)))

    pub not_full : false ≡ full_with c t r
    not_full =
        sym
        (refuted
        (λ e.
        let (k, i) = full_says e in
        true≢false (sym (sound_flagged k.title_sound i) ∙ sym lacks)))

  -- and so is what has CCI 1
  module _ (one : cci_of t ≡ 1) where
    pub reserved_copy : false ≡ copy_of c t r
    reserved_copy = sym (refuted (λ e. (copy_says e).0.title_sound.cci_not_one one))

    pub reserved_full : false ≡ full_with c t r
    reserved_full = sym (refuted (λ e. (full_says e).0.title_sound.cci_not_one one))

  -- with its flag and the ID of c and a sound title half it goes by the rule half: full where that has both too ..
  pub full_by_rule : flagged_with c t ≡ true → (cci_of t ≡ 1 → ⊥) → flagged_with c r ≡ full_with c t r
  unfolding flagged_with
  full_by_rule marked not_one =
      let (named, used) = split (numbered c) (usable_of t && eqb (id_of t) c) marked in
      let (usable, same) = split (usable_of t) (eqb (id_of t) c) used in
      let (from, to) = numbered_range c named in
      by named usable (eqb-true (id_of t) c same) to (usable_of r && eqb (id_of r) c) refl
    where
      by : numbered c ≡ true → usable_of t ≡ true → id_of t ≡ c → c ≤ 999 → (b : Bool) → (usable_of r && eqb (id_of r) c) ≡ b
          → (numbered c && (usable_of r && eqb (id_of r) c)) ≡ full_with c t r
      by n u i few true e =
          let (rule, own) = split (usable_of r) (eqb (id_of r) c) e in
          both n e ∙ sym (both (ap is_full (full_beside t r u (omega arith) not_one rule (i ∙ sym (eqb-true (id_of r) c own)))) (eq-eqb (id_of t) c i))
      by n u i few false e =
          ap (λ (x : Bool). numbered c && x) e ∙ ap (λ (x : Bool). x && false) n
          ∙ sym
          (refuted
          (λ f.
          let (k, _) = full_says f in
          true≢false (sym (both k.rule_usable (eq-eqb (id_of r) c (sym k.same_id ∙ i))) ∙ e)))

  -- .. and a copy where it is not usable
  pub by_rule : flagged_with c t ≡ true → (cci_of t ≡ 1 → ⊥) → not (usable_of r) ≡ copy_of c t r
  unfolding flagged_with
  by_rule marked not_one =
      let (named, used) = split (numbered c) (usable_of t && eqb (id_of t) c) marked in
      let (usable, same) = split (usable_of t) (eqb (id_of t) c) used in
      let (from, to) = numbered_range c named in
      by usable (eqb-true (id_of t) c same) to (usable_of r) refl
    where
      by : usable_of t ≡ true → id_of t ≡ c → c ≤ 999 → (b : Bool) → usable_of r ≡ b → not (usable_of r) ≡ copy_of c t r
      by u i few false e = simp (e, copy_beside t r u (omega arith) not_one e, eq-eqb (id_of t) c i)
      by u i few true e = ap not e ∙ sym (refuted (λ k. true≢false (sym e ∙ (copy_says k).0.rule_unusable)))
