-- The first place at which a test holds.
-- Assumes nothing.
use Prim.Native.Nat.{ℕ, zero, suc, ◌+◌, ◌-◌, ◌≤◌, ◌<◌}
use mathlib.Core.Path.{◌≡◌, refl, sym, ap, ◌∙◌}
use mathlib.Core.Logic.{◌≢◌}
use mathlib.Core.Bool.{Bool, true, false, true≢false}
use native.Mathlib.Omega.{arith}
use native.Mathlib.Decide.{ℕ_discrete, dec_le}
use borrow.Author.Tests.{eq-eqb, ne_eqb}
use Rattle.calls.specs.Buffers.{first_of, read_up_to, one, total, Within}
use Rattle.calls.proofs.History.Totals.{total_at, total_none}

module _ (t : ℕ → Bool) where
  -- one place more: found before, found there, or not found
  pub first_before : (n : ℕ) → first_of n t ≢ 0 → first_of (suc n) t ≡ first_of n t
  unfolding first_of
  first_before n d = rw (ne_eqb (first_of n t) 0 d) refl

  pub first_here : (n : ℕ) → first_of n t ≡ 0 → t (suc n) ≡ true → first_of (suc n) t ≡ suc n
  unfolding first_of
  first_here n z e = rw (eq-eqb (first_of n t) 0 z, e) refl

  pub first_not_yet : (n : ℕ) → first_of n t ≡ 0 → t (suc n) ≡ false → first_of (suc n) t ≡ 0
  unfolding first_of
  first_not_yet n z e = rw (eq-eqb (first_of n t) 0 z, e) refl

  -- where it is 0, the test holds at no place
  pub first_none : (n : ℕ) → first_of n t ≡ 0 → (j : ℕ) → Within n j → t j ≡ false
  first_none zero z j l = absurd (omega (arith, l.from, l.to))
  first_none (suc n) z j l = by (λ y l. first_none n y j l) (ℕ_discrete (first_of n t) 0) (t (suc n)) refl (ℕ_discrete j (suc n))
    where
      by : (first_of n t ≡ 0 → Within n j → t j ≡ false) → Dec (first_of n t ≡ 0) → (x : Bool) → t (suc n) ≡ x → Dec (j ≡ suc n) → t j ≡ false
      by ih (no d) x e _ = absurd (d (sym (first_before n d) ∙ z))
      by ih (yes y) true e _ = let w = first_here n y e in absurd (omega arith)
      by ih (yes y) false e (yes i) = ap t i ∙ e
      by ih (yes y) false e (no ne) = ih y (record { from = l.from; to = omega (arith, l.to) })

  -- where it is not, the test holds there and is one of the places
  pub first_holds : (n : ℕ) → first_of n t ≢ 0 → Within n (first_of n t) × (t (first_of n t) ≡ true)
  first_holds zero d = unfold first_of in absurd (d refl)
  first_holds (suc n) d = by (first_holds n) (ℕ_discrete (first_of n t) 0) (t (suc n)) refl
    where
      by : (first_of n t ≢ 0 → Within n (first_of n t) × (t (first_of n t) ≡ true)) → Dec (first_of n t ≡ 0) → (x : Bool) → t (suc n) ≡ x → Within (suc n) (first_of (suc n) t) × (t (first_of (suc n) t) ≡ true)
      by ih (no k) x e =
          let (l, h) = ih k in
          rw (first_before n k) (record { from = l.from; to = omega (arith, l.to) }, h)
      by ih (yes z) true e = rw (first_here n z e) (record { from = omega arith; to = omega arith }, e)
      by ih (yes z) false e = absurd (d (first_not_yet n z e))

  -- it is the only one that holds with none before it
  pub first_is : (n j : ℕ) → Within n j → t j ≡ true → ((i : ℕ) → Within n i → i < j → t i ≡ false) → first_of n t ≡ j
  first_is zero j l e before = omega (arith, l.from, l.to)
  first_is (suc n) j l e before = by (λ w. first_is n j w e (λ i v k. before i (earlier v) k)) (ℕ_discrete j (suc n)) (ℕ_discrete (first_of n t) 0)
    where
      earlier : {i : ℕ} → Within n i → Within (suc n) i
      earlier w = record { from = w.from; to = omega (arith, w.to) }

      by : (Within n j → first_of n t ≡ j) → Dec (j ≡ suc n) → Dec (first_of n t ≡ 0) → first_of (suc n) t ≡ j
      by ih (yes i) (yes z) = first_here n z (ap t (sym i) ∙ e) ∙ sym i
      by ih (yes i) (no d) =
          let (w, h) = first_holds n d in
          absurd (true≢false (sym h ∙ before (first_of n t) (earlier w) (omega (arith, w.to))))
      by ih (no ne) _ =
          let w : Within n j = record { from = l.from; to = omega (arith, l.to) } in
          let f = ih w in
          first_before n (λ z. omega (arith, l.from)) ∙ f

  pub first_at_most : (n : ℕ) → first_of n t ≤ n
  first_at_most n = elim (ℕ_discrete (first_of n t) 0) [ yes z ↦ omega (arith, z) | no d ↦ (first_holds n d).0.to ]

  -- it is 0 exactly where the count of the places at which the test holds is
  pub count_is_0 : (n : ℕ) → first_of n t ≡ 0 → total n (λ j. one (t j)) ≡ 0
  count_is_0 n z = total_none n _ (λ j l. ap one (first_none n z j l))

  pub first_is_0 : (n : ℕ) → total n (λ j. one (t j)) ≡ 0 → first_of n t ≡ 0
  first_is_0 n z = by (ℕ_discrete (first_of n t) 0)
    where
      by : Dec (first_of n t ≡ 0) → first_of n t ≡ 0
      by (yes e) = e
      by (no d) =
          let (l, h) = first_holds n d in
          absurd (omega (arith, total_at n (λ j. one (t j)) (first_of n t) l, ap one h, z))

  -- a search for it reads all places at most
  pub read_at_most : (n : ℕ) → read_up_to n (first_of n t) ≤ n
  read_at_most n =
      elim (ℕ_discrete (first_of n t) 0) [
        | yes z ↦ rw (eq-eqb (first_of n t) 0 z) (omega arith)
        | no d ↦ rw (ne_eqb (first_of n t) 0 d) (first_at_most n)
      ]

  -- the test holds at no place before it
  pub first_least : (n j : ℕ) → Within n j → j < first_of n t → t j ≡ false
  first_least zero j l k = absurd (omega (arith, l.from, l.to))
  first_least (suc n) j l k = by (first_least n j) (ℕ_discrete (first_of n t) 0) (t (suc n)) refl
    where
      by : (Within n j → j < first_of n t → t j ≡ false) → Dec (first_of n t ≡ 0) → (x : Bool) → t (suc n) ≡ x → t j ≡ false
      by ih (no d) x e =
          let (w, h) = first_holds n d in
          let m : j < first_of n t = omega (arith, k, first_before n d) in
          ih (record { from = l.from; to = omega (arith, w.to) }) m
      by ih (yes z) true e = first_none n z j (record { from = l.from; to = omega (arith, k, first_here n z e) })
      by ih (yes z) false e = absurd (omega (arith, k, first_not_yet n z e))

-- n places at which the test does not hold, and m after them
module _ (t : ℕ → Bool) (n : ℕ) (z : first_of n t ≡ 0) (m : ℕ) where
  abbrev after : ℕ → Bool
  after i = t (n + i)

  -- where it does not hold at the first of the m either, a place up to there is none at which it holds
  none_up_to : (p : ℕ) → ((i : ℕ) → Within m i → i < p → after i ≡ false) → p ≤ m + 1 → (j : ℕ) → 1 ≤ j → j < n + p → t j ≡ false
  none_up_to p later few j from to =
      elim (dec_le j n) [
        | yes l ↦ first_none t n z j (record { from = from; to = l })
        | no l ↦
            let e : n + (j - n) ≡ j = omega arith in
            rw e at (later (j - n) (record { from = omega arith; to = omega arith }) (omega arith))
      ]

  -- the first of the m is the first of all, however many follow
  pub first_after : (all : ℕ) → n + m ≤ all → first_of m (λ i. t (n + i)) ≢ 0 → first_of all t ≡ n + first_of m (λ i. t (n + i))
  first_after all fits d =
      let p = first_of m after in
      let (w, h) = first_holds after m d in
      first_is t all (n + p) (record { from = omega (arith, w.from); to = omega (arith, w.to) }) h
      (λ j l k. none_up_to p (first_least after m) (omega (arith, w.to)) j l.from k)

  -- and where it holds at none of them, none is found yet
  pub none_after : first_of m (λ i. t (n + i)) ≡ 0 → first_of (n + m) t ≡ 0
  none_after e = by (ℕ_discrete (first_of (n + m) t) 0)
    where
      by : Dec (first_of (n + m) t ≡ 0) → first_of (n + m) t ≡ 0
      by (yes f) = f
      by (no d) =
          let (w, h) = first_holds t (n + m) d in
          absurd (true≢false (sym h ∙ none_up_to (m + 1) (λ i l k. first_none after m e i l) (omega arith) (first_of (n + m) t) w.from (omega (arith, w.to))))
