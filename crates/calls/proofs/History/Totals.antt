-- Sums over places: a sum changes by what one place changes.
-- Assumes nothing.
use Prim.Native.Nat.{ℕ, zero, suc, ◌+◌, ◌≤◌}
use mathlib.Core.Path.{◌≡◌, refl, ap}
use mathlib.Core.Logic.{◌≢◌}
use native.Mathlib.Omega.{arith}
use native.Mathlib.Decide.{ℕ_discrete}
use Rattle.calls.specs.Buffers.{total, Within}

-- the last place is one, and so is each before it
last : (n : ℕ) → Within (suc n) (suc n)
last n = record { from = omega arith; to = omega arith }

earlier : {n p : ℕ} → Within n p → Within (suc n) p
earlier w = record { from = w.from; to = omega (arith, w.to) }

not_last : {n p : ℕ} → Within (suc n) p → suc n ≢ p → Within n p
not_last w ne = record { from = w.from; to = omega (arith, w.to) }

-- equal weights have equal sums
pub total_same : (n : ℕ) (g h : ℕ → ℕ) → ((j : ℕ) → Within n j → h j ≡ g j) → total n h ≡ total n g
unfolding total
total_same zero g h same = refl
total_same (suc n) g h same =
    let a = total_same n g h (λ j l. same j (earlier l)) in
    let b = same (suc n) (last n) in
    omega arith

-- where g and h differ only at p, the sums differ by what they have there
pub total_put : (n : ℕ) (g h : ℕ → ℕ) (p : ℕ) → Within n p → ((j : ℕ) → Within n j → j ≢ p → h j ≡ g j) → total n h + g p ≡ total n g + h p
unfolding total
total_put zero g h p l same = omega (arith, l.from, l.to)
total_put (suc n) g h p l same =
    elim (ℕ_discrete (suc n) p) [
      | yes e ↦
          let a = total_same n g h (λ j m. same j (earlier m) (λ i. omega (arith, m.to))) in
          let b = ap g e in
          let c = ap h e in
          omega arith
      | no d ↦
          let a = total_put n g h p (not_last l d) (λ j m. same j (earlier m)) in
          let b = same (suc n) (last n) d in
          omega arith
    ]

-- what a place has is part of the sum
pub total_at : (n : ℕ) (g : ℕ → ℕ) (p : ℕ) → Within n p → g p ≤ total n g
unfolding total
total_at zero g p l = omega (arith, l.from, l.to)
total_at (suc n) g p l =
    elim (ℕ_discrete (suc n) p) [ yes e ↦ let b = ap g e in omega arith | no d ↦ let a = total_at n g p (not_last l d) in omega arith ]

-- a sum other than 0 has a place where it comes from
pub total_some : (n : ℕ) (g : ℕ → ℕ) → total n g ≢ 0 → (p : ℕ) × Within n p × (g p ≢ 0)
unfolding total
total_some zero g d = absurd (d refl)
total_some (suc n) g d =
    elim (ℕ_discrete (g (suc n)) 0) [
      | yes e ↦ let a = total_some n g (omega arith) in (a.0, earlier a.1, a.2)
      | no k ↦ (suc n, last n, k)
    ]

-- a sum of zeros
pub total_none : (n : ℕ) (g : ℕ → ℕ) → ((j : ℕ) → Within n j → g j ≡ 0) → total n g ≡ 0
unfolding total
total_none zero g same = refl
total_none (suc n) g same =
    let a = total_none n g (λ j l. same j (earlier l)) in
    let b = same (suc n) (last n) in
    omega arith
