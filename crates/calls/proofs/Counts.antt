-- The laws of counts of which 15 means unlimited, and of the CCI of a copy.
-- Assumes nothing.
use Prim.Native.Nat.{ℕ, ◌+◌, ◌-◌, ◌≤◌, ◌<◌}
use mathlib.Core.Path.{◌≡◌, sym, ◌∙◌}
use mathlib.Core.Logic.{◌≢◌}
use native.Mathlib.Omega.{arith}
use native.Mathlib.Decide.{dec_lt, ℕ_discrete}
use borrow.Author.Tests.{eq-eqb, ne_eqb, lt-ltb, le-ltb}
use Rattle.calls.specs.Count.{one_less, one_more}
use Rattle.calls.specs.Effect.{copy_cci}

module _ (n : ℕ) where
  -- below 15, one less is one less
  pub less_limited : n < 15 → one_less n ≡ n - 1
  unfolding one_less
  less_limited small = simp (lt-ltb n 15 small)

  -- from 15 on it changes nothing
  pub less_unlimited : 15 ≤ n → one_less n ≡ n
  unfolding one_less
  less_unlimited large = simp (le-ltb n 15 large)

  -- below 15, one more is one more
  pub more_limited : n < 15 → one_more n ≡ n + 1
  unfolding one_more
  more_limited small = simp (lt-ltb n 15 small)

  -- from 15 on it changes nothing
  pub more_unlimited : 15 ≤ n → one_more n ≡ n
  unfolding one_more
  more_unlimited large = simp (le-ltb n 15 large)

  -- counts stay at most 15
  pub less_most : n ≤ 15 → one_less n ≤ 15
  less_most at_most = elim (dec_lt n 15) [ yes small ↦ omega (arith, less_limited small) | no large ↦ omega (arith, less_unlimited (omega arith)) ]

  pub more_most : n ≤ 15 → one_more n ≤ 15
  more_most at_most = elim (dec_lt n 15) [ yes small ↦ omega (arith, more_limited small) | no large ↦ omega (arith, more_unlimited (omega arith)) ]

  -- THE CCI OF A COPY

  -- one generation is used up
  pub copy_cci_of_2 : n ≡ 2 → copy_cci n ≡ 3
  unfolding copy_cci
  copy_cci_of_2 e = simp (eq-eqb n 2 e)

  -- any other passes through
  pub copy_cci_else : n ≢ 2 → copy_cci n ≡ n
  unfolding copy_cci
  copy_cci_else other = simp (ne_eqb n 2 other)

  -- what is 3 where n is 2, and n elsewhere
  pub copy_cci_lem : (x : ℕ) → (n ≡ 2 → x ≡ 3) → (n ≢ 2 → x ≡ n) → x ≡ copy_cci n
  copy_cci_lem x of_2 else = elim (ℕ_discrete n 2) [ yes e ↦ of_2 e ∙ sym (copy_cci_of_2 e) | no other ↦ else other ∙ sym (copy_cci_else other) ]

  -- it is a CCI where n is one, and not the reserved one
  pub copy_cci_small : n < 4 → copy_cci n < 4
  copy_cci_small small = elim (ℕ_discrete n 2) [ yes e ↦ omega (arith, copy_cci_of_2 e) | no other ↦ omega (arith, copy_cci_else other) ]

  pub copy_cci_not_1 : n ≢ 1 → copy_cci n ≢ 1
  copy_cci_not_1 not_1 one = elim (ℕ_discrete n 2) [ yes e ↦ omega (arith, copy_cci_of_2 e) | no other ↦ not_1 (sym (copy_cci_else other) ∙ one) ]
