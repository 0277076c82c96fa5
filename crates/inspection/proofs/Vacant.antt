-- The search for the first vacant entry.
-- Assumes nothing.
use Prim.Native.Nat.{ℕ, suc, ◌+◌, ◌-◌, ◌≤◌, ◌<◌}
use mathlib.Core.Path.{◌≡◌, sym, ap, ◌∙◌}
use mathlib.Core.List.{List}
use mathlib.Core.Bool.{Bool, true, false, ◌&&◌, true≢false}
use native.Mathlib.Omega.{arith}
use native.Mathlib.Decide.{ℕ_discrete}
use lib.Dec.{leb}
use borrow.Author.Tests.{le-leb, leb-true}
use Rattle.formats.specs.Entry.{kind_of, is_vacant}
use Rattle.formats.proofs.Tests.{refuted}
use Rattle.calls.specs.Buffers.{title_at, rule_at, first_of, Within}
use Rattle.calls.proofs.First.{first_holds, first_is, first_none, first_not_yet}
use Rattle.inspection.specs.Inspect.{vacant_from, first_vacant}

-- where a test holds at none of n places, none is found
none_found : (t : ℕ → Bool) (n : ℕ) → ((i : ℕ) → Within n i → t i ≡ false) → first_of n t ≡ 0
none_found t n never =
    elim (ℕ_discrete (first_of n t) 0) [
      | yes z ↦ z
      | no d ↦
          let (l, holds) = first_holds t n d in
          absurd (true≢false (sym holds ∙ never (first_of n t) l))
    ]

module _ (from : ℕ) (titles rules : List ℕ) where
  abbrev t : ℕ → Bool
  t = vacant_from from titles rules

  abbrev vacant : ℕ → Bool
  vacant j = is_vacant (kind_of (title_at titles j) (rule_at rules j))

  -- no entry before the first that is looked at counts
  pub starts : 1 ≤ from → first_of (from - 1) t ≡ 0
  starts some = none_found t (from - 1) (λ i l. ap (λ (x : Bool). x && vacant i) (refuted (λ (e : leb from i ≡ true). omega (arith, leb-true from i e, l.to))))

  module _ {j : ℕ} (z : first_of (j - 1) t ≡ 0) (after : from ≤ j) (some : 1 ≤ j) where
    -- entry j is vacant, and the first
    pub found_at : j < 1000 → true ≡ vacant j → j ≡ first_vacant from titles rules
    unfolding first_vacant
    found_at last e =
        sym
        (first_is t 999 j (record { from = some; to = omega arith }) (ap (λ (x : Bool). x && vacant j) (le-leb from j after) ∙ sym e)
        (λ i l less. first_none t (j - 1) z i (record { from = l.from; to = omega arith })))

    -- it is not
    pub not_at : false ≡ vacant j → first_of (j + 1 - 1) t ≡ 0
    not_at e =
        let next : suc (j - 1) ≡ j = omega arith in
        let same : j + 1 - 1 ≡ suc (j - 1) = omega arith in
        rw same
        (first_not_yet t (j - 1) z (ap t next ∙ ap (λ (x : Bool). x && vacant j) (le-leb from j after) ∙ sym e))

    -- and none was up to the last
    pub none_at_all : 1000 ≤ j → 0 ≡ first_vacant from titles rules
    unfolding first_vacant
    none_at_all end = sym (none_found t 999 (λ i l. first_none t (j - 1) z i (record { from = l.from; to = omega (arith, l.to) })))
