-- The laws of facts: their ranges, and when two are the same.
-- Assumes nothing.
use Prim.Native.Nat.{ℕ, ◌≤◌}
use mathlib.Core.Path.{◌≡◌, ap}
use mathlib.Core.Bool.{true, not}
use borrow.Author.Tests.{le-leb, leb-true, ne_eqb, eqb-false, not-true}
use Rattle.formats.specs.Facts.{numbered, in_range}
use Rattle.formats.specs.declared.facts.Facts.{Facts}
use Rattle.formats.proofs.Tests.{split, both}

-- "1 to 999", as a test and as facts
pub numbered_range : (v : ℕ) → numbered v ≡ true → (1 ≤ v) × (v ≤ 999)
numbered_range v e =
    let (p, q) = split _ _ e in
    (leb-true _ _ p, leb-true _ _ q)

pub range_numbered : {v : ℕ} → 1 ≤ v → v ≤ 999 → numbered v ≡ true
range_numbered p q = both (le-leb _ _ p) (le-leb _ _ q)

-- facts in their ranges
pub record Ranges (f : Facts) : Type 0 where
  pub cci : f.cci ≤ 3
  pub kind : f.cci ≡ 1 → ⊥
  pub trigger : f.trigger ≤ 1
  pub rights : f.rights ≤ 15
  pub permits : f.permits ≤ 15

-- facts that pass are in their ranges
pub ranges : {f : Facts} → in_range f ≡ true → Ranges f
unfolding in_range
ranges e =
    let (p, e₁) = split _ _ e in
    let (q, n) = split _ _ p in
    let (t, e₂) = split _ _ e₁ in
    let (r, s) = split _ _ e₂ in
    record { cci = leb-true _ _ q; kind = eqb-false _ _ (not-true _ n); trigger = leb-true _ _ t; rights = leb-true _ _ r; permits = leb-true _ _ s }

-- and facts in their ranges pass
pub in_range_lem : {f : Facts} → Ranges f → in_range f ≡ true
unfolding in_range
in_range_lem r =
    both (both (le-leb _ _ r.cci) (ap not (ne_eqb _ _ r.kind)))
    (both (le-leb _ _ r.trigger) (both (le-leb _ _ r.rights) (le-leb _ _ r.permits)))

-- facts are the same where each of them is
pub facts_same : {f g : Facts} → f.cci ≡ g.cci → f.trigger ≡ g.trigger → f.rights ≡ g.rights → f.permits ≡ g.permits
    → f.title_key ≡ g.title_key → f.sti_key ≡ g.sti_key → f ≡ g
facts_same a b c d t s = λ i. record { cci = a i; trigger = b i; rights = c i; permits = d i; title_key = t i; sti_key = s i }

-- the facts with other permits
abbrev pub permitting : Facts → ℕ → Facts
permitting f p = record { cci = f.cci; trigger = f.trigger; rights = f.rights; permits = p; title_key = f.title_key; sti_key = f.sti_key }
