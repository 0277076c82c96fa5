-- What tests that are joined say: of each part, of the whole, and of an answer.
-- Assumes nothing.
use Prim.Native.Nat.{ℕ, ◌<◌}
use mathlib.Core.Path.{◌≡◌, refl, sym, ap, ◌∙◌}
use mathlib.Core.Bool.{Bool, true, false, ◌&&◌, ◌||◌, true≢false}
use mathlib.Core.Logic.{◌⊎◌, inl, inr}
use native.Mathlib.Omega.{arith}
use Rattle.formats.specs.Refusal.{refused_unless}

-- both parts hold where the whole does
pub split : (a b : Bool) → (a && b) ≡ true → (a ≡ true) × (b ≡ true)
split true b e = (refl, e)
split false b e = absurd (true≢false (sym e))

-- the whole holds where both parts do
pub both : {a b : Bool} → a ≡ true → b ≡ true → (a && b) ≡ true
both {a} {b} p q = ap (λ (x : Bool). x && b) p ∙ q

-- a whole whose second part fails is false
pub and_false : (a : Bool) → (a && false) ≡ false
and_false true = refl
and_false false = refl

-- a test that cannot hold is false
pub refuted : {a : Bool} → (a ≡ true → ⊥) → a ≡ false
refuted {a = true} h = absurd (h refl)
refuted {a = false} h = refl

-- tests that hold together are the same
pub same_test : {a b : Bool} → (a ≡ true → b ≡ true) → (b ≡ true → a ≡ true) → a ≡ b
same_test {a = true} f g = sym (f refl)
same_test {a = false} f g = sym (refuted (λ e. true≢false (sym (g e))))

-- one part holds where an alternative does
pub either : (a b : Bool) → (a || b) ≡ true → (a ≡ true) ⊎ (b ≡ true)
either true b e = inl refl
either false b e = inr e

-- an alternative holds where one part does
pub one_holds : {a b : Bool} → (a ≡ true) ⊎ (b ≡ true) → (a || b) ≡ true
one_holds {a} {b} (inl e) = ap (λ (x : Bool). x || b) e
one_holds {a = true} (inr e) = refl
one_holds {a = false} (inr e) = e

-- the answer where a test cannot hold is the refusal
pub refuses : {b : Bool} {w : ℕ} → (b ≡ true → ⊥) → w ≡ refused_unless b w
refuses {b} {w} h = sym (ap (λ (x : Bool). refused_unless x w) (refuted h))

-- the answer where a test holds is 0
pub passes : {b : Bool} (w : ℕ) → b ≡ true → 0 ≡ refused_unless b w
passes w e = sym (ap (λ (x : Bool). refused_unless x w) e)

-- a test whose answer is 0 holds
pub passed : (b : Bool) (w : ℕ) → 0 < w → refused_unless b w ≡ 0 → b ≡ true
passed true w h e = refl
passed false w h e = absurd (omega arith)
