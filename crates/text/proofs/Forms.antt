-- Decimal numbers, by what is read from them.
-- Assumes nothing.
use Prim.Native.Nat.{ℕ, zero, suc, ◌+◌, ◌-◌, ◌*◌, ◌/◌, ◌%◌, ◌^◌, ◌≤◌, ◌<◌}
use mathlib.Core.Path.{◌≡◌, sym, ap, ◌∙◌}
use mathlib.Core.Logic.{◌≢◌}
use mathlib.Core.List.{List, [], ◌∷◌, ◌++◌}
use native.Mathlib.Omega.{arith}
use native.Mathlib.Nat.{pow-suc, mul_assoc}
use native.Mathlib.Numerals.{add-one}
use lib.ListN.{length, get_or, length-append, get_or-append}
use Rattle.text.specs.Text.{decimal}
use Rattle.text.specs.Forms.{value_of, DecimalForm}
use Rattle.text.proofs.Decimal.{decimal_last, decimal_more, by_digits, length_from, as_printed}

-- one more digit at the end
value_more : (ds : List ℕ) (d : ℕ) → value_of (ds ++ (d ∷ [])) ≡ value_of ds * 10 + (d - 48)
unfolding value_of
value_more [] d = omega arith
value_more (x ∷ ds) d =
    let p : (x - 48) * 10 ^ length (ds ++ (d ∷ [])) ≡ (x - 48) * 10 ^ length ds * 10
    = ap (λ (k : ℕ). (x - 48) * 10 ^ k) (length-append ds (d ∷ [])) ∙ ap (λ (k : ℕ). (x - 48) * 10 ^ k) (add-one (length ds))
    ∙ ap (λ (k : ℕ). (x - 48) * k) (pow-suc 10 (length ds)) ∙ sym (mul_assoc (x - 48) (10 ^ length ds) 10) in
    omega (arith, p, value_more ds d)

stands_for : (n : ℕ) → value_of (decimal n) ≡ n
stands_for =
    by_digits (λ n. value_of (decimal n) ≡ n) (λ n h. rw (decimal_last n h) (unfold value_of in omega arith))
    (λ n h ih. ap value_of (decimal_more n h) ∙ value_more (decimal (n / 10)) (48 + n % 10) ∙ omega (arith, ih))

-- each is a digit
data Digits : List ℕ → Type 0 where
  none : Digits []
  more : (d : ℕ) {ds : List ℕ} → 48 ≤ d → d ≤ 57 → Digits ds → Digits (d ∷ ds)

then : {l m : List ℕ} → Digits l → Digits m → Digits (l ++ m)
then none q = q
then (more d a b p) q = more d a b (then p q)

at : {l : List ℕ} → Digits l → (i : ℕ) → i < length l → (48 ≤ get_or l i 0) × (get_or l i 0 ≤ 57)
at none i h = absurd (omega arith)
at (more d a b p) zero h = (a, b)
at (more d a b p) (suc i) h = at p i (omega arith)

digits : (n : ℕ) → Digits (decimal n)
digits =
    by_digits (λ n. Digits (decimal n)) (λ n h. rw (decimal_last n h) (more (48 + n) (omega arith) (omega arith) none))
    (λ n h ih. rw (decimal_more n h) (then ih (more (48 + n % 10) (omega arith) (omega arith) none)))

-- the first is 0 of the number 0 alone
first_digit : (n : ℕ) → 1 ≤ n → get_or (decimal n) 0 0 ≢ 48
first_digit =
    by_digits (λ n. 1 ≤ n → get_or (decimal n) 0 0 ≢ 48) (λ n h some. rw (decimal_last n h) (omega arith))
    (λ n h ih some.
    rw (ap (λ (l : List ℕ). get_or l 0 0) (decimal_more n h) ∙ get_or-append (decimal (n / 10)) ((48 + n % 10) ∷ []) 0 0 (length_from (n / 10))) (ih (omega arith)))

pub decimal_form : DecimalForm
decimal_form = record { digits = λ n. at (digits n); stands_for = stands_for; shortest = λ n h. first_digit n (omega arith); single = decimal_last; as_printed = as_printed }
