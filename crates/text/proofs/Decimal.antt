-- The laws of decimal digits: a number below 10 is its digit, and else the digits of n / 10 stand before the last one.
-- Assumes nothing.
use Prim.Native.Nat.{ℕ, zero, suc, ◌+◌, ◌*◌, ◌/◌, ◌%◌, ◌^◌, ◌≤◌, ◌<◌}
use mathlib.Core.Path.{◌≡◌, refl, sym, ap, ap₂, ◌∙◌}
use mathlib.Core.List.{List, [], ◌∷◌, ◌++◌}
use mathlib.Core.Bool.{Bool, true, false}
use native.Mathlib.Omega.{arith}
use native.Mathlib.Nat.{pow-succ'}
use native.Mathlib.Decide.{dec_lt}
use borrow.Author.Tests.{ltb-false, lt-ltb, le-ltb}
use lib.Dec.{ltb}
use lib.ListN.{length, set, take, drop, length-append, take-append-drop}
use Rattle.std.specs.Prelude.{decimal as printed}
use Rattle.std.proofs.lemmas.Fmt.{decimal_by_steps}
use Rattle.formats.specs.Part.{put}
use Rattle.formats.proofs.Bytes.{Listed, none, more, then}
use Rattle.formats.proofs.Part.{put_length, put_next, set_put}
use Rattle.text.specs.Text.{decimal_in, decimal, field, placed}
use Rattle.text.proofs.Placed.{placed_put}

-- the count of digits allowed does not matter, once it is enough
enough : (k m : ℕ) (b : Bool) (n : ℕ) → ltb n 10 ≡ b → n ≤ k → n ≤ m → decimal_in k b n ≡ decimal_in m b n
unfolding decimal_in
enough zero zero b n e h g = refl
enough zero (suc m) true n e h g = refl
enough zero (suc m) false n e h g = absurd (omega (arith, ltb-false n 10 e))
enough (suc k) zero true n e h g = refl
enough (suc k) zero false n e h g = absurd (omega (arith, ltb-false n 10 e))
enough (suc k) (suc m) true n e h g = refl
enough (suc k) (suc m) false n e h g =
    ap (λ (l : List ℕ). l ++ ((48 + n % 10) ∷ []))
    (enough k m (ltb (n / 10) 10) (n / 10) refl (omega (arith, ltb-false n 10 e)) (omega (arith, ltb-false n 10 e)))

decimal_in_last : (k m : ℕ) → decimal_in k true m ≡ (48 + m) ∷ []
unfolding decimal_in
decimal_in_last zero m = refl
decimal_in_last (suc k) m = refl

pub decimal_last : (n : ℕ) → n < 10 → decimal n ≡ (48 + n) ∷ []
unfolding decimal
decimal_last n h = rw (lt-ltb n 10 h) (decimal_in_last n n)

decimal_in_more : (k n : ℕ) → n ≡ k → 10 ≤ n → decimal_in k false n ≡ decimal (n / 10) ++ ((48 + n % 10) ∷ [])
unfolding decimal_in decimal
decimal_in_more zero n e h = absurd (omega arith)
decimal_in_more (suc k) n e h =
    ap (λ (l : List ℕ). l ++ ((48 + n % 10) ∷ [])) (enough k (n / 10) (ltb (n / 10) 10) (n / 10) refl (omega arith) (omega arith))

pub decimal_more : (n : ℕ) → 10 ≤ n → decimal n ≡ decimal (n / 10) ++ ((48 + n % 10) ∷ [])
decimal_more n h = unfold decimal in (ap (λ (b : Bool). decimal_in n b n) (le-ltb n 10 h) ∙ decimal_in_more n n refl h)

-- induction along the digits of a number
by_digits_in : (P : ℕ → Type 0) → ((n : ℕ) → n < 10 → P n) → ((n : ℕ) → 10 ≤ n → P (n / 10) → P n) → (k n : ℕ) → n ≤ k → P n
by_digits_in P one step zero n h = one n (omega arith)
by_digits_in P one step (suc k) n h =
    elim (dec_lt n 10) [
      | yes s ↦ one n s
      | no s ↦ step n (omega arith) (by_digits_in P one step k (n / 10) (omega arith))
    ]

pub by_digits : (P : ℕ → Type 0) → ((n : ℕ) → n < 10 → P n) → ((n : ℕ) → 10 ≤ n → P (n / 10) → P n) → (n : ℕ) → P n
by_digits P one step n = by_digits_in P one step n n (omega arith)

-- how many there are
pub length_last : (n : ℕ) → n < 10 → length (decimal n) ≡ 1
length_last n h = ap length (decimal_last n h)

pub length_more : (n : ℕ) → 10 ≤ n → length (decimal n) ≡ length (decimal (n / 10)) + 1
length_more n h = ap length (decimal_more n h) ∙ length-append (decimal (n / 10)) ((48 + n % 10) ∷ [])

pub length_from : (n : ℕ) → 1 ≤ length (decimal n)
length_from n = elim (dec_lt n 10) [ yes s ↦ omega (arith, length_last n s) | no s ↦ omega (arith, length_more n (omega arith)) ]

-- k digits hold what is below 10 ^ k
pub length_most : (k n : ℕ) → n < 10 * 10 ^ k → length (decimal n) ≤ suc k
length_most zero n h = omega (arith, length_last n (omega arith))
length_most (suc k) n h =
    elim (dec_lt n 10) [
      | yes s ↦ omega (arith, length_last n s)
      | no s ↦ omega (arith, length_more n (omega arith), length_most k (n / 10) (omega (arith, pow-succ' 10 k)))
    ]

pub length_word : (n : ℕ) → n < 2 ^ 64 → length (decimal n) ≤ 20
length_word n h = length_most 19 n (omega arith)

-- they are those that the library prints of 64 bits
pub as_printed : (n : ℕ) → n < 2 ^ 64 → decimal n ≡ printed n
as_printed = decimal_by_steps (λ n ds. decimal n ≡ ds) decimal_last (λ n ds h e. decimal_more n h ∙ ap (λ (l : List ℕ). l ++ ((48 + n % 10) ∷ [])) e)

pub printed_length : (n : ℕ) → n < 2 ^ 64 → length (printed n) ≡ length (decimal n)
printed_length n h = ap length (sym (as_printed n h))

-- a number and the byte that ends it
pub field_length : (n end : ℕ) → length (field n end) ≡ length (decimal n) + 1
unfolding field
field_length n end = length-append (decimal n) (end ∷ [])

-- bytes that were written so that they end at a place, and all else as it was
stands : (out p : List ℕ) (start to : ℕ) (m : List ℕ) → start + length p ≡ to → drop start m ≡ p ++ drop to out → take start m ≡ take start out → m ≡ put out start p
unfolding put
stands out p start to m from written before =
    sym (take-append-drop start m) ∙ ap₂ ◌++◌ before (written ∙ ap (λ (k : ℕ). p ++ drop k out) (sym from))

-- the library's digits and the byte behind them make up the whole, once that byte is stored
pub ended : (out : List ℕ) (at n end : ℕ) {k : ℕ} (start : ℕ) (m : List ℕ) → n < 2 ^ 64 → k ≡ length (decimal n) → at + (k + 1) ≤ length out
    → start + length (printed n) ≡ at + k → drop start m ≡ printed n ++ drop (at + k) out → take start m ≡ take start out
    → set m (at + k) end ≡ placed out at (field n end)
unfolding field
ended out at n end {k} start m small digits room from written before =
    let library : decimal n ≡ printed n = as_printed n small in
    let count = printed_length n small in
    let whole = field_length n end in
    let front : start ≡ at = omega arith in
    let is : m ≡ put out at (decimal n) = stands out (printed n) start (at + k) m from written before ∙ ap₂ (λ (a : ℕ) (p : List ℕ). put out a p) front (sym library) in
    let size : length m ≡ length out = ap length is ∙ put_length out (decimal n) at (omega arith) in
    set_put m (at + k) end (omega arith)
    ∙ ap₂ (λ (l : List ℕ) (i : ℕ). put l (at + i) (end ∷ [])) is digits
    ∙ put_next out (decimal n) (end ∷ []) at (omega arith)
    ∙ sym (placed_put out at (field n end) (omega arith))

-- all of it is bytes
decimal_listed : (n : ℕ) → Listed (decimal n)
decimal_listed =
    by_digits (λ n. Listed (decimal n)) (λ n h. rw (decimal_last n h) (more (48 + n) (omega arith) none))
    (λ n h ih. rw (decimal_more n h) (then ih (more (48 + n % 10) (omega arith) none)))

pub field_listed : (n end : ℕ) → end < 256 → Listed (field n end)
unfolding field
field_listed n end h = then (decimal_listed n) (more end h none)
