-- How many groups a number has: as many as go up to its highest bit, and so what the table of lengths holds at its leading zeros.
-- Assumes nothing.
use Rattle.std.proofs.Common.{ℕ, zero, suc, ◌+◌, ◌-◌, ◌*◌, ◌/◌, ◌%◌, ◌^◌, ◌≤◌, ◌<◌, ◌≡◌, List, [], ◌∷◌, true, refl, sym, ap, ◌∙◌, arith, length, get_or}
use native.Mathlib.Decide.{dec_lt, ℕ_discrete}
use native.Mathlib.Nat.{pow-succ', one-le-pow}
use Rattle.std.proofs.lemmas.Nat.{pow-add, leading_top}
use Rattle.std.proofs.Math.Pow.{pow_mono}
use borrow.Author.Tests.{eqb-true}
use lib.Dec.{eqb}
use Rattle.std.specs.Int.Count.{count_leading_zeros, leading_of_zero}
use Rattle.std.proofs.lemmas.Bool.{agree_below_at}
use Rattle.requests.specs.Number.{groups}
use Rattle.requests.specs.declared.number.TheConstants.{LENGTHS}
use Rattle.requests.proofs.number.Laws.{groups_last, groups_more}

-- a number has at least one group; one that has only one is below 128
pub groups_some : (n : ℕ) → 0 < length (groups n)
groups_some n =
    elim (dec_lt n 128) [
      | yes s ↦ omega (arith, ap length (groups_last n s))
      | no b ↦ omega (arith, ap length (groups_more n (omega arith)))
    ]

pub only_group : (n : ℕ) → length (groups n) ≡ 1 → n < 128
only_group n h =
    elim (dec_lt n 128) [
      | yes s ↦ s
      | no b ↦ omega (arith, ap length (groups_more n (omega arith)), groups_some (n / 128))
    ]

pub more_groups : (n : ℕ) → 1 < length (groups n) → 128 ≤ n
more_groups n h =
    elim (dec_lt n 128) [
      | yes s ↦ omega (arith, ap length (groups_last n s))
      | no b ↦ omega arith
    ]

-- of two groups the second is the last
pub second_group : (n : ℕ) → length (groups n) ≡ 2 → n / 128 < 128
second_group n h = only_group (n / 128) (omega (arith, h, ap length (groups_more n (more_groups n (omega (arith, h))))))

pub two_groups : (n : ℕ) → length (groups n) ≡ 2 → groups n ≡ (128 + n % 128) ∷ (n / 128) ∷ []
two_groups n h = groups_more n (more_groups n (omega (arith, h))) ∙ ap (λ (l : List ℕ). (128 + n % 128) ∷ l) (groups_last (n / 128) (second_group n h))

-- a number below 128 ^ (k + 1) has at most k + 1 groups
pub groups_within : (k n : ℕ) → n < 128 ^ suc k → length (groups n) ≤ suc k
groups_within zero n h = omega (arith, ap length (groups_last n (omega arith)))
groups_within (suc k) n h =
    elim (dec_lt n 128) [
      | yes s ↦ omega (arith, ap length (groups_last n s))
      | no b ↦
          let fewer : n / 128 < 128 ^ suc k = (let e : 128 ^ suc (suc k) ≡ 128 * 128 ^ suc k = pow-succ' 128 (suc k) in omega arith) in
          omega (arith, ap length (groups_more n (omega arith)), groups_within k (n / 128) fewer)
    ]

pub at_most_ten : (n : ℕ) → n < 2 ^ 64 → length (groups n) ≤ 10
at_most_ten n h = groups_within 9 n (omega arith)

-- a number whose highest bit is at place 7 * k + r has k + 1 groups
groups_to_bit : (k r n : ℕ) → r < 7 → 2 ^ (7 * k + r) ≤ n → n < 2 * 2 ^ (7 * k + r) → length (groups n) ≡ k + 1
groups_to_bit zero r n h low high =
    let small : 2 ^ r ≤ 2 ^ 6 = pow_mono (let few : r ≤ 6 = omega arith in few) in
    let place : 2 ^ (7 * 0 + r) ≡ 2 ^ r = ap (λ (m : ℕ). 2 ^ m) (let e : 7 * 0 + r ≡ r = omega arith in e) in
    ap length (groups_last n (omega arith))
groups_to_bit (suc k) r n h low high =
    let one : 2 ^ (7 + (7 * k + r)) ≡ 2 ^ 7 * 2 ^ (7 * k + r) = pow-add 2 7 (7 * k + r) in
    let e : 7 * suc k + r ≡ 7 + (7 * k + r) = omega arith in
    let two : 2 ^ (7 * suc k + r) ≡ 128 * 2 ^ (7 * k + r) = ap (λ (m : ℕ). 2 ^ m) e ∙ one in
    let big : 0 < 2 ^ (7 * k + r) = one-le-pow (7 * k + r) 2 (omega arith) in
    let more = groups_to_bit k r (n / 128) h (omega arith) (omega arith) in
    omega (arith, ap length (groups_more n (omega arith)), more)

groups_to_highest : (n j : ℕ) → 2 ^ j ≤ n → n < 2 ^ suc j → length (groups n) ≡ j / 7 + 1
groups_to_highest n j low high =
    let place : 7 * (j / 7) + j % 7 ≡ j = omega arith in
    groups_to_bit (j / 7) (j % 7) n (omega arith) (rw place low) (rw place (let e : 2 ^ suc j ≡ 2 * 2 ^ j = pow-succ' 2 j in omega arith))

-- what the table holds for a number whose highest bit is bit j, and for 0, which has none
at_bit : (j : ℕ) → j < 64 → get_or LENGTHS (63 - j) 0 ≡ j / 7 + 1
at_bit j h = eqb-true _ _ (agree_below_at (λ k. eqb (get_or LENGTHS (63 - k) 0) (k / 7 + 1)) (λ _. true) 64 j refl h)

at_no_bit : get_or LENGTHS (count_leading_zeros 64 0) 0 ≡ 1
at_no_bit = rw (leading_of_zero 64) refl

pub at_leading_zeros : (n : ℕ) → n < 2 ^ 64 → get_or LENGTHS (count_leading_zeros 64 n) 0 ≡ length (groups n)
at_leading_zeros n h =
    elim (ℕ_discrete n 0) [
      | yes z ↦ rw z (at_no_bit ∙ sym (ap length (groups_last 0 (omega arith))))
      | no p ↦
          let top = leading_top 64 n (omega arith) h in
          let zeros : count_leading_zeros 64 n ≡ 63 - top.0 = omega (arith, top.1) in
          rw zeros (at_bit top.0 (omega (arith, top.1)) ∙ sym (groups_to_highest n top.0 top.2 top.3))
    ]
