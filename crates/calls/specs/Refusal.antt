-- Refusal conditions with their numbers, and the answer that they give.
use Rattle.std.specs.Prelude.{ℕ, ◌≡◌, ◌≢◌, ◌⊎◌, List, [], ◌∷◌, Bool, true, false, not, cond, eqb}

-- a condition, and the number that a call that meets it is answered
infix 70 ◌when◌
pub data Condition : Type 0 where
  ◌when◌ : ℕ → Bool → Condition

-- the condition that a test fails
infix 70 ◌unless◌
abbrev pub ◌unless◌ : ℕ → Bool → Condition
n unless b = n when not b

-- "the first in the order": the number of the first condition that holds; "Done is 0"
unfoldable pub first : List Condition → ℕ
first [] = 0
first ((n when b) ∷ rest) = cond b n (first rest)

-- the numbers of conditions, in their order
abbrev pub numbers_of : List Condition → List ℕ
numbers_of [] = []
numbers_of ((n when b) ∷ rest) = n ∷ numbers_of rest

-- the conditions that are tested before that of number n
abbrev pub tested_before : ℕ → List Condition → List Condition
tested_before n [] = []
tested_before n ((m when b) ∷ rest) = cond (eqb m n) [] ((m when b) ∷ tested_before n rest)

-- condition n holds, and none before it
abbrev pub FirstToHold : ℕ → List Condition → Type 0
FirstToHold n [] = ⊥
FirstToHold n ((m when b) ∷ rest) = ((b ≡ true) × (m ≡ n)) ⊎ ((b ≡ false) × FirstToHold n rest)

-- no condition holds
abbrev pub NoneHolds : List Condition → Type 0
NoneHolds [] = Unit
NoneHolds ((m when b) ∷ rest) = (b ≡ false) × NoneHolds rest

-- Demand 1 of whatever checks the conditions `cs`, answers, and leaves `after` where it found `before`; carried out, it leaves
-- `made`: "every call that meets a refusal condition .. gets that number, the first in the order .., and no byte changes.
-- Accepted then: every other call"
pub record RefusedFirst (A : Type 0) (numbers : List ℕ) (cs : List Condition) (answer : ℕ) (before after made : A) : Type 0 where
  -- its checks have these numbers, in this order
  pub checks : numbers_of cs ≡ numbers
  -- a number other than 0 is answered where its condition holds and none before it, and only there
  pub refused : (n : ℕ) → n ≢ 0 → FirstToHold n cs → answer ≡ n
  pub only_refused : (n : ℕ) → n ≢ 0 → answer ≡ n → FirstToHold n cs
  pub unchanged : answer ≢ 0 → after ≡ before
  -- 0 is answered where no condition holds, and only there
  pub accepted : NoneHolds cs → answer ≡ 0
  pub only_accepted : answer ≡ 0 → NoneHolds cs
  pub carried_out : answer ≡ 0 → after ≡ made
