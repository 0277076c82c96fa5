-- Decimal numbers once more, by what is read from them.
use Rattle.std.specs.Prelude.{ℕ, ◌+◌, ◌-◌, ◌*◌, ◌^◌, ◌≤◌, ◌<◌, ◌≡◌, ◌≢◌, List, [], ◌∷◌, length, get_or}
use Rattle.std.specs.Prelude.{decimal as printed}
use Rattle.text.specs.Text.{decimal}

-- the number that digits stand for, the most significant first
unfoldable pub value_of : List ℕ → ℕ
value_of [] = 0
value_of (d ∷ ds) = (d - 48) * 10 ^ length ds + value_of ds

-- every number is digits, `0` (48) to `9` (57), that stand for it, with no `0` in front of others
pub record DecimalForm : Type 0 where
  pub digits : (n i : ℕ) → i < length (decimal n) → (48 ≤ get_or (decimal n) i 0) × (get_or (decimal n) i 0 ≤ 57)
  pub stands_for : (n : ℕ) → value_of (decimal n) ≡ n
  pub shortest : (n : ℕ) → 10 ≤ n → get_or (decimal n) 0 0 ≢ 48
  pub single : (n : ℕ) → n < 10 → decimal n ≡ (48 + n) ∷ []
  -- it is what Rattle's own printing writes of a number of 64 bits
  pub as_printed : (n : ℕ) → n < 2 ^ 64 → decimal n ≡ printed n
