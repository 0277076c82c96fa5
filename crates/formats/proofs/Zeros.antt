-- Lists of zeros: a place in one, and a place past its end, is 0.
-- Assumes nothing.
use Prim.Native.Nat.{ℕ, zero, suc}
use mathlib.Core.Path.{◌≡◌, refl}
use mathlib.Core.List.{List, [], ◌∷◌, ◌++◌}
use lib.ListN.{get_or, replicate}

-- whatever the place
pub zero_at : (n i : ℕ) → ◌≡◌ {A = ℕ} (get_or (replicate n 0) i 0) 0
zero_at zero i = refl
zero_at (suc n) zero = refl
zero_at (suc n) (suc i) = zero_at n i

-- zeros behind a list change none of its elements
pub zeros_behind : (l : List ℕ) (n i : ℕ) → get_or (l ++ replicate n 0) i 0 ≡ get_or l i 0
zeros_behind [] n i = zero_at n i
zeros_behind (a ∷ l) n zero = refl
zeros_behind (a ∷ l) n (suc i) = zeros_behind l n i
