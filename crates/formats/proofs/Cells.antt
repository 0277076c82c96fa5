-- A list of known length, written out, so that what reads and stores at known places computes.
-- Assumes nothing.
use Prim.Native.Nat.{ℕ, zero, suc, ◌+◌, ◌≤◌}
use mathlib.Core.Path.{◌≡◌, refl, sym, ap, subst, ◌∙◌}
use mathlib.Core.List.{List, [], ◌∷◌}
use native.Mathlib.Omega.{arith}
use lib.ListN.{length, get_or, take, drop, drop_of_length-le}
use lib.Seq.{drop-cons}
use Rattle.formats.specs.Part.{part}

-- the n elements of l from i on
abbrev pub cells : ℕ → List ℕ → ℕ → List ℕ
cells zero l i = []
cells (suc n) l i = get_or l i 0 ∷ cells n l (suc i)

cells_are : (n : ℕ) (l : List ℕ) (i : ℕ) → length l ≡ i + n → drop i l ≡ cells n l i
cells_are zero l i e = drop_of_length-le l {i = i} (omega arith)
cells_are (suc n) l i e = drop-cons l i 0 (omega arith) ∙ ap (λ (r : List ℕ). get_or l i 0 ∷ r) (cells_are n l (suc i) (omega arith))

-- what holds of the list written out holds of the list
pub of_cells : (P : List ℕ → Type 0) (n : ℕ) (l : List ℕ) → length l ≡ n → P (cells n l 0) → P l
of_cells P n l e p = subst P (sym (cells_are n l 0 (omega arith))) p

-- a part of a list, written out
pub part_cells : (n i : ℕ) (l : List ℕ) → i + n ≤ length l → part l i n ≡ cells n l i
part_cells zero i l h = refl
part_cells (suc n) i l h = ap (take (suc n)) (drop-cons l i 0 (omega arith)) ∙ ap (λ (r : List ℕ). get_or l i 0 ∷ r) (part_cells n (suc i) l (omega arith))
