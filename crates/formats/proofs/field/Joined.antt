-- Fields side by side, written as one field.
-- Assumes nothing.
use Prim.Native.Nat.{ℕ, zero, suc, ◌+◌, ◌*◌, ◌/◌, ◌%◌, ◌^◌, ◌<◌}
use mathlib.Core.Path.{◌≡◌, refl, sym, ap, ◌∙◌}
use mathlib.Core.List.{List, ◌∷◌, ◌++◌}
use native.Mathlib.Omega.{arith}
use lib.Pow.{field, mod-mod-pow, shr-shr, high, low}
use Rattle.formats.specs.Field.{bytes_of}

-- a field of n bytes has a number's low 8 n bits and no others
pub low_bytes : (n x y : ℕ) → x % 2 ^ (8 * n) ≡ y % 2 ^ (8 * n) → bytes_of n x ≡ bytes_of n y
unfolding bytes_of
low_bytes zero x y e = refl
low_bytes (suc n) x y e =
    let w : 8 * suc n ≡ 8 + 8 * n = omega arith in
    let f : x % 2 ^ (8 + 8 * n) ≡ y % 2 ^ (8 + 8 * n) = rw w at e in
    let first : x / 2 ^ (8 * n) % 256 ≡ y / 2 ^ (8 * n) % 256 =
    sym (field x 8 (8 * n)) ∙ ap (λ (z : ℕ). z / 2 ^ (8 * n)) f ∙ field y 8 (8 * n) in
    let rest : x % 2 ^ (8 * n) ≡ y % 2 ^ (8 * n) =
    sym (mod-mod-pow x 8 (8 * n)) ∙ ap (λ (z : ℕ). z % 2 ^ (8 * n)) f ∙ mod-mod-pow y 8 (8 * n) in
    rw (first, low_bytes n x y rest) refl

-- a field of m bytes that holds x, and after it one of n bytes that holds y
pub joined_bytes : (m n x y : ℕ) → y < 2 ^ (8 * n) → bytes_of (m + n) (x * 2 ^ (8 * n) + y) ≡ bytes_of m x ++ bytes_of n y
unfolding bytes_of
joined_bytes zero n x y small =
    let z : 0 + n ≡ n = omega arith in
    let e : (x * 2 ^ (8 * n) + y) % 2 ^ (8 * n) ≡ y % 2 ^ (8 * n) =
    low x (8 * n) small ∙ sym (low 0 (8 * n) small) ∙ ap (λ (k : ℕ). k % 2 ^ (8 * n)) (omega arith) in
    ap (λ (k : ℕ). bytes_of k (x * 2 ^ (8 * n) + y)) z ∙ low_bytes n (x * 2 ^ (8 * n) + y) y e
joined_bytes (suc m) n x y small =
    let z : suc m + n ≡ suc (m + n) = omega arith in
    let w : 8 * (m + n) ≡ 8 * n + 8 * m = omega arith in
    let top : (x * 2 ^ (8 * n) + y) / 2 ^ (8 * (m + n)) ≡ x / 2 ^ (8 * m) =
    ap (λ (k : ℕ). (x * 2 ^ (8 * n) + y) / 2 ^ k) w
    ∙ sym (shr-shr (x * 2 ^ (8 * n) + y) (8 * n) (8 * m))
    ∙ ap (λ (k : ℕ). k / 2 ^ (8 * m)) (high x (8 * n) small) in
    ap (λ (k : ℕ). bytes_of k (x * 2 ^ (8 * n) + y)) z
    ∙ ap (λ (k : ℕ). k % 256 ∷ bytes_of (m + n) (x * 2 ^ (8 * n) + y)) top
    ∙ ap (λ (l : List ℕ). x / 2 ^ (8 * m) % 256 ∷ l) (joined_bytes m n x y small)
