-- "Fields of several bytes have the most significant byte first."
use Rattle.std.specs.Prelude.{ℕ, zero, suc, ◌+◌, ◌*◌, ◌/◌, ◌%◌, ◌^◌, List, [], ◌∷◌, length}

-- the number that the bytes of a field make
unfoldable pub number : List ℕ → ℕ
number [] = 0
number (b ∷ l) = b * 2 ^ (8 * length l) + number l

-- the field of n bytes that holds x, of which it has room for the low 8 n bits
unfoldable pub bytes_of : ℕ → ℕ → List ℕ
bytes_of zero x = []
bytes_of (suc n) x = x / 2 ^ (8 * n) % 256 ∷ bytes_of n x
