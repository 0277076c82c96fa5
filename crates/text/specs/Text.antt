-- What the programs and the closing sheet print: lines of decimal numbers, in ASCII.
use Rattle.std.specs.Prelude.{ℕ, zero, suc, ◌+◌, ◌/◌, ◌%◌, List, [], ◌∷◌, ◌++◌, Bool, true, false, cond, length, leb, ltb}
use Rattle.formats.specs.Part.{put}

-- the digits of n, at most suc k of them, the most significant first; `last` says that n is below 10, so that it is a single digit
unfoldable pub decimal_in : ℕ → Bool → ℕ → List ℕ
decimal_in zero last n = (48 + n) ∷ []
decimal_in (suc k) true n = (48 + n) ∷ []
decimal_in (suc k) false n = decimal_in k (ltb (n / 10) 10) (n / 10) ++ ((48 + n % 10) ∷ [])

-- "decimal numbers": n has at most n + 1 digits
unfoldable pub decimal : ℕ → List ℕ
decimal n = decimal_in n (ltb n 10) n

abbrev pub space : ℕ
space = 32

abbrev pub line_end : ℕ
line_end = 10

-- a number and what separates it from the next
unfoldable pub field : ℕ → ℕ → List ℕ
field n end = decimal n ++ (end ∷ [])

-- "as decimal numbers with one space between": a line of numbers
unfoldable pub line : List ℕ → List ℕ
line [] = []
line (n ∷ []) = field n line_end
line (n ∷ (m ∷ ns)) = field n space ++ line (m ∷ ns)

-- a buffer with these bytes from a place on, where it has room for all of them; else as it was
unfoldable pub placed : List ℕ → ℕ → List ℕ → List ℕ
placed out at bytes = cond (leb (at + length bytes) (length out)) (put out at bytes) out

-- the place after them, or the same place
unfoldable pub place_after : List ℕ → ℕ → List ℕ → ℕ
place_after out at bytes = cond (leb (at + length bytes) (length out)) (at + length bytes) at
