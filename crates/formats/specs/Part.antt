-- The ways into and out of a table: a part of its bytes, and the table with other bytes in a part's place.
use Rattle.std.specs.Prelude.{ℕ, ◌+◌, List, ◌++◌, cond, length, take, drop, eqb}

-- "the part of its table that it occupies": the n bytes of l from place a on
abbrev pub part : List ℕ → ℕ → ℕ → List ℕ
part l a n = take n (drop a l)

-- l with the bytes p from place a on, instead of what stood there
unfoldable pub put : List ℕ → ℕ → List ℕ → List ℕ
put l a p = take a l ++ (p ++ drop (a + length p) l)

-- a part of n bytes that was lent to be written: the bytes `new`; a part of another length is left as it is
abbrev pub replaced : ℕ → List ℕ → List ℕ → List ℕ
replaced n new old = cond (eqb (length old) n) new old
