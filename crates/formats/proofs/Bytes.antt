-- Lists of bytes: every element is below 256, and stays so by what is cut, joined and put.
-- Assumes nothing.
use Prim.Native.Nat.{ℕ, zero, suc, ◌+◌, ◌*◌, ◌/◌, ◌%◌, ◌^◌, ◌<◌}
use mathlib.Core.List.{List, [], ◌∷◌, ◌++◌}
use native.Mathlib.Omega.{arith}
use lib.ListN.{length, take, drop, replicate}
use lib.Seq.{get_or-drop}
use Rattle.formats.specs.Bytes.{Bytes}
use Rattle.formats.specs.Part.{part, put}
use Rattle.formats.specs.Field.{bytes_of}

-- the elements of a list are bytes, one after another: the form in which it is shown of a list that is put together
pub data Listed : List ℕ → Type 0 where
  none : Listed []
  more : (a : ℕ) {l : List ℕ} → a < 256 → Listed l → Listed (a ∷ l)

pub bytes : {l : List ℕ} → Listed l → Bytes l
bytes none j = omega arith
bytes (more a h b) zero = h
bytes (more a h b) (suc j) = bytes b j

pub listed : (l : List ℕ) → Bytes l → Listed l
listed [] b = none
listed (a ∷ l) b = more a (b 0) (listed l (λ j. b (suc j)))

pub then : {l m : List ℕ} → Listed l → Listed m → Listed (l ++ m)
then none q = q
then (more a h b) q = more a h (then b q)

pub zeros : (n : ℕ) → Listed (replicate n 0)
zeros zero = none
zeros (suc n) = more 0 (omega arith) (zeros n)

-- a field holds bytes, whatever number it was written with
pub field : (n x : ℕ) → Listed (bytes_of n x)
unfolding bytes_of
field zero x = none
field (suc n) x = more (x / 2 ^ (8 * n) % 256) (omega arith) (field n x)

pub bytes_drop : (n : ℕ) (l : List ℕ) → Bytes l → Bytes (drop n l)
bytes_drop n l b j = rw (get_or-drop n l j 0) (b (n + j))

listed_take : (n : ℕ) {l : List ℕ} → Listed l → Listed (take n l)
listed_take zero b = none
listed_take (suc n) none = none
listed_take (suc n) (more a h b) = more a h (listed_take n b)

-- a part of bytes is bytes
pub bytes_part : (l : List ℕ) (a n : ℕ) → Bytes l → Bytes (part l a n)
bytes_part l a n b = bytes (listed_take n (listed (drop a l) (bytes_drop a l b)))

-- bytes put among bytes are bytes
pub bytes_put : (l : List ℕ) (a : ℕ) {p : List ℕ} → Bytes l → Listed p → Bytes (put l a p)
unfolding put
bytes_put l a {p} b q = bytes (then (listed_take a (listed l b)) (then q (listed (drop (a + length p) l) (bytes_drop (a + length p) l b))))
