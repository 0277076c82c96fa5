-- The laws of big-endian fields, for any width: what a written field reads back as, and how a field is read byte by byte.
-- Assumes nothing.
use Prim.Native.Nat.{ℕ, zero, suc, ◌+◌, ◌-◌, ◌*◌, ◌/◌, ◌%◌, ◌^◌, ◌≤◌, ◌<◌}
use mathlib.Core.Path.{◌≡◌, refl, sym, ap, ap₂, ◌∙◌}
use mathlib.Core.List.{List, [], ◌∷◌, ◌++◌, append-nil}
use native.Mathlib.Omega.{arith}
use native.Mathlib.Nat.{mod-eq_of_lt, div-eq_of_lt, mod-one, zero-div, mul-le-mul_right, zero-add, suc-add}
use lib.ListN.{length, take, drop, get_or, replicate, length-append, length-drop, length-replicate, drop_of_length-le}
use borrow.Rule.Slice.PartMut.{put_mid}
use Rattle.std.proofs.lemmas.List.{take_all, length-take-le}
use Rattle.std.proofs.Math.Seq.{take-append_seam}
use lib.Seq.{drop-cons, take-suc, get_or-drop}
use lib.Pow.{pow-add, pow_mono, mod-pow-add}
use native.Mathlib.Numerals.{add-one}
use lib.Bits.{bit_or}
use lib.Dec.{lit≤}
use Rattle.formats.proofs.Bits.{joined}
use Rattle.formats.specs.Bytes.{Bytes}
use Rattle.formats.specs.Part.{part}
use Rattle.std.specs.Int.{w64, to_be_bytes, from_be_bytes, swap_bytes}
use Rattle.formats.specs.Field.{number, bytes_of}
use Rattle.formats.proofs.Bytes.{bytes, field}
use Rattle.formats.proofs.Cells.{of_cells}
use Rattle.formats.proofs.Part.{part_length}

-- the number that bytes make where the least significant comes first
unfoldable pub little : List ℕ → ℕ
little [] = 0
little (b ∷ l) = b + 256 * little l

pub length_bytes_of : (n x : ℕ) → length (bytes_of n x) ≡ n
unfolding bytes_of
length_bytes_of zero x = refl
length_bytes_of (suc n) x = ap suc (length_bytes_of n x)

-- a field that was lent with n bytes and filled
pub filled : {p : List ℕ} {m n : ℕ} (x : ℕ) → p ≡ bytes_of m x → m ≡ n → p ≡ bytes_of n x
filled x e h = e ∙ ap (λ (k : ℕ). bytes_of k x) h

-- a field of n bytes holds a number's low 8 n bits
pub number_bytes_of : (n x : ℕ) → number (bytes_of n x) ≡ x % 2 ^ (8 * n)
unfolding bytes_of number
number_bytes_of zero x = sym (mod-one x)
number_bytes_of (suc n) x =
    let e : 8 * suc n ≡ 8 + 8 * n = omega arith in
    rw (length_bytes_of n x, number_bytes_of n x, e) (sym (mod-pow-add x 8 (8 * n)))

-- and the whole number where it fits
pub number_whole : (n : ℕ) {x : ℕ} → x < 2 ^ (8 * n) → number (bytes_of n x) ≡ x
number_whole n {x} h = number_bytes_of n x ∙ mod-eq_of_lt h

-- a field of zeros
pub bytes_of_zero : (n : ℕ) → bytes_of n 0 ≡ replicate n 0
unfolding bytes_of
bytes_of_zero zero = refl
bytes_of_zero (suc n) = rw (bytes_of_zero n) (ap (λ (b : ℕ). b ∷ replicate n 0) (let e : 0 / 2 ^ (8 * n) % 256 ≡ 0 = omega (arith, zero-div (2 ^ (8 * n))) in e))

-- one byte more
pub number_snoc : (l : List ℕ) (b : ℕ) → number (l ++ (b ∷ [])) ≡ number l * 256 + b
unfolding number
number_snoc [] b = omega arith
number_snoc (a ∷ l) b =
    let e : length (l ++ (b ∷ [])) ≡ length l + 1 = length-append l (b ∷ []) in
    let f : 8 * length (l ++ (b ∷ [])) ≡ 8 * length l + 8 = omega arith in
    let p : 2 ^ (8 * length (l ++ (b ∷ []))) ≡ 2 ^ (8 * length l) * 256 = ap (λ (k : ℕ). 2 ^ k) f ∙ pow-add 2 (8 * length l) 8 in
    rw (p, number_snoc l b) (omega arith)

-- the first byte of a field, and the last
pub number_first : (n a : ℕ) (l : List ℕ) → a + suc n ≤ length l → number (part l a (suc n)) ≡ get_or l a 0 * 2 ^ (8 * n) + number (part l (suc a) n)
unfolding number
number_first n a l w =
    ap number (ap (take (suc n)) (drop-cons l a 0 (omega arith)))
    ∙ ap (λ (k : ℕ). get_or l a 0 * 2 ^ (8 * k) + number (part l (suc a) n)) (part_length (suc a) n l (omega arith))

pub number_last : (n a : ℕ) (l : List ℕ) → a + suc n ≤ length l → number (part l a (suc n)) ≡ number (part l a n) * 256 + get_or l (a + n) 0
number_last n a l w =
    ap number (take-suc (drop a l) n 0 (omega (arith, length-drop a l)))
    ∙ number_snoc (part l a n) (get_or (drop a l) n 0)
    ∙ ap (λ (b : ℕ). number (part l a n) * 256 + b) (get_or-drop a l n 0)

-- a field of bytes holds a number of so many bits
pub number_below : (n a : ℕ) (l : List ℕ) → Bytes l → a + n ≤ length l → number (part l a n) < 2 ^ (8 * n)
unfolding number
number_below zero a l bytes w = omega arith
number_below (suc n) a l bytes w =
    let f : 8 * suc n ≡ 8 + 8 * n = omega arith in
    let b : get_or l a 0 ≤ 255 = omega (arith, bytes a) in
    rw (f, pow-add) (omega (arith, number_first n a l w, number_below n (suc a) l bytes (omega arith), mul-le-mul_right (2 ^ (8 * n)) b))

-- the library's eight bytes of a number, and the number of eight bytes
pub to_be : (x : ℕ) → to_be_bytes w64 x ≡ bytes_of 8 x
unfolding bytes_of
to_be x = let low : x % 256 ≡ x / 2 ^ 0 % 256 = omega arith in cc

pub from_be : (l : List ℕ) → length l ≡ 8 → from_be_bytes w64 l ≡ number l
unfolding number
from_be l size = of_cells (λ (m : List ℕ). from_be_bytes w64 m ≡ number m) 8 l size (omega arith)

-- what the loop of `read` keeps: the number of the first i bytes, with room for the next
pub record Reading (l : List ℕ) (value i : ℕ) : Type 0 where
  pub so_far : value ≡ number (take i l)
  pub room : value < 2 ^ (8 * i)

pub read_start : (l : List ℕ) → Reading l 0 0
unfolding number
read_start l = record { so_far = refl; room = omega arith }

pub read_next : {l : List ℕ} {value i byte : ℕ} → Reading l value i → i < length l → i < 8 → byte ≡ get_or l i 0 → byte < 256
    → Reading l (bit_or ((value * 256) % 2 ^ 64) byte) (i + 1)
read_next {l} {value} {i} {byte} r h few is small =
    let e : 8 * (i + 1) ≡ 8 * i + 8 = omega arith in
    let fits : value < 2 ^ 56 = omega (arith, r.room, pow_mono {i = 8 * i} {j = 56} (omega arith)) in
    let next : bit_or ((value * 256) % 2 ^ 64) byte ≡ value * 256 + byte = joined 56 8 64 value byte fits (lit≤ tt) small in
    record {
      so_far = next ∙ rw (is, add-one, take-suc l i 0, number_snoc) (ap (λ (v : ℕ). v * 256 + get_or l i 0) r.so_far);
      room = rw (next, e, pow-add) (omega (arith, r.room));
    }

-- a list whose last elements, from place a on, were stored at once
pub stored_rest : (a : ℕ) (xs ys : List ℕ) → a + length ys ≡ length xs → put_mid a (length xs - a) xs ys ≡ take a xs ++ ys
stored_rest a xs ys e =
    ap (λ (l : List ℕ). take a xs ++ (ys ++ l)) (drop_of_length-le (drop a xs) {i = length xs - a} (omega (arith, length-drop a xs)))
    ∙ ap (λ (l : List ℕ). take a xs ++ l) (append-nil ys)

-- the low bytes of a field of more of them
pub low_bytes_of : (k n x : ℕ) → drop k (bytes_of (k + n) x) ≡ bytes_of n x
unfolding bytes_of
low_bytes_of zero n x = ap (λ (m : ℕ). bytes_of m x) (zero-add n)
low_bytes_of (suc k) n x = rw (suc-add k n) (low_bytes_of k n x)

-- zeros where a field is longer than its number
pub bytes_of_long : (k n x : ℕ) → x < 2 ^ (8 * n) → bytes_of (k + n) x ≡ replicate k 0 ++ bytes_of n x
unfolding bytes_of
bytes_of_long zero n x h = ap (λ (m : ℕ). bytes_of m x) (zero-add n)
bytes_of_long (suc k) n x h =
    let small : x < 2 ^ (8 * (k + n)) = omega (arith, h, pow_mono {i = 8 * n} {j = 8 * (k + n)} (omega arith)) in
    let top : x / 2 ^ (8 * (k + n)) % 256 ≡ 0 = rw (div-eq_of_lt small) refl in
    rw (suc-add k n) (ap₂ (λ (b : ℕ) (l : List ℕ). b ∷ l) top (bytes_of_long k n x h))

-- a field of at most eight bytes, filled with the last of a number's eight
pub low_field : (n x : ℕ) {b p : List ℕ} → n ≤ 8 → b ≡ to_be_bytes w64 x → p ≡ take (8 - (8 - n)) (drop (8 - n) b) → p ≡ bytes_of n x
low_field n x {b} few from e =
    let all : 8 - n + n ≡ 8 = omega arith in
    let last : drop (8 - n) (bytes_of 8 x) ≡ bytes_of n x = ap (λ (m : ℕ). drop (8 - n) (bytes_of m x)) (sym all) ∙ low_bytes_of (8 - n) n x in
    e
    ∙ ap (λ (l : List ℕ). take (8 - (8 - n)) (drop (8 - n) l)) (from ∙ to_be x)
    ∙ ap (take (8 - (8 - n))) last
    ∙ take_all (8 - (8 - n)) (bytes_of n x) (omega (arith, length_bytes_of n x))

-- a longer one, filled with zeros and all eight
pub long_field : (l : List ℕ) (x : ℕ) {zeros b p : List ℕ} → 8 < length l → x < 2 ^ 64
    → zeros ≡ replicate (length (take (length l - 8) l)) 0 → b ≡ to_be_bytes w64 x → p ≡ b
    → put_mid (length l - 8) (length (zeros ++ drop (length l - 8) l) - (length l - 8)) (zeros ++ drop (length l - 8) l) p ≡ bytes_of (length l) x
long_field l x {zeros} {b} {p} long fits cleared from e =
    let k = length l - 8 in
    let cut : length (take k l) ≡ k = length-take-le k l (omega arith) in
    let clear : zeros ≡ replicate k 0 = cleared ∙ ap (λ (n : ℕ). replicate n 0) cut in
    let size : length zeros ≡ k = ap length clear ∙ length-replicate {A = ℕ} k 0 in
    let eight : p ≡ bytes_of 8 x = e ∙ from ∙ to_be x in
    let all : k + 8 ≡ length l = omega arith in
    stored_rest k (zeros ++ drop k l) p (omega (arith, length-append zeros (drop k l), length-drop k l, ap length eight, length_bytes_of 8 x))
    ∙ ap₂ (λ (y z : List ℕ). y ++ z) (ap (λ (n : ℕ). take n (zeros ++ drop k l)) (sym size) ∙ take-append_seam zeros (drop k l) ∙ clear) eight
    ∙ sym (bytes_of_long k 8 x fits)
    ∙ ap (λ (n : ℕ). bytes_of n x) all

module _ (b1 b2 b3 b4 b5 b6 b7 b8 : ℕ) where
  -- the order of bytes does not change the number where the order of reading changes too
  pub turned : little (b8 ∷ b7 ∷ b6 ∷ b5 ∷ b4 ∷ b3 ∷ b2 ∷ b1 ∷ []) ≡ number (b1 ∷ b2 ∷ b3 ∷ b4 ∷ b5 ∷ b6 ∷ b7 ∷ b8 ∷ [])
  unfolding little number
  turned = omega arith

  -- the bytes of a number that was read with the least significant first come in the other order
  pub reversed : b1 < 256 → b2 < 256 → b3 < 256 → b4 < 256 → b5 < 256 → b6 < 256 → b7 < 256 → b8 < 256 → bytes_of 8 (little (b1 ∷ b2 ∷ b3 ∷ b4 ∷ b5 ∷ b6 ∷ b7 ∷ b8 ∷ [])) ≡ b8 ∷ b7 ∷ b6 ∷ b5 ∷ b4 ∷ b3 ∷ b2 ∷ b1 ∷ []
  unfolding little bytes_of
  reversed h1 h2 h3 h4 h5 h6 h7 h8 =
      let x = little (b1 ∷ b2 ∷ b3 ∷ b4 ∷ b5 ∷ b6 ∷ b7 ∷ b8 ∷ []) in
      let byte_8 : x / 2 ^ 56 % 256 ≡ b8 = omega arith in
      let byte-7 : x / 2 ^ 48 % 256 ≡ b7 = omega arith in
      let byte-6 : x / 2 ^ 40 % 256 ≡ b6 = omega arith in
      let byte-5 : x / 2 ^ 32 % 256 ≡ b5 = omega arith in
      let byte_4 : x / 2 ^ 24 % 256 ≡ b4 = omega arith in
      let byte_3 : x / 2 ^ 16 % 256 ≡ b3 = omega arith in
      let byte_2 : x / 2 ^ 8 % 256 ≡ b2 = omega arith in
      let byte_1 : x / 2 ^ 0 % 256 ≡ b1 = omega arith in
      cc

-- eight bytes read in either order
pub little_swapped : (l : List ℕ) → length l ≡ 8 → Bytes l → little (bytes_of 8 (little l)) ≡ number l
little_swapped l size byte =
    of_cells (λ (m : List ℕ). little (bytes_of 8 (little m)) ≡ number m) 8 l size
    (ap little
    (reversed (get_or l 0 0) (get_or l 1 0) (get_or l 2 0) (get_or l 3 0) (get_or l 4 0) (get_or l 5 0) (get_or l 6 0) (get_or l 7 0) (byte 0) (byte 1) (byte 2) (byte 3) (byte 4) (byte 5) (byte 6) (byte 7))
    ∙ turned (get_or l 0 0) (get_or l 1 0) (get_or l 2 0) (get_or l 3 0) (get_or l 4 0) (get_or l 5 0) (get_or l 6 0) (get_or l 7 0))

-- eight bytes turned round twice
pub twice : (l : List ℕ) → length l ≡ 8 → Bytes l → bytes_of 8 (little (bytes_of 8 (little l))) ≡ l
twice l size byte =
    of_cells (λ (m : List ℕ). bytes_of 8 (little (bytes_of 8 (little m))) ≡ m) 8 l size
    (ap (λ (m : List ℕ). bytes_of 8 (little m))
    (reversed (get_or l 0 0) (get_or l 1 0) (get_or l 2 0) (get_or l 3 0) (get_or l 4 0) (get_or l 5 0) (get_or l 6 0) (get_or l 7 0) (byte 0) (byte 1) (byte 2) (byte 3) (byte 4) (byte 5) (byte 6) (byte 7))
    ∙ reversed (get_or l 7 0) (get_or l 6 0) (get_or l 5 0) (get_or l 4 0) (get_or l 3 0) (get_or l 2 0) (get_or l 1 0) (get_or l 0 0) (byte 7) (byte 6) (byte 5) (byte 4) (byte 3) (byte 2) (byte 1) (byte 0))

-- eight bytes are those of the number that they make
pub bytes_number : (l : List ℕ) → length l ≡ 8 → Bytes l → bytes_of 8 (number l) ≡ l
bytes_number l size byte = ap (bytes_of 8) (sym (little_swapped l size byte)) ∙ twice l size byte

-- a field of eight bytes, in the two orders
pub swapped_bytes : (x : ℕ) → bytes_of 8 (little (bytes_of 8 (little (bytes_of 8 x)))) ≡ bytes_of 8 x
swapped_bytes x = twice (bytes_of 8 x) (length_bytes_of 8 x) (bytes (field 8 x))

-- the library's other order of a number's bytes
pub swapped : (x : ℕ) → swap_bytes w64 x ≡ little (bytes_of 8 x)
unfolding little bytes_of
swapped x = let low : x % 256 ≡ x / 2 ^ 0 % 256 = omega arith in omega arith
