-- The laws of what title halves and rule halves have in common: what a written half reads as, and what a wipe leaves of one.
-- Assumes nothing.
use Prim.Native.Nat.{ℕ, ◌+◌, ◌-◌, ◌*◌, ◌/◌, ◌%◌, ◌^◌, ◌≤◌, ◌<◌}
use mathlib.Core.Path.{◌≡◌, refl, sym, ap, ◌∙◌}
use mathlib.Core.List.{List, [], ◌∷◌, ◌++◌}
use mathlib.Core.Bool.{Bool, true, false, not, ◌&&◌}
use Rattle.std.specs.Prelude.{Option, Some, None}
use Rattle.std.proofs.lemmas.Option.{none-some, cond_some}
use Rattle.formats.specs.declared.facts.ContentId.{ContentId}
use native.Mathlib.Omega.{arith}
use native.Mathlib.Nat.{mod-eq_of_lt}
use native.Mathlib.Decide.{dec_le, ℕ_discrete}
use lib.Bits.{bit_and, and_zero_r, and_block, and_high, and_mask}
use lib.Dec.{leb, ltb, eqb}
use lib.ListN.{length, drop, get_or, replicate, length-append}
use lib.Seq.{get_or-drop}
use borrow.Author.Tests.{le-leb, lt-leb, leb-true, lt-ltb, le-ltb, eq-eqb, ne_eqb, eqb-false, not-true}
use Rattle.formats.specs.Part.{part, put}
use Rattle.formats.specs.Field.{number, bytes_of}
use Rattle.formats.specs.Facts.{numbered}
use Rattle.formats.specs.Half.{key_of, flag_of, id_of, usable_of, usable_id, flagged_with, names_spent, half_bytes, wiped, changed_half}
use Rattle.formats.proofs.Part.{part_length, put_length, get_or_put_before, part_put_before}
use Rattle.formats.specs.Bytes.{Bytes}
use Rattle.formats.proofs.Bytes.{Listed, none, more, then, zeros, field, bytes_part, bytes_put}
use Rattle.formats.proofs.Cells.{part_cells}
use Rattle.formats.proofs.Tests.{split, both, and_false}
use Rattle.formats.proofs.facts.Laws.{numbered_range, range_numbered}
use Rattle.formats.proofs.Zeros.{zero_at}
use Rattle.formats.proofs.field.Laws.{length_bytes_of, number_bytes_of, number_first, number_last, number_below, bytes_number, little}

-- a half that was lent with 16 bytes or more
pub changed_half_lem : (new old : List ℕ) → 16 ≤ length old → changed_half new old ≡ new
changed_half_lem new old h = simp (le-leb 16 (length old) h)

-- the first bytes of a written half are 16
pub length_half_bytes : (first key id : ℕ) → length (half_bytes first key id) ≡ 16
unfolding half_bytes
length_half_bytes first key id = simp (length-append, length_bytes_of)

-- what is read of a half that was written with a key and an ID
pub record Written (h : List ℕ) (key id : ℕ) : Type 0 where
  pub whole : 16 ≤ length h
  pub key_is : key_of h ≡ key % 2 ^ 56
  pub flag_is : flag_of h ≡ true
  pub id_is : id_of h ≡ id % 1024

-- both kinds of half are so
pub half_written : (first key id : ℕ) (rest : List ℕ) → Written (half_bytes first key id ++ rest) key id
unfolding half_bytes bytes_of
half_written first key id rest =
    record {
      whole = omega (arith, length-append (half_bytes first key id) rest, length_half_bytes first key id);
      key_is = number_bytes_of 7 key;
      flag_is = refl;
      id_is = omega arith;
    }

module _ {h : List ℕ} {key id : ℕ} (w : Written h key id) where
  -- a key of 56 bits reads back
  pub written_key : key < 2 ^ 56 → key_of h ≡ key
  written_key small = w.key_is ∙ mod-eq_of_lt small

  -- and an ID of ten bits
  pub written_id : id < 1024 → id_of h ≡ id
  written_id small = w.id_is ∙ mod-eq_of_lt small

  -- a written half is usable
  pub written_usable : 1 ≤ id → id < 1024 → usable_of h ≡ true
  unfolding usable_of
  written_usable some small = simp (le-leb 16 (length h) w.whole, w.flag_is, ne_eqb (id_of h) 0 (λ e. omega (arith, written_id small)))

-- a usable half has an ID
pub usable_id_lem : (h : List ℕ) → usable_of h ≡ true → 1 ≤ id_of h
unfolding usable_of
usable_id_lem h usable =
    let marked = (split (leb 16 (length h)) (flag_of h && not (eqb (id_of h) 0)) usable).1 in
    let some = eqb-false (id_of h) 0 (not-true (eqb (id_of h) 0) (split (flag_of h) (not (eqb (id_of h) 0)) marked).1) in
    elim (dec_le 1 (id_of h)) [ yes p ↦ p | no p ↦ absurd (some (omega arith)) ]

-- and all of its bytes
pub usable_whole : (h : List ℕ) → usable_of h ≡ true → 16 ≤ length h
unfolding usable_of
usable_whole h usable = leb-true 16 (length h) (split (leb 16 (length h)) (flag_of h && not (eqb (id_of h) 0)) usable).0

-- a half whose flag is 0 is not usable, nor is one that is cut short
pub not_flagged : (h : List ℕ) → flag_of h ≡ false → usable_of h ≡ false
unfolding usable_of
not_flagged h clear = by (leb 16 (length h))
  where
    by : (b : Bool) → (b && (flag_of h && not (eqb (id_of h) 0))) ≡ false
    by true = ap (λ (f : Bool). f && not (eqb (id_of h) 0)) clear
    by false = refl

pub cut_short : (h : List ℕ) → length h < 16 → usable_of h ≡ false
unfolding usable_of
cut_short h few = ap (λ (b : Bool). b && (flag_of h && not (eqb (id_of h) 0))) (lt-leb 16 (length h) few)

-- a half whose flag is 1 is usable by its ID
pub flagged : (h : List ℕ) → 16 ≤ length h → flag_of h ≡ true → usable_of h ≡ not (eqb (id_of h) 0)
unfolding usable_of
flagged h whole set = simp (le-leb 16 (length h) whole, set)

-- one that is cut short names no title
pub cut_unnamed : (h : List ℕ) → length h < 16 → names_spent h ≡ false
unfolding names_spent
cut_unnamed h few = rw (lt-leb 16 (length h) few) refl

-- flag 0 and an ID from 1 to 999, with all of its bytes there
pub record SpentHalf (h : List ℕ) : Type 0 where
  pub whole : 16 ≤ length h
  pub flag : flag_of h ≡ false
  pub from : 1 ≤ id_of h
  pub to : id_of h ≤ 999

pub names_lem : {h : List ℕ} → SpentHalf h → names_spent h ≡ true
unfolding names_spent
names_lem n = both (le-leb _ _ n.whole) (both (ap not n.flag) (range_numbered n.from n.to))

pub names_says : (h : List ℕ) → names_spent h ≡ true → SpentHalf h
unfolding names_spent
names_says h e =
    let (whole, rest) = split (leb 16 (length h)) _ e in
    let (flag, named) = split (not (flag_of h)) (numbered (id_of h)) rest in
    let (from, to) = numbered_range (id_of h) named in
    record { whole = leb-true 16 (length h) whole; flag = not-true (flag_of h) flag; from = from; to = to }

-- no ID counts where the half is not usable, and its own does where it is
pub no_id : (h : List ℕ) → usable_of h ≡ false → usable_id h ≡ None
no_id h e = simp e refl

pub some_id : (h : List ℕ) → usable_of h ≡ true → usable_id h ≡ Some (record { 0 = id_of h })
some_id h e = simp e refl

-- and so read the other way
module _ (h : List ℕ) {found : Option ContentId} (is : found ≡ usable_id h) where
  pub without_id : found ≡ None → usable_of h ≡ false
  without_id empty = by (usable_of h) refl
    where
      by : (b : Bool) → usable_of h ≡ b → usable_of h ≡ false
      by true u = absurd (none-some _ (sym empty ∙ is ∙ some_id h u))
      by false u = u

  pub with_id : {id : ContentId} → found ≡ Some id → (usable_of h ≡ true) × (id_of h ≡ id.0)
  with_id {id} some =
      let (usable, same) = cond_some (usable_of h) (record { 0 = id_of h }) id (sym is ∙ some) in
      (usable, ap (λ (x : ContentId). x.0) same)

-- a half of zeros is not usable
pub zeros_unusable : (n : ℕ) → usable_of (replicate n 0) ≡ false
zeros_unusable n = not_flagged (replicate n 0) (rw (zero_at n 8) refl)

-- what a wipe with f leaves of h in its first 16 bytes
pub record Wiped (h : List ℕ) (f : ℕ) (w : List ℕ) : Type 0 where
  pub unusable : usable_of w ≡ false
  pub key_is : key_of w ≡ f % 2 ^ 56
  pub bytes_9_15 : (i : ℕ) → 9 ≤ i → i ≤ 15 → get_or w i 0 ≡ get_or h i 0

-- the key is gone, if the filler's low 56 bits are not the key itself
pub wiped_key_gone : {h : List ℕ} {f : ℕ} {w : List ℕ} → Wiped h f w → (f % 2 ^ 56 ≡ key_of h → ⊥) → key_of w ≡ key_of h → ⊥
wiped_key_gone w other same = other (sym w.key_is ∙ same)

module _ (h : List ℕ) (f : ℕ) where
  -- a wipe changes nothing from byte 9 on
  pub wiped_rest : drop 9 (wiped h f) ≡ drop 9 h
  unfolding wiped put bytes_of
  wiped_rest = refl

  -- byte by byte
  pub wiped_kept : (i : ℕ) → 9 ≤ i → get_or (wiped h f) i 0 ≡ get_or h i 0
  wiped_kept i from =
      let e : i ≡ 9 + (i - 9) = omega arith in
      rw e (sym (get_or-drop 9 (wiped h f) (i - 9) 0) ∙ ap (λ (l : List ℕ). get_or l (i - 9) 0) wiped_rest ∙ get_or-drop 9 h (i - 9) 0)

  -- a wiped half keeps its length
  pub wiped_length : 16 ≤ length h → length (wiped h f) ≡ length h
  unfolding wiped
  wiped_length size = put_length h _ 0 (simp (length-append, length_bytes_of) (omega arith))

  -- it clears the flag, and leaves the ID
  pub flag_cleared : flag_of (wiped h f) ≡ false
  unfolding wiped put bytes_of
  flag_cleared = lt-leb 128 (get_or (wiped h f) 8 0) (omega arith)

  pub id_kept : id_of (wiped h f) ≡ id_of h
  id_kept = omega (arith, wiped_kept 14 (omega arith), wiped_kept 15 (omega arith))

  -- a wiped half
  pub half_wiped : Wiped h f (wiped h f)
  unfolding wiped put bytes_of
  half_wiped =
      record {
        unusable = not_flagged (wiped h f) flag_cleared;
        key_is = number_bytes_of 7 f;
        bytes_9_15 = λ i low high. wiped_kept i low;
      }

-- it stays so when bytes from 16 on are written
pub still_wiped : {h : List ℕ} {f : ℕ} {w : List ℕ} (q : List ℕ) → 16 + length q ≤ length w → Wiped h f w → Wiped h f (put w 16 q)
unfolding usable_of
still_wiped {w = w} q room was =
    let before = get_or_put_before w q 16 room in
    record {
      unusable = simp (put_length w q 16 room, before 8 (omega arith), before 14 (omega arith), before 15 (omega arith)) was.unusable;
      key_is = ap number (part_put_before w q 16 room 1 7 (omega arith)) ∙ was.key_is;
      bytes_9_15 = λ i low high. before i (omega arith) ∙ was.bytes_9_15 i low high;
    }

-- a written half holds bytes
pub half_bytes_lem : (first key id : ℕ) → first < 256 → Listed (half_bytes first key id)
unfolding half_bytes
half_bytes_lem first key id small = more first small (then (field 7 key) (more 128 (omega arith) (then (zeros 5) (more (id / 256 % 4) (omega arith) (more (id % 256) (omega arith) none)))))

-- and so does a wiped one
pub wiped_bytes : (h : List ℕ) (f : ℕ) → Bytes h → Bytes (wiped h f)
unfolding wiped
wiped_bytes h f b = bytes_put h 0 b (then (field 8 f) (more (get_or h 8 0 % 128) (omega arith) none))

-- bytes 8 to 15 of a half as one number: the flag is its top bit, and the ID its low ten
module _ (h : List ℕ) (byte : Bytes h) (size : 16 ≤ length h) where
  pub tail_top : number (part h 8 8) / 2 ^ 63 ≡ get_or h 8 0 / 128
  tail_top = omega (arith, number_first 7 8 h (omega arith), number_below 7 9 h byte (omega arith), byte 8)

  pub tail_low : number (part h 8 8) % 1024 ≡ id_of h
  tail_low = omega (arith, number_last 7 8 h (omega arith), number_last 6 8 h (omega arith), byte 14, byte 15)

  -- the flag by its mask
  tail_flag : bit_and (number (part h 8 8)) (2 ^ 63) ≡ get_or h 8 0 / 128 * 2 ^ 63
  tail_flag = and_high (number (part h 8 8)) 1 63 ∙ omega (arith, tail_top, byte 8)

  -- a half whose flag is 0 there is not usable, and one with flag 1 is by its ID
  pub tail_clear : bit_and (number (part h 8 8)) (2 ^ 63) ≡ 0 → usable_of h ≡ false
  tail_clear clear = not_flagged h (lt-leb 128 (get_or h 8 0) (omega (arith, sym tail_flag ∙ clear)))

  pub tail_set : (bit_and (number (part h 8 8)) (2 ^ 63) ≡ 0 → ⊥) → usable_of h ≡ not (eqb (id_of h) 0)
  tail_set set =
      elim (dec_le 128 (get_or h 8 0)) [
        | yes p ↦ flagged h size (le-leb 128 (get_or h 8 0) p)
        | no p ↦ absurd (set (tail_flag ∙ omega arith))
      ]

  -- flag and ID together are above the flag alone where both count
  tail_marks : bit_and (number (part h 8 8)) (2 ^ 63 + 1023) ≡ get_or h 8 0 / 128 * 2 ^ 63 + id_of h
  tail_marks =
      let w = number (part h 8 8) in
      let small : w < 2 ^ 64 = number_below 8 8 h byte (omega arith) in
      let e : w ≡ w / 1024 * 2 ^ 10 + w % 1024 = omega arith in
      ap (λ (x : ℕ). bit_and x (2 ^ 63 + 1023)) e
      ∙ and_block 10 (w / 1024) (2 ^ 53) (w % 1024) 1023 (omega arith) (omega arith)
      ∙ rw (and_high (w / 1024) 1 53, and_mask (w % 1024) 10)
      (omega (arith, tail_top, tail_low))

  pub tail_usable : ltb (2 ^ 63) (bit_and (number (part h 8 8)) (2 ^ 63 + 1023)) ≡ usable_of h
  tail_usable = rw tail_marks (by (dec_le 128 (get_or h 8 0)) (ℕ_discrete (id_of h) 0))
    where
      by : Dec (128 ≤ get_or h 8 0) → Dec (id_of h ≡ 0) → ltb (2 ^ 63) (get_or h 8 0 / 128 * 2 ^ 63 + id_of h) ≡ usable_of h
      by (yes f) (yes z) =
          le-ltb (2 ^ 63) (get_or h 8 0 / 128 * 2 ^ 63 + id_of h) (omega (arith, byte 8))
          ∙ sym (flagged h size (le-leb 128 (get_or h 8 0) f) ∙ ap not (eq-eqb (id_of h) 0 z))
      by (yes f) (no n) =
          lt-ltb (2 ^ 63) (get_or h 8 0 / 128 * 2 ^ 63 + id_of h) (omega (arith, byte 8))
          ∙ sym (flagged h size (le-leb 128 (get_or h 8 0) f) ∙ ap not (ne_eqb (id_of h) 0 n))
      by (no f) d =
          le-ltb (2 ^ 63) (get_or h 8 0 / 128 * 2 ^ 63 + id_of h) (omega (arith, byte 8, byte 15))
          ∙ sym (not_flagged h (lt-leb 128 (get_or h 8 0) (omega arith)))

  -- and they are from 1 to 999 where the flag is 0 and the ID is
  pub tail_named : numbered (bit_and (number (part h 8 8)) (2 ^ 63 + 1023)) ≡ names_spent h
  unfolding names_spent
  tail_named = rw (tail_marks, le-leb 16 (length h) size) (by (dec_le 128 (get_or h 8 0)))
    where
      by : Dec (128 ≤ get_or h 8 0) → numbered (get_or h 8 0 / 128 * 2 ^ 63 + id_of h) ≡ (not (flag_of h) && numbered (id_of h))
      by (yes f) =
          rw (le-leb 128 (get_or h 8 0) f, lt-leb (get_or h 8 0 / 128 * 2 ^ 63 + id_of h) 999 (omega (arith, byte 8)))
          (and_false (leb 1 (get_or h 8 0 / 128 * 2 ^ 63 + id_of h)))
      by (no f) =
          let same : get_or h 8 0 / 128 * 2 ^ 63 + id_of h ≡ id_of h = omega arith in
          rw (same, lt-leb 128 (get_or h 8 0) (omega arith)) refl

-- flag and ID by their bytes, as they come when the least significant is read first
masked : (b8 b9 b10 b11 b12 b13 b14 b15 : ℕ) → b8 < 256 → b9 < 256 → b10 < 256 → b11 < 256 → b12 < 256 → b13 < 256 → b14 < 256 → b15 < 256
    → bit_and (little (b8 ∷ b9 ∷ b10 ∷ b11 ∷ b12 ∷ b13 ∷ b14 ∷ b15 ∷ [])) 0xff03000000000080 ≡ (b15 * 256 + b14 % 4) * 2 ^ 48 + b8 / 128 * 128
unfolding little
masked b8 b9 b10 b11 b12 b13 b14 b15 h8 h9 h10 h11 h12 h13 h14 h15 =
    let m = b9 + 256 * (b10 + 256 * (b11 + 256 * (b12 + 256 * b13))) in
    let e : little (b8 ∷ b9 ∷ b10 ∷ b11 ∷ b12 ∷ b13 ∷ b14 ∷ b15 ∷ []) ≡ (b15 * 2 ^ 8 + b14) * 2 ^ 48 + (m * 2 ^ 8 + b8) = omega arith in
    let id : bit_and (b15 * 2 ^ 8 + b14) (255 * 2 ^ 8 + 3) ≡ b15 * 256 + b14 % 4 =
    and_block 8 b15 255 b14 3 h14 (omega arith) ∙ rw (and_mask b15 8, and_mask b14 2) (omega arith) in
    let flag : bit_and (m * 2 ^ 8 + b8) (0 * 2 ^ 8 + 128) ≡ b8 / 128 * 128 =
    and_block 8 m 0 b8 128 h8 (omega arith) ∙ rw (and_zero_r m, and_high b8 1 7) (omega arith) in
    ap (λ (x : ℕ). bit_and x 0xff03000000000080) e
    ∙ and_block 48 (b15 * 2 ^ 8 + b14) (255 * 2 ^ 8 + 3) (m * 2 ^ 8 + b8) (0 * 2 ^ 8 + 128) (omega arith) (omega arith)
    ∙ rw (id, flag) refl

-- the flag above the ten bits of an ID, as bytes 8 to 15 of a written half
pub marked : (id : ℕ) → bytes_of 8 (2 ^ 63 + id % 1024) ≡ 128 ∷ 0 ∷ 0 ∷ 0 ∷ 0 ∷ 0 ∷ id / 256 % 4 ∷ id % 256 ∷ []
unfolding bytes_of
marked id =
    let x = 2 ^ 63 + id % 1024 in
    let byte_8 : x / 2 ^ 56 % 256 ≡ 128 = omega arith in
    let byte-9 : x / 2 ^ 48 % 256 ≡ 0 = omega arith in
    let byte-10 : x / 2 ^ 40 % 256 ≡ 0 = omega arith in
    let byte-11 : x / 2 ^ 32 % 256 ≡ 0 = omega arith in
    let byte_12 : x / 2 ^ 24 % 256 ≡ 0 = omega arith in
    let byte_13 : x / 2 ^ 16 % 256 ≡ 0 = omega arith in
    let byte_14 : x / 2 ^ 8 % 256 ≡ id / 256 % 4 = omega arith in
    let byte_15 : x / 2 ^ 0 % 256 ≡ id % 256 = omega arith in
    cc

-- a half that is not usable has no ID that counts, and there are IDs that never do
module _ (c : ℕ) (h : List ℕ) where
  pub without_use : usable_of h ≡ false → false ≡ flagged_with c h
  unfolding flagged_with
  without_use e = by (numbered c)
    where
      by : (b : Bool) → false ≡ (b && (usable_of h && eqb (id_of h) c))
      by true = sym (ap (λ (u : Bool). u && eqb (id_of h) c) e)
      by false = refl

  pub not_numbered : numbered c ≡ false → false ≡ flagged_with c h
  unfolding flagged_with
  not_numbered e = sym (ap (λ (b : Bool). b && (usable_of h && eqb (id_of h) c)) e)

  -- flag and ID compared at once
  module _ (byte : Bytes h) (size : 16 ≤ length h) (some : 1 ≤ c) (few : c ≤ 999) where
    bytes_there : bit_and (little (bytes_of 8 (number (part h 8 8)))) 0xff03000000000080 ≡ (get_or h 15 0 * 256 + get_or h 14 0 % 4) * 2 ^ 48 + get_or h 8 0 / 128 * 128
    bytes_there =
        ap (λ (l : List ℕ). bit_and (little l) 0xff03000000000080)
        (bytes_number (part h 8 8) (part_length 8 8 h size) (bytes_part h 8 8 byte) ∙ part_cells 8 8 h size)
        ∙ masked (get_or h 8 0) (get_or h 9 0) (get_or h 10 0) (get_or h 11 0) (get_or h 12 0) (get_or h 13 0) (get_or h 14 0) (get_or h 15 0) (byte 8) (byte 9) (byte 10) (byte 11) (byte 12) (byte 13) (byte 14) (byte 15)

    bytes_sought : little (bytes_of 8 (2 ^ 63 + c)) ≡ (c % 256 * 256 + c / 256) * 2 ^ 48 + 128
    unfolding little
    bytes_sought =
        let e : c ≡ c % 1024 = omega arith in
        ap (λ (k : ℕ). little (bytes_of 8 (2 ^ 63 + k))) e ∙ ap little (marked c) ∙ omega arith

    pub at_once : eqb (bit_and (little (bytes_of 8 (number (part h 8 8)))) 0xff03000000000080) (little (bytes_of 8 (2 ^ 63 + c))) ≡ flagged_with c h
    unfolding flagged_with
    at_once =
        rw (bytes_there, bytes_sought)
        (simp (le-leb 1 c some, le-leb c 999 few) (by (dec_le 128 (get_or h 8 0)) (ℕ_discrete (id_of h) c)))
      where
        by : Dec (128 ≤ get_or h 8 0) → Dec (id_of h ≡ c) → eqb ((get_or h 15 0 * 256 + get_or h 14 0 % 4) * 2 ^ 48 + get_or h 8 0 / 128 * 128) ((c % 256 * 256 + c / 256) * 2 ^ 48 + 128) ≡ (usable_of h && eqb (id_of h) c)
        by (yes f) (yes e) =
            eq-eqb ((get_or h 15 0 * 256 + get_or h 14 0 % 4) * 2 ^ 48 + get_or h 8 0 / 128 * 128) ((c % 256 * 256 + c / 256) * 2 ^ 48 + 128) (omega (arith, byte 8, byte 14, byte 15))
            ∙ sym (simp (flagged h size (le-leb 128 (get_or h 8 0) f), ne_eqb (id_of h) 0 (λ z. omega arith), eq-eqb (id_of h) c e))
        by (yes f) (no n) =
            ne_eqb ((get_or h 15 0 * 256 + get_or h 14 0 % 4) * 2 ^ 48 + get_or h 8 0 / 128 * 128) ((c % 256 * 256 + c / 256) * 2 ^ 48 + 128) (λ z. n (omega (arith, byte 8, byte 14, byte 15)))
            ∙ sym (simp (flagged h size (le-leb 128 (get_or h 8 0) f), ne_eqb (id_of h) c n) (and_false (not (eqb (id_of h) 0))))
        by (no f) d =
            let zero-flag : get_or h 8 0 / 128 ≡ 0 = omega arith in
            let there : ((get_or h 15 0 * 256 + get_or h 14 0 % 4) * 2 ^ 48 + get_or h 8 0 / 128 * 128) % 256 ≡ 0 = omega arith in
            let sought : ((c % 256 * 256 + c / 256) * 2 ^ 48 + 128) % 256 ≡ 128 = omega arith in
            ne_eqb ((get_or h 15 0 * 256 + get_or h 14 0 % 4) * 2 ^ 48 + get_or h 8 0 / 128 * 128) ((c % 256 * 256 + c / 256) * 2 ^ 48 + 128) (λ z. let e : ◌≡◌ {A = ℕ} 0 128 = sym there ∙ ap (λ (k : ℕ). k % 256) z ∙ sought in absurd (omega arith))
            ∙ sym (ap (λ (u : Bool). u && eqb (id_of h) c) (not_flagged h (lt-leb 128 (get_or h 8 0) (omega arith))))
