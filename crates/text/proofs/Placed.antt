-- Bytes placed in a buffer that has room for them: one text, texts in a row, a text at the front of a buffer.
-- Assumes nothing.
use Prim.Native.Nat.{ℕ, ◌+◌, ◌-◌, ◌≤◌}
use mathlib.Core.Path.{◌≡◌, refl, sym, ap, ap₂, ◌∙◌}
use mathlib.Core.List.{List, ◌++◌, append-nil}
use native.Mathlib.Omega.{arith}
use borrow.Author.Tests.{le-leb}
use lib.ListN.{length, take, length-append}
use Rattle.formats.specs.Part.{put}
use borrow.Rule.Slice.PartMut.{put_mid}
use Rattle.formats.proofs.Part.{put_length, part_put_same, back}
use Rattle.formats.proofs.Stores.{Storing, store_all, stored}
use Rattle.text.specs.Text.{placed, place_after}

module _ (out : List ℕ) (at : ℕ) (bytes : List ℕ) where
  pub placed_put : at + length bytes ≤ length out → placed out at bytes ≡ put out at bytes
  unfolding placed
  placed_put h = rw (le-leb (at + length bytes) (length out) h) refl

  pub fits : {m : List ℕ} {r : ℕ} → at + length bytes ≤ length out → (r ≡ place_after out at bytes) × (m ≡ placed out at bytes)
      → (r ≡ at + length bytes) × (m ≡ put out at bytes)
  unfolding placed place_after
  fits h e = rw (le-leb (at + length bytes) (length out) h) at e

  -- the bytes copied into a part that was lent
  pub copied : {p : List ℕ} → at + length bytes ≤ length out → p ≡ bytes → put_mid at ((at + length bytes) - at) out p ≡ placed out at bytes
  copied {p} room is =
      let count : length p ≡ (at + length bytes) - at = omega (arith, ap length is) in
      back at ((at + length bytes) - at) out p count ∙ ap (put out at) is ∙ sym (placed_put room)

-- in a row of such writers, each goes on where the one before it ended; there is room for all of it
pub next : {w out₀ : List ℕ} {a : ℕ} {out : List ℕ} {i : ℕ} {left : List ℕ} (p : List ℕ) {m : List ℕ} {r : ℕ} → a + length w ≤ length out₀
    → Storing w out₀ a out i (p ++ left) → (r ≡ place_after out i p) × (m ≡ placed out i p) → Storing w out₀ a m r left
next {w} {out₀} {a} {out} {i} {left} p room s e =
    let inside : i + length p ≤ length out = omega (arith, s.count, s.size, length-append p left) in
    let (place, written) = fits out i p inside e in
    rw (place, written) (store_all p s inside)

-- the last of them
pub last : {w out₀ : List ℕ} {a : ℕ} {out : List ℕ} {i : ℕ} (p : List ℕ) {m : List ℕ} {r : ℕ} → a + length w ≤ length out₀
    → Storing w out₀ a out i p → (r ≡ place_after out i p) × (m ≡ placed out i p) → (r ≡ a + length w) × (m ≡ put out₀ a w)
last p room s e = stored (next p room (rw (sym (append-nil p)) at s) e) refl

-- bytes at the front of a text: how many there are, that they can be taken from it, and the text
pub at_front : (text p : List ℕ) {n : ℕ} {after : List ℕ} → length p ≤ length text → n ≡ length p → after ≡ put text 0 p
    → (n ≡ length p) × (((n ≤ length after) × (n ≡ length (take n after))) × ((take n after ≡ p) × (after ≡ put text 0 p)))
at_front text p {n} {after} room count is =
    let size : length after ≡ length text = ap length is ∙ put_length text p 0 (omega arith) in
    let front : take n after ≡ p = ap₂ take count is ∙ part_put_same text p 0 (omega arith) (length p) refl in
    (count, ((omega arith, count ∙ sym (ap length front)), (front, is)))
