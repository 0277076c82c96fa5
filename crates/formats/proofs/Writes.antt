-- A slice that is written from place b on, by stores and by fields that are lent, each where the last one ended.
-- Assumes nothing.
use Prim.Native.Nat.{ℕ, ◌+◌, ◌≤◌, ◌<◌}
use mathlib.Core.Path.{◌≡◌, refl, sym, ap, ◌∙◌}
use mathlib.Core.List.{List, [], ◌∷◌, ◌++◌}
use native.Mathlib.Omega.{arith}
use native.Mathlib.Nat.{add-zero}
use lib.ListN.{length, set, length-append, take-append-drop}
use borrow.Rule.Slice.PartMut.{put_mid}
use Rattle.formats.specs.Part.{part, put}
use Rattle.formats.specs.Field.{bytes_of}
use Rattle.formats.proofs.Part.{part_length, put_length, put_next, set_put, back}
use Rattle.formats.proofs.field.Laws.{length_bytes_of}

-- the slice was `before`; the bytes p stand in it from place b up to place e
pub record Wrote (b : ℕ) (before p now : List ℕ) (e : ℕ) : Type 0 where
  pub is : now ≡ put before b p
  pub end : b + length p ≡ e
  pub room : e ≤ length before

-- before the first of them
pub wrote_start : (b : ℕ) (l : List ℕ) → b ≤ length l → Wrote b l [] l b
unfolding put
wrote_start b l h = record { is = simp add-zero (sym (take-append-drop b l)); end = add-zero b; room = h }

-- its length stays
pub wrote_size : {b : ℕ} {before p now : List ℕ} {e : ℕ} → Wrote b before p now e → length now ≡ length before
wrote_size {b} {before} {p} w = ap length w.is ∙ put_length before p b (omega (arith, w.room, w.end))

-- n bytes put at the next place
pub wrote_next : {b : ℕ} {before p now : List ℕ} {e : ℕ} (q : List ℕ) (n : ℕ) → length q ≡ n → Wrote b before p now e → e + n ≤ length before → Wrote b before (p ++ q) (put now e q) (e + n)
wrote_next {b} {before} {p} {now} {e} q n size w h =
    let end = w.end in
    record {
      is = rw (w.is, sym end) (put_next before p q b (omega arith));
      end = rw length-append (omega arith);
      room = h;
    }

-- a store at the next place
pub wrote_byte : {b : ℕ} {before p now : List ℕ} {e : ℕ} (v : ℕ) → Wrote b before p now e → e < length before → Wrote b before (p ++ (v ∷ [])) (set now e v) (e + 1)
wrote_byte {now = now} {e} v w h = rw (set_put now e v (omega (arith, wrote_size w))) (wrote_next (v ∷ []) 1 refl w (omega arith))

-- a field of n bytes, lent from the next place on and filled with x
pub wrote_field : {b : ℕ} {before p now : List ℕ} {e : ℕ} {q : List ℕ} (n x : ℕ) → Wrote b before p now e → e + n ≤ length before
    → q ≡ bytes_of (length (part now e n)) x → Wrote b before (p ++ bytes_of n x) (put_mid e n now q) (e + n)
wrote_field {now = now} {e} n x w h filled =
    rw (filled, part_length e n now (omega (arith, wrote_size w)), back e n now (bytes_of n x) (length_bytes_of n x)) (wrote_next (bytes_of n x) n (length_bytes_of n x) w h)
