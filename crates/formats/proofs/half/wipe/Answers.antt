-- `formats::half::wipe` meets its contract: the flag's byte, stored first, and the field before it are one put.
-- Assumes nothing.
use Prim.Native.Nat.{ℕ, ◌+◌, ◌≤◌}
use mathlib.Core.Path.{◌≡◌, sym, ap, ◌∙◌}
use mathlib.Core.List.{List, [], ◌∷◌, ◌++◌}
use native.Mathlib.Omega.{arith}
use lib.Bits.{bit_and}
use lib.ListN.{length, set, get_or, length-set}
use Rattle.formats.specs.Part.{put}
use Rattle.formats.specs.Field.{bytes_of}
use Rattle.formats.specs.Half.{wiped}
use Rattle.formats.proofs.Bits.{low_seven}
use Rattle.formats.proofs.Part.{set_put, puts_apart, put_next}
use Rattle.formats.proofs.Writes.{wrote_start, wrote_field}
use Rattle.formats.proofs.field.Laws.{length_bytes_of}
use Rattle.formats.proofs.half.Laws.{changed_half_lem}
use Rattle.formats.proofs.half.wipe.Goals as goal

-- the byte after the field, stored before it is filled
cleared : (h : List ℕ) (f v : ℕ) → 16 ≤ length h → put (set h 8 v) 0 (bytes_of 8 f) ≡ put h 0 (bytes_of 8 f ++ (v ∷ []))
cleared h f v size =
    let n = length_bytes_of 8 f in
    let e : 8 ≡ 0 + length (bytes_of 8 f) = omega arith in
    rw (set_put h 8 v (omega arith))
    (sym (puts_apart h (bytes_of 8 f) (v ∷ []) 0 8 (omega arith) (omega arith))
    ∙ ap (λ (a : ℕ). put (put h 0 (bytes_of 8 f)) a (v ∷ [])) e
    ∙ put_next h (bytes_of 8 f) (v ∷ []) 0 (omega arith))

pub returns : goal.returns
unfolding wiped
returns c =
    let h = c.args.half.now in
    let f = c.args.filler in
    let v = bit_and (get_or h 8 0) 127 in
    let room : 8 ≤ length (set h 8 v) = simp length-set (omega arith) in
    (wrote_field 8 f (wrote_start 0 (set h 8 v) (omega arith)) room c.write.ensures).is
    ∙ cleared h f v (omega arith)
    ∙ ap (λ (z : ℕ). put h 0 (bytes_of 8 f ++ (z ∷ []))) (low_seven (get_or h 8 0))
    ∙ sym (changed_half_lem (wiped h f) h (omega arith))
