-- A writer that was lent one place of a table leaves the table with that place put anew.
-- Assumes nothing.
use Prim.Native.Nat.{ℕ, ◌+◌, ◌-◌, ◌≤◌}
use mathlib.Core.Path.{◌≡◌, ap, ◌∙◌}
use mathlib.Core.List.{List}
use native.Mathlib.Omega.{arith}
use lib.ListN.{length, take, drop}
use borrow.Rule.Slice.PartMut.{put_mid}
use Rattle.formats.specs.Part.{part, put, replaced}
use Rattle.formats.proofs.Part.{lent, back, replaced_whole, part_length}

-- the place is the n bytes from a on, lent as `&mut l[a..a + n]`, and `new` is what the writer makes of what stands there
pub placed : (a n : ℕ) (l : List ℕ) (new : List ℕ → List ℕ) {q : List ℕ} → a + n ≤ length l → ((p : List ℕ) → length p ≡ n → length (new p) ≡ n)
    → q ≡ replaced n (new (take ((a + n) - a) (drop a l))) (take ((a + n) - a) (drop a l))
    → put_mid a ((a + n) - a) l q ≡ put l a (new (part l a n))
placed a n l new {q} within size e =
    let (same, long) = lent a n l within in
    let wrote : q ≡ new (part l a n) = e ∙ replaced_whole n (new (take ((a + n) - a) (drop a l))) (take ((a + n) - a) (drop a l)) long ∙ ap new same in
    let width : (a + n) - a ≡ n = omega arith in
    ap (λ (k : ℕ). put_mid a k l q) width ∙ ap (put_mid a n l) wrote ∙ back a n l (new (part l a n)) (size (part l a n) (part_length a n l within))
