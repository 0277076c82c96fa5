-- A buffer that is written from its front on and cleared behind that.
-- Assumes nothing.
use Prim.Native.Nat.{ℕ, ◌-◌}
use mathlib.Core.Path.{◌≡◌, ◌∙◌}
use mathlib.Core.List.{List, ◌++◌}
use native.Mathlib.Omega.{arith}
use lib.ListN.{length, replicate, length-append, length-replicate}
use borrow.Rule.Slice.PartMut.{put_mid}
use Rattle.formats.specs.Part.{part}
use Rattle.formats.proofs.Part.{part_length, put_whole, back}
use Rattle.formats.proofs.Writes.{Wrote, wrote_size, wrote_next}

-- the bytes p stand at its front up to place e, and zeros were left in all that was lent behind them
pub cleared_behind : {before p now : List ℕ} {e : ℕ} {q : List ℕ} → Wrote 0 before p now e → q ≡ replicate (length (part now e (length now - e))) 0
    → put_mid e (length now - e) now q ≡ p ++ replicate (length before - e) 0
cleared_behind {before} {p} {now} {e} {q} w zeros =
    let size = wrote_size w in
    let room = w.room in
    let end = w.end in
    let n : length (part now e (length now - e)) ≡ length now - e = part_length e (length now - e) now (omega arith) in
    let m : length now - e ≡ length before - e = omega arith in
    let k : length (replicate {A = ℕ} (length before - e) 0) ≡ length before - e = length-replicate (length before - e) 0 in
    rw (zeros, n, m, back e (length before - e) now (replicate (length before - e) 0) k)
    ((wrote_next (replicate (length before - e) 0) (length before - e) k w (omega arith)).is
    ∙ put_whole before (p ++ replicate (length before - e) 0) (omega (arith, length-append p (replicate (length before - e) 0))))
