-- `formats::half::key` meets its contract.
-- Assumes nothing.
use Prim.Native.Nat.{◌≤◌}
use mathlib.Core.Path.{◌∙◌}
use native.Mathlib.Omega.{arith}
use lib.Bits.{and_mask}
use lib.ListN.{length}
use Rattle.formats.proofs.field.Laws.{number_first, number_below}
use Rattle.formats.proofs.half.key.Goals as goal

pub returns : goal.returns
returns c =
    let h = c.args.half.now in
    let whole : 8 ≤ length h = c.if-half-lt8.false in
    and_mask c.read_at-2.result 56
    ∙ omega (arith, c.read_at-2.ensures, number_first 7 0 h whole, number_below 7 1 h (λ i. (c.type_inv.half i).fits) whole)
