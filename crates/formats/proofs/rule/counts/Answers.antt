-- `formats::rule::counts` meets its contract.
-- Assumes nothing.
use Prim.Native.Nat.{ℕ, ◌+◌, ◌*◌, ◌%◌, ◌^◌, ◌<◌}
use mathlib.Core.Path.{◌≡◌, ap₂, ◌∙◌}
use native.Mathlib.Omega.{arith}
use lib.Bits.{bit_or, or_shifted}
use lib.Pow.{shl_exact}
use Rattle.formats.proofs.Bits.{low_one, low_four}
use Rattle.formats.proofs.rule.counts.Goals as goal

-- three fields side by side
beside : (t r p : ℕ) → t < 2 → r < 16 → p < 16
    → bit_or (bit_or (t * 2 ^ 63 % 2 ^ 64) (r * 2 ^ 52 % 2 ^ 64)) (p * 2 ^ 48 % 2 ^ 64) ≡ (t * 32768 + r * 16 + p) * 2 ^ 48
beside t r p ht hr hp =
    let low : r * 2 ^ 52 < 2 ^ 63 = omega arith in
    let e : t * 2 ^ 63 + r * 2 ^ 52 ≡ (t * 2048 + r) * 2 ^ 52 = omega arith in
    ap₂ bit_or
    (ap₂ bit_or (shl_exact 1 63 64 ht (omega arith)) (shl_exact 4 52 64 hr (omega arith)) ∙ or_shifted t 63 (r * 2 ^ 52) low ∙ e)
    (shl_exact 4 48 64 hp (omega arith))
    ∙ or_shifted (t * 2048 + r) 52 (p * 2 ^ 48) (omega arith)
    ∙ omega arith

pub returns : goal.returns
returns c =
    let f = c.args.facts in
    rw (low_one f.trigger, low_four f.rights, low_four f.permits)
    (beside (f.trigger % 2) (f.rights % 16) (f.permits % 16) (omega arith) (omega arith) (omega arith))
