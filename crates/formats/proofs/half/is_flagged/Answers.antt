-- `formats::half::is_flagged` meets its contract.
-- Assumes nothing.
use Prim.Native.Nat.{ℕ, ◌+◌, ◌^◌}
use mathlib.Core.Path.{sym, ap, ap₂, ◌∙◌}
use native.Mathlib.Omega.{arith}
use lib.Bits.{bit_and, or_shifted}
use lib.Dec.{eqb}
use Rattle.formats.proofs.facts.Laws.{numbered_range}
use Rattle.std.specs.Int.{w64, swap_bytes}
use Rattle.formats.specs.Field.{bytes_of}
use Rattle.formats.proofs.field.Laws.{little, swapped}
use Rattle.formats.proofs.half.Laws.{cut_short, without_use, not_numbered, at_once}
use Rattle.formats.proofs.half.is_flagged.Goals as goal

pub returns-then-half-lt16 : goal.returns-then-half-lt16
returns-then-half-lt16 c = without_use c.args.content.0 c.args.half.now (cut_short c.args.half.now c.if-half-lt16.true)

pub returns-then-not-is_numbered : goal.returns-then-not-is_numbered
returns-then-not-is_numbered c = not_numbered _ _ (sym c.is_numbered.ensures ∙ c.if-not-is_numbered.true)

pub returns : goal.returns
returns c =
    let id = c.args.content.0 in
    let (some, few) = numbered_range id (sym c.is_numbered.ensures ∙ c.if-not-is_numbered.false) in
    ap₂ (λ (x y : ℕ). eqb (bit_and x 0xff03000000000080) y)
    (c.swap_bytes-tail.ensures ∙ swapped c.read_at.result ∙ ap (λ (w : ℕ). little (bytes_of 8 w)) c.read_at.ensures)
    (c.swap_bytes.ensures ∙ ap (swap_bytes w64) (or_shifted 1 63 id (omega (arith, few))) ∙ swapped (2 ^ 63 + id))
    ∙ at_once id c.args.half.now (λ i. (c.type_inv.half i).fits) c.if-half-lt16.false some few
