-- `formats::half::usable` meets its contract.
-- Assumes nothing.
use Rattle.std.proofs.Common.{ℕ, ◌+◌, ◌^◌, ◌∙◌, sym, ap, bit_and}
use lib.Dec.{ltb}
use Rattle.formats.proofs.half.Laws.{cut_short, tail_usable}
use Rattle.formats.proofs.half.usable.Goals as goal

pub returns-then-half-lt16 : goal.returns-then-half-lt16
returns-then-half-lt16 c = sym (cut_short c.args.half.now c.if-half-lt16.true)

pub returns : goal.returns
returns c =
    ap (λ (w : ℕ). ltb (2 ^ 63) (bit_and w (2 ^ 63 + 1023))) c.read_at.ensures
    ∙ tail_usable c.args.half.now (λ i. (c.type_inv.half i).fits) c.if-half-lt16.false
