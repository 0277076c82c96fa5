-- `formats::half::names_spent` meets its contract.
-- Assumes nothing.
use Rattle.std.proofs.Common.{ℕ, ◌+◌, ◌^◌, ◌∙◌, sym, ap, bit_and}
use Rattle.formats.specs.Facts.{numbered}
use Rattle.formats.proofs.half.Laws.{cut_unnamed, tail_named}
use Rattle.formats.proofs.half.names_spent.Goals as goal

pub returns-then-half-lt16 : goal.returns-then-half-lt16
returns-then-half-lt16 c = sym (cut_unnamed c.args.half.now c.if-half-lt16.true)

pub returns : goal.returns
returns c =
    c.is_numbered.ensures
    ∙ ap (λ (w : ℕ). numbered (bit_and w (2 ^ 63 + 1023))) c.read_at.ensures
    ∙ tail_named c.args.half.now (λ i. (c.type_inv.half i).fits) c.if-half-lt16.false
