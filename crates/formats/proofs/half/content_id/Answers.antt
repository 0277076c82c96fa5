-- `formats::half::content_id` meets its contract.
-- Assumes nothing.
use Prim.Native.Nat.{ℕ, ◌%◌}
use mathlib.Core.Path.{ap, ◌∙◌}
use lib.Bits.{and_mask}
use Rattle.formats.proofs.half.Laws.{tail_low}
use Rattle.formats.proofs.half.content_id.Goals as goal

pub returns : goal.returns
returns c =
    and_mask c.read_at.result 10
    ∙ ap (λ (x : ℕ). x % 1024) c.read_at.ensures
    ∙ tail_low c.args.half.now (λ i. (c.type_inv.half i).fits) c.if-half-lt16.false
