-- `formats::row::write_permits` meets its contract.
-- Assumes nothing.
use Prim.Native.Nat.{ℕ}
use mathlib.Core.Path.{sym, ap, ◌∙◌}
use mathlib.Core.List.{[], ◌∷◌}
use native.Mathlib.Omega.{arith}
use Rattle.formats.specs.Part.{put}
use Rattle.formats.specs.Row.{with_permits}
use Rattle.formats.proofs.Part.{set_put, replaced_whole}
use Rattle.formats.proofs.row.write_permits.Goals as goal

pub returns : goal.returns
unfolding with_permits
returns c =
    let row = c.args.row.now in
    set_put row 4 c.low_byte.result (omega arith)
    ∙ ap (λ (b : ℕ). put row 4 (b ∷ [])) c.low_byte.ensures
    ∙ sym (replaced_whole 24 (with_permits row c.args.permits) row c.if-row-ne24.false)
