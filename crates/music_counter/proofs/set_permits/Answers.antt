-- `music_counter::set_permits` meets its contract.
-- Assumes nothing.
use Prim.Native.Nat.{ℕ, ◌*◌}
use mathlib.Core.List.{List}
use native.Mathlib.Omega.{arith}
use Rattle.formats.specs.Row.{with_permits}
use Rattle.formats.proofs.row.Laws.{permits_length}
use Rattle.music_counter.proofs.Places.{placed}
use Rattle.music_counter.proofs.set_permits.Goals as goal

pub returns : goal.returns
returns c =
    let a = c.args in
    placed (24 * a.content.0) 24 a.ledger.now (λ (p : List ℕ). with_permits p a.permits) (omega arith) (λ p e. permits_length p a.permits e) c.write_permits.ensures
