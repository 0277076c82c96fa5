-- `music_counter::set_plain` meets its contract.
-- Assumes nothing.
use Prim.Native.Nat.{ℕ, ◌*◌}
use mathlib.Core.List.{List}
use native.Mathlib.Omega.{arith}
use Rattle.formats.specs.Row.{plain_row}
use Rattle.formats.proofs.row.Laws.{plain_length}
use Rattle.music_counter.proofs.Places.{placed}
use Rattle.music_counter.proofs.set_plain.Goals as goal

pub returns : goal.returns
returns c =
    let a = c.args in
    placed (24 * a.content.0) 24 a.ledger.now (λ (p : List ℕ). plain_row a.state) (omega arith) (λ p e. plain_length a.state) c.write_plain.ensures
