-- `music_counter::set_here` meets its contract.
-- Assumes nothing.
use Prim.Native.Nat.{ℕ, ◌*◌}
use mathlib.Core.List.{List}
use native.Mathlib.Omega.{arith}
use Rattle.formats.specs.Row.{here_row}
use Rattle.formats.proofs.row.Laws.{here_length}
use Rattle.music_counter.proofs.Places.{placed}
use Rattle.music_counter.proofs.set_here.Goals as goal

pub returns : goal.returns
returns c =
    let a = c.args in
    placed (24 * a.content.0) 24 a.ledger.now (λ (p : List ℕ). here_row a.facts) (omega arith) (λ p e. here_length a.facts) c.write_here.ensures
