-- `music_counter::write_title` meets its contract.
-- Assumes nothing.
use Prim.Native.Nat.{ℕ, ◌*◌}
use mathlib.Core.List.{List}
use native.Mathlib.Omega.{arith}
use Rattle.formats.specs.Title.{title_half}
use Rattle.formats.proofs.title.Laws.{length_title_half}
use Rattle.music_counter.proofs.Places.{placed}
use Rattle.music_counter.proofs.write_title.Goals as goal

pub returns : goal.returns
returns c =
    let a = c.args in
    placed (16 * a.entry.0) 16 a.titles.now (λ (p : List ℕ). title_half a.cci a.key a.content.0) (omega arith) (λ p e. length_title_half a.cci a.key a.content.0) c.write.ensures
