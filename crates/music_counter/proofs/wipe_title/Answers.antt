-- `music_counter::wipe_title` meets its contract.
-- Assumes nothing.
use Prim.Native.Nat.{ℕ, ◌*◌}
use mathlib.Core.Path.{◌∙◌}
use mathlib.Core.List.{List}
use native.Mathlib.Omega.{arith}
use Rattle.formats.specs.Half.{wiped}
use Rattle.formats.proofs.half.Laws.{wiped_length}
use Rattle.music_counter.proofs.Places.{placed}
use Rattle.music_counter.proofs.wipe_title.Goals as goal

pub returns : goal.returns
returns c =
    let a = c.args in
    placed (16 * a.entry.0) 16 a.titles.now (λ (p : List ℕ). wiped p a.f1) (omega arith) (λ p e. wiped_length p a.f1 (omega (arith, e)) ∙ e) c.wipe.ensures
