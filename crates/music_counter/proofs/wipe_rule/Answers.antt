-- `music_counter::wipe_rule` meets its contract.
-- Assumes nothing.
use Prim.Native.Nat.{ℕ, ◌*◌}
use mathlib.Core.Path.{◌∙◌}
use mathlib.Core.List.{List}
use native.Mathlib.Omega.{arith}
use Rattle.formats.specs.Rule.{wiped_rule}
use Rattle.formats.proofs.rule.Laws.{wiped_rule_length}
use Rattle.music_counter.proofs.Places.{placed}
use Rattle.music_counter.proofs.wipe_rule.Goals as goal

pub returns : goal.returns
returns c =
    let a = c.args in
    placed (32 * a.entry.0) 32 a.rules.now (λ (p : List ℕ). wiped_rule p a.fillers) (omega arith) (λ p e. wiped_rule_length p a.fillers e ∙ e) c.wipe.ensures
