-- `music_counter::write_rule` meets its contract.
-- Assumes nothing.
use Prim.Native.Nat.{ℕ, ◌*◌}
use mathlib.Core.List.{List}
use native.Mathlib.Omega.{arith}
use Rattle.formats.specs.Rule.{rule_half}
use Rattle.formats.proofs.rule.Laws.{length_rule_half}
use Rattle.music_counter.proofs.Places.{placed}
use Rattle.music_counter.proofs.write_rule.Goals as goal

pub returns : goal.returns
returns c =
    let a = c.args in
    placed (32 * a.entry.0) 32 a.rules.now (λ (p : List ℕ). rule_half a.facts a.hash a.content.0) (omega arith) (λ p e. length_rule_half a.facts a.hash a.content.0) c.write.ensures
