-- `formats::row::facts` meets its contract: each fact is read from its place, each key from its eight bytes without the last.
-- Assumes nothing.
use Prim.Native.Nat.{ℕ, ◌/◌}
use mathlib.Core.Path.{ap, ◌∙◌}
use native.Mathlib.Omega.{arith}
use Rattle.formats.specs.Row.{facts_of}
use Rattle.formats.specs.Bytes.{Bytes}
use Rattle.formats.proofs.facts.Laws.{facts_same}
use Rattle.formats.proofs.row.Laws.{key_of_eight}
use Rattle.formats.proofs.row.facts.Goals as goal

pub returns : goal.returns
unfolding facts_of
returns c =
    let row = c.args.row.now in
    let byte : Bytes row = λ i. (c.type_inv.row i).fits in
    facts_same c.from.ensures c.from-2.ensures c.from-3.ensures c.from-4.ensures
    (ap (λ (n : ℕ). n / 256) c.read_at.ensures ∙ key_of_eight 8 row byte (omega arith))
    (ap (λ (n : ℕ). n / 256) c.read_at-2.ensures ∙ key_of_eight 16 row byte (omega arith))
