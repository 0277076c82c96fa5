-- `tables::format::format_ledger` meets its contract.
-- Assumes nothing.
use Prim.Native.Nat.{◌+◌, ◌-◌, ◌*◌}
use mathlib.Core.Path.{◌≡◌, refl, sym, ◌∙◌}
use native.Mathlib.Omega.{arith}
use borrow.Author.Tests.{eq-eqb}
use lib.ListN.{length}
use Rattle.formats.specs.Field.{bytes_of}
use Rattle.formats.specs.Head.{fresh_ledger}
use Rattle.formats.proofs.Writes.{wrote_start, wrote_field}
use Rattle.formats.proofs.facts.Laws.{numbered_range}
use Rattle.calls.proofs.Refusals.{holds, end, changed}
use Rattle.tables.specs.Format.{ledger_formatting, formatted_ledger}
use Rattle.tables.proofs.Fresh.{cleared_behind}
use Rattle.tables.proofs.format.format_ledger.Goals as goal

pub returns-clause-ledger_formatted : goal.returns-clause-ledger_formatted
unfolding ledger_formatting formatted_ledger fresh_ledger bytes_of
returns-clause-ledger_formatted c =
    let a = c.args in
    let before = a.ledger.now in
    let e = sym c.is_numbered.ensures ∙ c.if-not-is_numbered.false in
    let few = (numbered_range a.rows e).1 in
    let size : length before ≡ 24 * (a.rows + 1) = omega arith in
    let done = holds 4 _ _ e (holds 7 _ _ (eq-eqb _ _ size) end) in
    let w = wrote_field 2 a.application (wrote_start 0 before (omega arith)) (omega arith) (rw c.from.ensures at c.write.ensures) in
    let v = wrote_field 2 a.rows w (omega arith) c.write-2.ensures in
    let n : length before - 4 ≡ 20 + 24 * a.rows = omega arith in
    cleared_behind v (c.fill.ensures.after (λ y e. e)) ∙ rw n (changed _ _ done refl)
