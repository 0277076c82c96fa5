-- `formats::head::check_ledger` meets its contract.
-- Assumes nothing.
use mathlib.Core.Path.{sym, ◌∙◌}
use mathlib.Core.Bool.{true≢false}
use native.Mathlib.Omega.{arith}
use Rattle.formats.proofs.Tests.{passes}
use Rattle.formats.proofs.facts.Laws.{numbered_range, range_numbered}
use Rattle.formats.proofs.head.Laws.{ledger_passes_lem, ledger_refused}
use Rattle.formats.proofs.head.check_ledger.Goals as goal

pub returns-then-ledger-lt24 : goal.returns-then-ledger-lt24
returns-then-ledger-lt24 c = ledger_refused (λ h. omega arith)

pub returns-then-not-is_numbered : goal.returns-then-not-is_numbered
returns-then-not-is_numbered c =
    ledger_refused (λ h. true≢false (sym (rw c.rows-rows.ensures (range_numbered h.low h.high)) ∙ sym c.is_numbered.ensures ∙ c.if-not-is_numbered.true))

pub returns-then-ledger-rows : goal.returns-then-ledger-rows
returns-then-ledger-rows c = ledger_refused (λ h. omega arith)

pub returns : goal.returns
returns c =
    let (low, high) = numbered_range c.rows-rows.result (sym c.is_numbered.ensures ∙ c.if-not-is_numbered.false) in
    passes 7 (ledger_passes_lem (record { low = omega arith; high = omega arith; size = omega arith }))
