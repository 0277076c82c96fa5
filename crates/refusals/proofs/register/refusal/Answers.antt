-- `refusals::register::refusal` meets its contract, whatever the card is: arguments, the ledger's head, then the row.
-- Assumes nothing.
use Rattle.std.proofs.Common.{ℕ, ◌≡◌, List, [], ◌∷◌, refl, arith}
use Rattle.formats.specs.Head.{ledger_passes, ledger_answer}
use Rattle.calls.specs.Refusal.{◌unless◌, first}
use Rattle.calls.proofs.Refusals.{answers_last}
use Rattle.refusals.proofs.Stages.{by_state, exit_arguments, exit_heads}
use Rattle.refusals.proofs.register.refusal.Goals as goal

-- the ledger's head is all that it tests of heads
ledger_head : {w : ℕ} (l : List ℕ) → w ≡ ledger_answer l → w ≡ first (7 unless ledger_passes l ∷ [])
ledger_head l = answers_last 7 (ledger_passes l)

pub returns-in_err-arguments : goal.returns-in_err-arguments
returns-in_err-arguments c pair titles rules = exit_arguments _ _ _ _ _ c.from_residual.ensures.1 c.in_err-arguments.ensures

pub returns-in_err-check_ledger : goal.returns-in_err-check_ledger
returns-in_err-check_ledger c pair titles rules =
    exit_heads _ _ _ _ _ c.from_residual-in_err-check_ledger.ensures.1 c.in_ok-arguments.ensures (ledger_head _ c.in_err-check_ledger.ensures)

pub returns-in_default : goal.returns-in_default
unfolding first
returns-in_default c pair titles rules =
    by_state _ _ _ c.in_ok-arguments.ensures refl (ledger_head _ c.in_ok-check_ledger.ensures) refl (grind arith)

pub returns : goal.returns
unfolding first
returns c pair titles rules =
    by_state _ _ _ c.in_ok-arguments.ensures refl (ledger_head _ c.in_ok-check_ledger.ensures) refl (grind arith)
