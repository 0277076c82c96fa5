-- `refusals::record::refusal` meets its contract: arguments, heads, then the state.
-- Assumes nothing.
use Rattle.std.proofs.Common.{refl}
use Rattle.refusals.proofs.Stages.{by_state, exit_arguments, exit_heads}
use Rattle.refusals.proofs.record.refusal.Goals as goal

pub returns-in_err-arguments : goal.returns-in_err-arguments
returns-in_err-arguments c hash = exit_arguments _ _ _ _ _ c.from_residual.ensures.1 (c.in_err-arguments.ensures hash)

pub returns-in_err-check_heads : goal.returns-in_err-check_heads
returns-in_err-check_heads c hash =
    exit_heads _ _ _ _ _ c.from_residual-in_err-check_heads.ensures.1 (c.in_ok-arguments.ensures hash) c.in_err-check_heads.ensures

pub returns : goal.returns
returns c hash =
    by_state c.args.pair _ _ (c.in_ok-arguments.ensures hash) refl c.in_ok-check_heads.ensures refl
    (c.state.ensures c.args.pair c.args.facts hash)
