-- `refusals::delete::refusal` meets its contract: arguments and heads, then the state.
-- Assumes nothing.
use Rattle.std.proofs.Common.{refl}
use Rattle.refusals.proofs.Stages.{exit_before, past_before}
use Rattle.refusals.proofs.delete.refusal.Goals as goal

pub returns-in_err-before_entry-clause-answer : goal.returns-in_err-before_entry-clause-answer
returns-in_err-before_entry-clause-answer c = exit_before _ _ _ _ _ c.from_residual.ensures.1 c.in_err-before_entry.ensures

pub returns-clause-answer : goal.returns-clause-answer
returns-clause-answer c = past_before c.args.pair _ _ c.in_ok-before_entry.ensures refl c.state.ensures.answer
