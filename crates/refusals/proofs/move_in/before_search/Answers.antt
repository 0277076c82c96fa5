-- `refusals::move_in::before_search` meets its contract: arguments and heads, then the state as far as 12.
-- Assumes nothing.
use Rattle.std.proofs.Common.{refl}
use Rattle.requests.specs.declared.request.Request.TheVariants.{MoveIn}
use Rattle.calls.specs.Refusal.{tested_before}
use Rattle.calls.specs.Conditions.{state_conditions, conditions}
use Rattle.tables.specs.Shop.{lent}
use Rattle.refusals.proofs.Stages.{exit_early, next_after}
use Rattle.refusals.proofs.move_in.before_search.Goals as goal

pub returns-in_err-before_both : goal.returns-in_err-before_both
unfolding conditions
returns-in_err-before_both c hash =
    let a = c.args in
    let k = MoveIn a.content a.entry hash in
    exit_early a.pair k (lent a.shop) _ _ c.from_residual.ensures.1 (tested_before 14 (state_conditions a.pair k (lent a.shop))) c.in_err-before_both.ensures

pub returns : goal.returns
unfolding conditions
returns c hash =
    let a = c.args in
    let k = MoveIn a.content a.entry hash in
    next_after a.pair k (lent a.shop) (tested_before 14 (state_conditions a.pair k (lent a.shop))) c.in_ok-before_both.ensures refl (c.state.ensures a.pair hash)
