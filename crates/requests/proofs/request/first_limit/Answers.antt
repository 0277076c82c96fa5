-- `requests::request::first_limit`: the loop finds no argument past its limit before the one that it stops at.
-- Assumes nothing.
use Rattle.std.proofs.Common.{◌≡◌, ◌∙◌, ap, ap₂, rules}
use Rattle.std.specs.Slice.Iter.{iter_rest}
use Rattle.std.proofs.lemmas.Slice.Zip.{Zip-more, either_empty_from_Zip}
use Rattle.formats.specs.Refusal.{answer_number, number_of}
use Rattle.requests.specs.Request.{first_limit}
use Rattle.requests.proofs.request.Loops.{limit_kept, limit_met, limit_none}
use Rattle.requests.proofs.request.first_limit.Goals as goal

pub loop-argument-init : goal.loop-argument-init
loop-argument-init c =
    let zip = c.zip-argument-items.ensures in
    rw c.into_iter-argument-iterator.ensures.into_iter_gives
    (ap₂ first_limit (ap iter_rest zip.first ∙ c.iter.ensures.rest ∙ c.schema.ensures) zip.second.0)

pub loop-argument-preserved : goal.loop-argument-preserved
loop-argument-preserved c =
    limit_kept c.loop-argument.invariant (Zip-more c.loop-argument.argument-iterator c.next.new.self _ _ c.in-Some.is c.next.ensures.steps) c.in_ok-limit.ensures

pub returns-in_err-limit : goal.returns-in_err-limit
returns-in_err-limit c =
    let e : answer_number c.from_residual.result ≡ number_of c.in_err-limit.field-0.0 = search rules in
    e
    ∙ limit_met c.loop-argument.invariant (Zip-more c.loop-argument.argument-iterator c.next.new.self _ _ c.in-Some.is c.next.ensures.steps) c.in_err-limit.field-0.0
    c.in_err-limit.ensures

pub returns : goal.returns
returns c =
    limit_none c.loop-argument.invariant (either_empty_from_Zip c.loop-argument.argument-iterator c.next.new.self _ c.in-None.is c.next.ensures.steps)
