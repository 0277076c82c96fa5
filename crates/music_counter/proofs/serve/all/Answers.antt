-- `music_counter::serve::all` meets its contract: what is unread shrinks, and what was read is carried out and noted.
-- Assumes nothing.
use Rattle.std.proofs.Common.{◌≡◌, ap, arith, length}
use Rattle.std.proofs.lemmas.Result.{MatchResult-at_err}
use Rattle.formats.specs.Refusal.{answer_number}
use Rattle.music_counter.proofs.Serving.{start, finished, faulted, fewer, served}
use Rattle.music_counter.proofs.serve.all.Goals as goal

pub loop-rest-init : goal.loop-rest-init
loop-rest-init c = start _ _ _ _

pub returns-in_default : goal.returns-in_default
returns-in_default c =
    let some : length c.loop-rest.rest.now ≡ 0 → ⊥ = grind arith in
    faulted c.loop-rest.invariant _ c.read-found.ensures some c.in_default.is c.map.result
    (ap answer_number (MatchResult-at_err _ _ _ c.in_default.is c.map.ensures.cases))

pub loop-rest-smaller : goal.loop-rest-smaller
loop-rest-smaller c = fewer c.loop-rest.invariant _ c.read-found.ensures c.in-Ok.is c.remainder-rest.ensures

pub loop-rest-preserved : goal.loop-rest-preserved
loop-rest-preserved c =
    served c.loop-rest.invariant _ c.read-found.ensures c.in-Ok.is c.remainder-rest.ensures (rw c.number-answer.ensures c.perform.ensures)
    c.kind-kind.ensures c.put_note.ensures

pub returns : goal.returns
returns c = finished c.loop-rest.invariant (grind arith)
