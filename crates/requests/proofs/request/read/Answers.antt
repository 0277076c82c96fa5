-- `requests::request::read`: what the numbers make.
-- Assumes nothing.
use Rattle.std.proofs.Common.{◌≡◌, ◌∙◌, rules}
use Rattle.formats.specs.Answer.{refused}
use Rattle.formats.specs.Refusal.{number_of, answer_of}
use Rattle.requests.specs.Request.{read_request, request_values}
use Rattle.requests.proofs.request.AsNumbers.{made_from, refused_from}
use Rattle.requests.proofs.request.read.Goals as goal

pub returns-in_err-n : goal.returns-in_err-n
returns-in_err-n c =
    let w = number_of c.in_err-n.field-0.0 in
    let e : answer_of request_values c.from_residual.result ≡ refused w = search rules in
    e ∙ refused_from (read_request c.args.s.now) c.in_err-n.ensures.answer

pub returns : goal.returns
returns c =
    let told = c.in_ok-n.ensures in
    rw c.request_of.ensures (made_from _ _ (read_request c.args.s.now) told.answer told.kind_told told.values_told)
