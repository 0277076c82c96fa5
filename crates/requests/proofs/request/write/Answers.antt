-- `requests::request::write`: the numbers of a request make that request again.
-- Assumes nothing.
use Rattle.std.proofs.Common.{◌∙◌, ap}
use Rattle.requests.specs.Number.{written_answer}
use Rattle.requests.proofs.request.AsNumbers.{held_writes}
use Rattle.requests.proofs.request.write.Goals as goal

pub returns : goal.returns
returns c =
    let same = held_writes c.numbers_of-numbers.ensures c.args.out.now in
    let written = c.write_numbers.ensures in
    record { answer = written.answer ∙ ap written_answer same.0; bytes = written.bytes ∙ same.1 }
