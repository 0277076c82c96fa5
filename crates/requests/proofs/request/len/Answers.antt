-- `requests::request::len`: a request has as many bytes as its numbers.
-- Assumes nothing.
use Rattle.std.proofs.Common.{◌∙◌, ap, length}
use Rattle.requests.proofs.request.AsNumbers.{held_written}
use Rattle.requests.proofs.request.len.Goals as goal

pub returns : goal.returns
returns c = c.written_len.ensures ∙ ap length (held_written c.numbers_of-numbers.ensures)
