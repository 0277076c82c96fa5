-- `requests::request::limit`: the first limit that a request meets is that of its numbers.
-- Assumes nothing.
use Rattle.std.proofs.Common.{◌∙◌}
use Rattle.requests.proofs.request.AsNumbers.{held_limit}
use Rattle.requests.proofs.request.limit.Goals as goal

pub returns : goal.returns
returns c = c.first_limit.ensures ∙ held_limit c.numbers_of-numbers.ensures
