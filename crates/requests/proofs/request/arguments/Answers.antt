-- `requests::request::arguments`: a kind has at most nine arguments.
-- Assumes nothing.
use Rattle.std.proofs.Common.{ap, length, arith}
use Rattle.requests.proofs.request.Loops.{schema_size}
use Rattle.requests.proofs.request.arguments.Goals as goal

pub shared_ref_as_front-result : goal.shared_ref_as_front-result
shared_ref_as_front-result c = omega (arith, schema_size c.args.kind, ap length c.schema.ensures)
