-- `requests::number::len`: what the table holds at the count of leading zeros.
-- Assumes nothing.
use Rattle.std.proofs.Common.{◌∙◌, arith}
use Rattle.requests.proofs.number.Lengths.{at_leading_zeros, at_most_ten}
use Rattle.requests.proofs.number.len.Goals as goal

pub returns-clause-count : goal.returns-clause-count
returns-clause-count c = c.from.ensures ∙ at_leading_zeros c.args.x c.ranges.x.fits

pub returns-clause-at_most_ten : goal.returns-clause-at_most_ten
returns-clause-at_most_ten c = omega (arith, c.from.ensures, at_leading_zeros c.args.x c.ranges.x.fits, at_most_ten c.args.x c.ranges.x.fits)
