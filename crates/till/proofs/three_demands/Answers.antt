-- `till::three_demands` promises what is proved of the definitions.
-- Assumes nothing.
use Rattle.till.proofs.Demands.{demands}
use Rattle.till.proofs.three_demands.Goals as goal

pub returns : goal.returns
returns c = demands
