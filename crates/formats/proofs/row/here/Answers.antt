-- `formats::row::here` meets its contract: the bytes lie side by side in a word.
-- Assumes nothing.
use Rattle.formats.proofs.row.Laws.{first_bytes}
use Rattle.formats.proofs.row.here.Goals as goal

pub returns : goal.returns
returns c = let f = c.args.facts in first_bytes f.cci f.trigger f.rights f.permits
