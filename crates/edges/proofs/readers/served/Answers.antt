-- `edges::readers::served` meets its contract: formatting leaves a fresh ledger and card, on which the requests are served.
-- Assumes nothing.
use mathlib.Core.Path.{refl}
use native.Mathlib.Omega.{arith}
use Rattle.music_counter.proofs.Formatted.{served_fresh}
use Rattle.edges.proofs.readers.served.Goals as goal

pub returns : goal.returns
returns c =
    served_fresh c.args.pair 4 refl _ _ _ (omega arith) (omega arith) (omega arith) c.format_ledger.ensures.ledger_formatted
    c.format_card.ensures.titles_formatted c.format_card.ensures.rules_formatted c.all.ensures
