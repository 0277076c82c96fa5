-- `music_counter::serve::from_fresh` meets its contract: formatting leaves a fresh ledger and card, on which the stream is served.
-- Assumes nothing.
use mathlib.Core.Path.{refl}
use native.Mathlib.Omega.{arith}
use Rattle.formats.specs.declared.head.Pair.TheVariants.{Audio}
use Rattle.music_counter.proofs.Formatted.{served_fresh}
use Rattle.music_counter.proofs.serve.from_fresh.Goals as goal

pub returns-clause-serves : goal.returns-clause-serves
returns-clause-serves c =
    served_fresh Audio 64 refl _ _ _ (omega arith) (omega arith) (omega arith) c.format_ledger.ensures.ledger_formatted
    c.format_card.ensures.titles_formatted c.format_card.ensures.rules_formatted c.all.ensures
