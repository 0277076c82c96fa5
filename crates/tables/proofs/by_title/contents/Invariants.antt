-- The loop of `tables::by_title::contents` has found what the entries before the next one have of each title, and how many are spent.
-- Assumes nothing.
use Rattle.tables.proofs.PerTitle.{Found}
use Rattle.tables.proofs.by_title.contents.Given as goal

abbrev pub invariant-loop-k : goal.invariant-loop-k
invariant-loop-k l = Found l.card.titles.now l.card.rules.now l.k l.found.places l.found.spent
