-- What the rows before the next one add, and how long their lines are.
-- Assumes nothing.
use mathlib.Core.Path.{◌≡◌}
use Rattle.tables.specs.ByTitle.{spent_entries}
use Rattle.tables.specs.Shop.{lent}
use Rattle.closing_sheet.proofs.sheet.Laws.{Added, Measured}
use Rattle.closing_sheet.proofs.sheet.Sheet.summary.Given as goal

abbrev pub invariant-loop-k : goal.invariant-loop-k
invariant-loop-k l =
    record {
      added : Added (lent l.self.shop) l.k l.sums.permits l.sums.copies;
      spent : l.sums.spent ≡ spent_entries l.self.shop.card.titles.now l.self.shop.card.rules.now;
      measured : Measured (lent l.self.shop) l.k l.len;
    }
