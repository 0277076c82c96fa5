-- The lines of the rows before the next one stand at the front, and the sums are what these rows add.
-- Assumes nothing.
use mathlib.Core.Path.{◌≡◌}
use Rattle.formats.specs.Head.{rows_of}
use Rattle.tables.specs.ByTitle.{spent_entries}
use Rattle.tables.specs.Shop.{lent}
use Rattle.closing_sheet.proofs.sheet.Laws.{Added, Written}
use Rattle.closing_sheet.proofs.sheet.Sheet.write_rows.Given as goal

abbrev pub invariant-loop-k : goal.invariant-loop-k
invariant-loop-k l =
    record {
      added : Added (lent l.self.shop) l.k l.sums.permits l.sums.copies;
      spent : l.sums.spent ≡ spent_entries l.self.shop.card.titles.now l.self.shop.card.rules.now;
      written : Written (lent l.self.shop) (rows_of l.self.shop.ledger.now) l.fn.text.out.now l.text.out.now l.text.at l.k;
      name : l.text.out.ghost_name ≡ l.fn.text.out.ghost_name;
    }
