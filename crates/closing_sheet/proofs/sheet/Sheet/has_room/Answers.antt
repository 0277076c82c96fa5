-- `has_room`: no sheet of bytes is longer than a text with room for any.
-- Assumes nothing.
use mathlib.Core.Path.{sym, ◌∙◌}
use Rattle.std.proofs.Common.{arith}
use borrow.Author.Tests.{le-leb}
use Rattle.closing_sheet.proofs.sheet.Laws.{sheet_most}
use Rattle.closing_sheet.proofs.sheet.Sheet.has_room.Goals as goal

pub returns-then-size-ge-SHEET_SIZE : goal.returns-then-size-ge-SHEET_SIZE
returns-then-size-ge-SHEET_SIZE c = le-leb 18432 _ (omega arith) ∙ sym (le-leb _ _ (omega (arith, sheet_most _ c.args.self.now.bytes c.requires)))
