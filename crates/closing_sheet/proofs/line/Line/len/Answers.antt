-- `len` adds the digits of the five numbers, and the five bytes that end them.
-- Assumes nothing.
use Rattle.std.proofs.Common.{arith}
use Rattle.closing_sheet.proofs.line.Laws.{line_length}
use Rattle.closing_sheet.proofs.line.Line.len.Goals as goal

pub returns-clause-text_length : goal.returns-clause-text_length
returns-clause-text_length c = omega (arith, line_length c.args.self)
