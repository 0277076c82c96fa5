-- `len` adds the digits of three numbers, the two words and the three bytes that end the numbers.
-- Assumes nothing.
use Rattle.std.proofs.Common.{arith}
use Rattle.closing_sheet.proofs.sheet.Laws.{last_length}
use Rattle.closing_sheet.proofs.sheet.LastLines.len.Goals as goal

pub returns-clause-text_length : goal.returns-clause-text_length
returns-clause-text_length c = omega (arith, last_length c.args.self.permits c.args.self.copies c.args.self.spent)
