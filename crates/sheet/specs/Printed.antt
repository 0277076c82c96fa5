-- What the program prints: it "carries out the requests as `counter` does, without its lines, up to the end or the first fault", then
-- prints the sheet.
use Rattle.std.specs.Prelude.{ℕ, List}
use Rattle.music_counter.specs.Serve.{program_run}
use Rattle.closing_sheet.specs.Sheet.{sheet_text}

-- of the bytes that were read from standard input, at most 4,096
unfoldable pub sheet_printed : List ℕ → List ℕ
sheet_printed s = sheet_text (program_run s).buffers
