-- A whole sheet, computed.
-- Assumes nothing.
use mathlib.Core.Path.{refl}
use Rattle.formats.specs.Field.{bytes_of, number}
use Rattle.formats.specs.Facts.{in_range}
use Rattle.formats.specs.Part.{put}
use Rattle.formats.specs.Half.{half_bytes, usable_of, names_spent, wiped}
use Rattle.formats.specs.Title.{title_half}
use Rattle.formats.specs.Rule.{rule_half}
use Rattle.formats.specs.Row.{here_row, plain_row, state_of, facts_of}
use Rattle.formats.specs.Entry.{kind_of, entry_facts}
use Rattle.calls.specs.Buffers.{state_in, total, first_of, copies}
use Rattle.tables.specs.ByTitle.{first_full, spent_entries}
use Rattle.text.specs.Text.{decimal_in, decimal, field, line}
use Rattle.closing_sheet.specs.Sheet.{line_with, row_text, rows_text, permits_added, copies_added, permits_total, copies_total, total_line, spent_line, last_lines, sheet_text, line_text}
use Rattle.closing_sheet.specs.Shows.{SampleSheet}

pub sample_sheet : SampleSheet
unfolding bytes_of half_bytes title_half names_spent wiped rule_half here_row plain_row state_of facts_of in_range usable_of number put kind_of entry_facts state_in total first_of copies first_full spent_entries decimal_in decimal field line line_with row_text rows_text permits_added copies_added permits_total copies_total total_line spent_line last_lines sheet_text line_text
sample_sheet = refl
