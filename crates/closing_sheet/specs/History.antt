-- What a shop's manager can check by the sheet, after every list of calls of demand 3.
use Rattle.std.specs.Prelude.{ℕ, ◌+◌, ◌-◌, ◌≤◌, ◌≡◌, ◌≢◌, ◌⊎◌, List, ◌++◌, None, Some}
use Rattle.formats.specs.declared.head.Pair.{Pair}
use Rattle.formats.specs.declared.facts.Facts.{Facts}
use Rattle.formats.specs.declared.row.RowState.TheVariants.{Empty}
use Rattle.requests.specs.declared.request.Request.{Request}
use Rattle.calls.specs.Buffers.{Buffers, state_at, one, total, Within}
use Rattle.calls.specs.History.{Run, Action, moved, copy_deleted, holder_deleted, actions, times, grant, Account, start, run}
use Rattle.calls.specs.Entries.{taken_from}
use Rattle.tables.specs.ByTitle.{spent_entries}
use Rattle.closing_sheet.specs.Sheet.{line_of, line_text, rows_text, sheet_text}
use Rattle.closing_sheet.specs.Shows.{Shows}

-- row c's line stands in the text of the sheet, behind the lines of the rows before it
pub record Printed (b : Buffers) (c : ℕ) : Type 0 where
  pub after : List ℕ
  pub is : sheet_text b ≡ rows_text (c - 1) b ++ (line_text (line_of b c) ++ after)

-- title c, granted with the facts f, whose actions are acts: "permits plus copies plus copies deleted equal g" and the same of rights
-- and moves, by the numbers that are printed; a title whose holder was deleted is shown as gone, with nothing left
pub record TitleOnSheet (c : ℕ) (f : Facts) (acts : List Action) (b : Buffers) : Type 0 where
  pub printed : Printed b c
  -- here, or away on the card
  pub held : times holder_deleted acts ≡ 0 → ((line_of b c).state ≡ 1) ⊎ ((line_of b c).state ≡ 2)
  pub permits : times holder_deleted acts ≡ 0 → Account f.permits (line_of b c).permits ((line_of b c).copies + times copy_deleted acts)
  pub rights : times holder_deleted acts ≡ 0 → Account f.rights (line_of b c).rights (times moved acts)
  pub deleted : times holder_deleted acts ≢ 0 → Shows b c 3 0 0 × ((line_of b c).copies ≡ 0)

-- after every list of calls from any fresh ledger and card: every title granted in it has its line, and no other row has one
pub record OnSheet (rows : ℕ) (w : Run) : Type 0 where
  pub titles : (c : ℕ) (f : Facts) → grant (actions c w.log) ≡ Some f → TitleOnSheet c f (actions c w.log) w.buffers
  pub no_other : (c : ℕ) → Within rows c → grant (actions c w.log) ≡ None → state_at w.buffers c ≡ Empty
  -- W7: the number behind `spent`, which ends the text (`Shows`), is that of the entries at which the last done call took a copy
  -- or a title away
  pub spent : spent_entries w.buffers.titles w.buffers.rules ≡ total 999 (λ j. one (taken_from j w.log))

abbrev pub SheetAddsUp : Type 0
SheetAddsUp =
    (pair : Pair) (rows application card_application : ℕ) → 1 ≤ rows → rows ≤ 999 → (ks : List Request)
    → OnSheet rows (run pair ks (start pair rows application card_application))
