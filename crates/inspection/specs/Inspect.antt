-- What inspection tells of an entry, of a row and of a title, and the first entry that a title may be put in. Nothing is changed.
use Rattle.std.specs.Prelude.{ℕ, Bool, List, [], ◌∷◌, ◌++◌, ◌&&◌, leb}
use Rattle.formats.specs.declared.head.Pair.{Pair}
use Rattle.formats.specs.Answer.{Answer}
use Rattle.formats.specs.Half.{id_of}
use Rattle.formats.specs.Entry.{kind_of, is_vacant, entry_facts}
use Rattle.formats.specs.Facts.{fact_values}
use Rattle.formats.specs.Head.{ledger_passes, rows_of}
use Rattle.formats.specs.declared.facts.Facts.{Facts}
use Rattle.formats.specs.declared.entry.EntryKind.{EntryKind}
use Rattle.formats.specs.declared.entry.EntryKind.TheVariants.{Free, Copy, Full, Torn, Spent}
use Rattle.formats.specs.declared.row.RowState.{RowState}
use Rattle.formats.specs.declared.row.RowState.TheVariants.{Empty, Here, Away, Gone, NoState}
use Rattle.requests.specs.declared.request.Argument.TheVariants.{Content, Entry}
use Rattle.calls.specs.Buffers.{Buffers, title_at, rule_at, state_in, here_facts, no_facts, copies, first_of}
use Rattle.calls.specs.Conditions.{◌limits◌, all_head_conditions}
use Rattle.calls.specs.Refusal.{Condition, ◌unless◌}
use Rattle.calls.specs.History.{holders}
use Rattle.tables.specs.Told.{told_after, card_head_conditions}
use Rattle.inspection.specs.declared.EntryContents.{EntryContents}
use Rattle.inspection.specs.declared.EntryContents.TheVariants.{Free as FreeEntry, Copy as CopyEntry, Full as FullEntry, Torn as TornEntry, Spent as SpentEntry}
use Rattle.inspection.specs.declared.TitleCounts.{TitleCounts}

-- AN ENTRY: its kind, the title that it shows, and its facts

-- the numbers of the kinds
abbrev pub kind_number : EntryKind → ℕ
kind_number Free = 0
kind_number Copy = 1
kind_number Full = 2
kind_number Torn = 3
kind_number Spent = 4

-- the content ID in the title half of a copy, a full or a spent entry; else 0
abbrev pub content_told : EntryKind → ℕ → ℕ
content_told Free id = 0
content_told Copy id = id
content_told Full id = id
content_told Torn id = 0
content_told Spent id = id

-- "Facts are CCI, trigger, rights, permits, title key, STI key": of a full entry all six; of a copy, whose rule half has none, CCI and title
-- key; of any other none
abbrev pub facts_told : EntryKind → Facts → Facts
facts_told Free f = no_facts
facts_told Copy f = record { cci = f.cci; trigger = 0; rights = 0; permits = 0; title_key = f.title_key; sti_key = 0 }
facts_told Full f = f
facts_told Torn f = no_facts
facts_told Spent f = no_facts

-- of the two halves of an entry
unfoldable pub entry_told : List ℕ → List ℕ → List ℕ
entry_told t r = kind_number (kind_of t r) ∷ content_told (kind_of t r) (id_of t) ∷ fact_values (facts_told (kind_of t r) (entry_facts t r))

-- A ROW: its state, and the facts of one that is here

-- the numbers of the states
abbrev pub state_number : RowState → ℕ
state_number Empty = 0
state_number (Here f) = 1
state_number Away = 2
state_number Gone = 3
state_number NoState = 4

abbrev pub state_told : RowState → List ℕ
state_told s = state_number s ∷ fact_values (here_facts s)

-- A TITLE: what demand 3 counts, its holders and its copies
abbrev pub title_told : Buffers → ℕ → List ℕ
title_told b c = holders c b ∷ copies c b.titles b.rules ∷ []

-- THE FIRST VACANT ENTRY from an entry on; 0 where there is none
abbrev pub vacant_from : ℕ → List ℕ → List ℕ → ℕ → Bool
vacant_from from titles rules j = leb from j && is_vacant (kind_of (title_at titles j) (rule_at rules j))

unfoldable pub first_vacant : ℕ → List ℕ → List ℕ → ℕ
first_vacant from titles rules = first_of 999 (vacant_from from titles rules)

-- WHAT IS CHECKED: "Checks of a call or tally go in number order over what it takes."

-- of what is lent the card only, 5, and 8 and 9 as of a tally
abbrev pub entry_conditions : Pair → List ℕ → List ℕ → ℕ → List Condition
entry_conditions pair titles rules j = Entry limits j ∷ card_head_conditions pair titles rules

-- "11 row above R", whatever its state
abbrev pub row_condition : List ℕ → ℕ → Condition
row_condition ledger c = 11 unless leb c (rows_of ledger)

-- of what is lent the ledger only
abbrev pub row_conditions : List ℕ → ℕ → List Condition
row_conditions ledger c = Content limits c ∷ 7 unless ledger_passes ledger ∷ row_condition ledger c ∷ []

-- of what is lent both
abbrev pub title_conditions : Pair → Buffers → ℕ → List Condition
title_conditions pair b c = Content limits c ∷ (all_head_conditions pair b ++ (row_condition b.ledger c ∷ []))

-- THE ANSWERS: the refusal, or 0 and what is told
unfoldable pub entry_inspected : Pair → List ℕ → List ℕ → ℕ → Answer
entry_inspected pair titles rules j = told_after (entry_conditions pair titles rules j) (entry_told (title_at titles j) (rule_at rules j))

unfoldable pub row_inspected : List ℕ → ℕ → Answer
row_inspected ledger c = told_after (row_conditions ledger c) (state_told (state_in ledger c))

unfoldable pub title_inspected : Pair → Buffers → ℕ → Answer
title_inspected pair b c = told_after (title_conditions pair b c) (title_told b c)

unfoldable pub first_vacant_told : Pair → List ℕ → List ℕ → ℕ → Answer
first_vacant_told pair titles rules from = told_after (entry_conditions pair titles rules from) (first_vacant from titles rules ∷ [])

-- THE VALUES of what the code finds: of an entry's contents the number and values of each case

abbrev pub entry_values : EntryContents → List ℕ
entry_values FreeEntry = kind_number Free ∷ 0 ∷ fact_values no_facts
entry_values (CopyEntry c cci key) = kind_number Copy ∷ c.0 ∷ cci ∷ 0 ∷ 0 ∷ 0 ∷ key ∷ 0 ∷ []
entry_values (FullEntry c f) = kind_number Full ∷ c.0 ∷ fact_values f
entry_values TornEntry = kind_number Torn ∷ 0 ∷ fact_values no_facts
entry_values (SpentEntry c) = kind_number Spent ∷ c.0 ∷ fact_values no_facts

abbrev pub title_values : TitleCounts → List ℕ
title_values t = t.holders ∷ t.copies ∷ []
