-- The layouts once more, in plain bytes and numbers: that the definitions which effects and conditions are written with have them, so
-- that a slip in a definition does not pass because the code has the same slip.
use Rattle.std.specs.Prelude.{ℕ, ◌+◌, ◌*◌, ◌/◌, ◌%◌, ◌^◌, ◌≤◌, ◌<◌, ◌≡◌, ◌⊎◌, ◌↔◌, List, [], ◌∷◌, ◌++◌, true, false, length, get_or, replicate}
use Rattle.formats.specs.Bytes.{Bytes}
use Rattle.formats.specs.Part.{part}
use Rattle.formats.specs.Field.{number, bytes_of}
use Rattle.formats.specs.Half.{flag_of, wiped}
use Rattle.formats.specs.Title.{title_half}
use Rattle.formats.specs.Rule.{rule_half, wiped_rule}
use Rattle.formats.specs.Entry.{kind_of, is_vacant, entry_facts}
use Rattle.formats.specs.Head.{LedgerHead, TitlesHead, RulesHead, ledger_passes, titles_pass, rules_pass, fresh_ledger, fresh_titles, fresh_rules}
use Rattle.formats.specs.Row.{state_of, here_row, plain_row, with_permits}
use Rattle.formats.specs.declared.head.Pair.{Pair}
use Rattle.formats.specs.declared.head.Pair.TheVariants.{Audio, Picture}
use Rattle.formats.specs.declared.facts.Facts.{Facts}
use Rattle.formats.specs.declared.facts.Fillers.{Fillers}
use Rattle.formats.specs.declared.entry.EntryKind.TheVariants.{Free, Copy, Full, Torn, Spent}
use Rattle.formats.specs.declared.row.RowState.TheVariants.{Empty, Here, Away, Gone, NoState}

-- FIELDS

-- "Fields of several bytes have the most significant byte first.": a byte more at the end is the least significant, and the bytes
-- of a number are those that make it, as far as there is room
pub record Fields : Type 0 where
  pub none : number [] ≡ 0
  pub last : (l : List ℕ) (b : ℕ) → number (l ++ (b ∷ [])) ≡ 256 * number l + b
  pub written : (n x : ℕ) → number (bytes_of n x) ≡ x % 2 ^ (8 * n)
  pub size : (n x : ℕ) → length (bytes_of n x) ≡ n
  pub bytes : (n x : ℕ) → Bytes (bytes_of n x)

-- WIPED HALVES

-- "A wiped title half has bytes 0-7 set to f1 and its flag 0. .. A wipe changes nothing else.": w is t, wiped
pub record WipedTitle (t : List ℕ) (f1 : ℕ) (w : List ℕ) : Type 0 where
  pub size : length w ≡ 16
  pub bytes_0_7 : part w 0 8 ≡ bytes_of 8 f1
  pub byte_8 : get_or w 8 0 ≡ get_or t 8 0 % 128
  pub flag : flag_of w ≡ false
  pub bytes_9_15 : part w 9 7 ≡ part t 9 7

-- "A wiped rule half has bytes 0-7 set to f2, 16-31 to f3 and f4, flag 0. A wipe changes nothing else.": w is r, wiped
pub record WipedRule (r : List ℕ) (f : Fillers) (w : List ℕ) : Type 0 where
  pub size : length w ≡ 32
  pub bytes_0_7 : part w 0 8 ≡ bytes_of 8 f.f2
  pub byte_8 : get_or w 8 0 ≡ get_or r 8 0 % 128
  pub flag : flag_of w ≡ false
  pub bytes_9_15 : part w 9 7 ≡ part r 9 7
  pub bytes_16_23 : part w 16 8 ≡ bytes_of 8 f.f3
  pub bytes_24_31 : part w 24 8 ≡ bytes_of 8 f.f4

-- WRITTEN HALVES

-- "A written half gets its fields, flag 1, ID c, all reserved bits 0.": bytes 1 to 15 of either half
pub record WrittenHalf (key id : ℕ) (h : List ℕ) : Type 0 where
  pub bytes_1_7 : part h 1 7 ≡ bytes_of 7 key
  pub byte_8 : get_or h 8 0 ≡ 128
  pub bytes_9_13 : part h 9 5 ≡ replicate 5 0
  pub byte_14 : get_or h 14 0 ≡ id / 256
  pub byte_15 : get_or h 15 0 ≡ id % 256

-- "byte 0 has the copy control information, CCI, in its low two bits ..; 1-7 the title key"
pub record WrittenTitle (cci key id : ℕ) (t : List ℕ) : Type 0 where
  pub size : length t ≡ 16
  pub byte_0 : get_or t 0 0 ≡ cci
  pub half : WrittenHalf key id t

-- "byte 0 reserved; 1-7 the track information (STI) key; .. byte 16 top bit the trigger; byte 17 high half the move rights, low half
-- the permits; 18-25 C_HASH; the rest reserved"
pub record WrittenRule (f : Facts) (hash id : ℕ) (r : List ℕ) : Type 0 where
  pub size : length r ≡ 32
  pub byte_0 : get_or r 0 0 ≡ 0
  pub half : WrittenHalf f.sti_key id r
  pub byte_16 : get_or r 16 0 ≡ 128 * f.trigger
  pub byte_17 : get_or r 17 0 ≡ 16 * f.rights + f.permits
  pub bytes_18_25 : part r 18 8 ≡ bytes_of 8 hash
  pub bytes_26_31 : part r 26 6 ≡ replicate 6 0

-- ROWS

-- "byte 0 state ..; 1 CCI; 2 trigger ..; 3 move rights; 4 permits; 5-7 zero; 8-14 title key; 15 zero; 16-22 STI key; 23 zero"
pub record WrittenHere (f : Facts) (row : List ℕ) : Type 0 where
  pub size : length row ≡ 24
  pub byte_0 : get_or row 0 0 ≡ 1
  pub byte_1 : get_or row 1 0 ≡ f.cci
  pub byte_2 : get_or row 2 0 ≡ f.trigger
  pub byte_3 : get_or row 3 0 ≡ f.rights
  pub byte_4 : get_or row 4 0 ≡ f.permits
  pub bytes_5_7 : part row 5 3 ≡ replicate 3 0
  pub bytes_8_14 : part row 8 7 ≡ bytes_of 7 f.title_key
  pub byte_15 : get_or row 15 0 ≡ 0
  pub bytes_16_22 : part row 16 7 ≡ bytes_of 7 f.sti_key
  pub byte_23 : get_or row 23 0 ≡ 0

-- "Other states have bytes 1-23 written as zero."
pub record WrittenPlain (state : ℕ) (row : List ℕ) : Type 0 where
  pub size : length row ≡ 24
  pub byte_0 : get_or row 0 0 ≡ state
  pub bytes_1_23 : part row 1 23 ≡ replicate 23 0

-- "Check-out and check-in change at most byte 4 of their row"
pub record ChangedPermits (row : List ℕ) (permits : ℕ) (new : List ℕ) : Type 0 where
  pub size : length new ≡ 24
  pub bytes_0_3 : part new 0 4 ≡ part row 0 4
  pub byte_4 : get_or new 4 0 ≡ permits
  pub bytes_5_23 : part new 5 19 ≡ part row 5 19

-- "CCI is 0, 2 or 3, trigger at most 1, rights and permits at most 15"
pub record InRanges (row : List ℕ) : Type 0 where
  pub cci : (get_or row 1 0 ≡ 0) ⊎ ((get_or row 1 0 ≡ 2) ⊎ (get_or row 1 0 ≡ 3))
  pub trigger : get_or row 2 0 ≤ 1
  pub rights : get_or row 3 0 ≤ 15
  pub permits : get_or row 4 0 ≤ 15

-- "A row is here exactly when byte 0 is 1" and those hold; f are the facts in it
pub record HoldsHere (row : List ℕ) (f : Facts) : Type 0 where
  pub state : get_or row 0 0 ≡ 1
  pub ranges : InRanges row
  pub cci : f.cci ≡ get_or row 1 0
  pub trigger : f.trigger ≡ get_or row 2 0
  pub rights : f.rights ≡ get_or row 3 0
  pub permits : f.permits ≡ get_or row 4 0
  pub title_key : f.title_key ≡ number (part row 8 7)
  pub sti_key : f.sti_key ≡ number (part row 16 7)

-- "a byte 0 above 3 is no state", nor is a byte 0 of 1 where the row is not here
abbrev pub HoldsNone : List ℕ → Type 0
HoldsNone row = (3 < get_or row 0 0) ⊎ ((get_or row 0 0 ≡ 1) × (InRanges row → ⊥))

-- "byte 0 state (0 empty, 1 here, 2 away on the card, 3 gone)"
pub record States (row : List ℕ) : Type 0 where
  pub empty : (state_of row ≡ Empty) ↔ (get_or row 0 0 ≡ 0)
  pub here : (f : Facts) → (state_of row ≡ Here f) ↔ HoldsHere row f
  pub away : (state_of row ≡ Away) ↔ (get_or row 0 0 ≡ 2)
  pub gone : (state_of row ≡ Gone) ↔ (get_or row 0 0 ≡ 3)
  pub none : (state_of row ≡ NoState) ↔ HoldsNone row

-- rows that differ at most in the bytes 5-7, 15 and 23
pub record SameButZeros (x y : List ℕ) : Type 0 where
  pub bytes_0_4 : part x 0 5 ≡ part y 0 5
  pub bytes_8_14 : part x 8 7 ≡ part y 8 7
  pub bytes_16_22 : part x 16 7 ≡ part y 16 7

-- ENTRIES

-- "the content ID is the low ten bits of bytes 14 and 15"
abbrev pub content_id : List ℕ → ℕ
content_id h = number (part h 14 2) % 1024

-- "A half is usable if its flag is 1 and its content ID is not 0."
pub record Usable (h : List ℕ) : Type 0 where
  pub flag : 128 ≤ get_or h 8 0
  pub named : content_id h ≡ 0 → ⊥

-- "no half usable"
pub record NoneUsable (t r : List ℕ) : Type 0 where
  pub title : Usable t → ⊥
  pub rule : Usable r → ⊥

-- "a title half with flag 0 and an ID from 1 to 999"
pub record NamesSpent (t : List ℕ) : Type 0 where
  pub flag : get_or t 8 0 < 128
  pub from : 1 ≤ content_id t
  pub to : content_id t ≤ 999

-- W7: "spent: no half usable, and a title half with flag 0 and an ID from 1 to 999"
pub record HoldsSpent (t r : List ℕ) : Type 0 where
  pub unusable : NoneUsable t r
  pub names : NamesSpent t

-- W7: "Free now means no half usable and not spent."
pub record HoldsFree (t r : List ℕ) : Type 0 where
  pub unusable : NoneUsable t r
  pub not_spent : HoldsSpent t r → ⊥

-- "copy, only the title half usable", but not with "an ID above 999" or "CCI 1"
pub record HoldsCopy (t r : List ℕ) : Type 0 where
  pub title : Usable t
  pub rule : Usable r → ⊥
  pub most : content_id t ≤ 999
  pub cci : get_or t 0 0 % 4 ≡ 1 → ⊥

-- "full, both usable with equal IDs", and again not with those
pub record HoldsFull (t r : List ℕ) : Type 0 where
  pub title : Usable t
  pub rule : Usable r
  pub same : content_id t ≡ content_id r
  pub most : content_id t ≤ 999
  pub cci : get_or t 0 0 % 4 ≡ 1 → ⊥

-- "torn, anything else"
pub record HoldsTorn (t r : List ℕ) : Type 0 where
  pub not_free : HoldsFree t r → ⊥
  pub not_copy : HoldsCopy t r → ⊥
  pub not_full : HoldsFull t r → ⊥
  pub not_spent : HoldsSpent t r → ⊥

pub record Kinds (t r : List ℕ) : Type 0 where
  pub free : (kind_of t r ≡ Free) ↔ HoldsFree t r
  pub copy : (kind_of t r ≡ Copy) ↔ HoldsCopy t r
  pub full : (kind_of t r ≡ Full) ↔ HoldsFull t r
  pub torn : (kind_of t r ≡ Torn) ↔ HoldsTorn t r
  pub spent : (kind_of t r ≡ Spent) ↔ HoldsSpent t r
  -- "free or spent": the entries that were free while that was "no half usable"
  pub vacant : (is_vacant (kind_of t r) ≡ true) ↔ NoneUsable t r

-- "The title's .. keys are those in .. the two halves of that entry": each fact where its half has it
pub record HoldsFacts (t r : List ℕ) (f : Facts) : Type 0 where
  pub cci : f.cci ≡ get_or t 0 0 % 4
  pub trigger : f.trigger ≡ get_or r 16 0 / 128
  pub rights : f.rights ≡ get_or r 17 0 / 16
  pub permits : f.permits ≡ get_or r 17 0 % 16
  pub title_key : f.title_key ≡ number (part t 1 7)
  pub sti_key : f.sti_key ≡ number (part r 1 7)

-- FRESH TABLES

-- "Formatting .. writes a fresh one: heads as above .., everything ignored zero, all rows and entries zero."
pub record FreshLedger (rows application : ℕ) (l : List ℕ) : Type 0 where
  pub size : length l ≡ 24 * (rows + 1)
  pub bytes_0_1 : part l 0 2 ≡ bytes_of 2 application
  pub bytes_2_3 : part l 2 2 ≡ bytes_of 2 rows
  pub zeros : (i : ℕ) → 4 ≤ i → get_or l i 0 ≡ 0

-- the first byte of a title table, "A1" (41h 31h) or "P1" (50h 31h), and of a rule table, "M1" (4Dh 31h) or "P1"
abbrev pub titles_letter : Pair → ℕ
titles_letter Audio = 0x41
titles_letter Picture = 0x50

abbrev pub rules_letter : Pair → ℕ
rules_letter Audio = 0x4D
rules_letter Picture = 0x50

-- "(versions 10h, 11h)"
pub record FreshCard (letter version size application width mark : ℕ) (t : List ℕ) : Type 0 where
  pub long : length t ≡ size
  pub bytes_0_3 : part t 0 4 ≡ letter ∷ 0x31 ∷ 0 ∷ version ∷ []
  pub bytes_4_7 : part t 4 4 ≡ bytes_of 4 size
  pub bytes_8_9 : part t 8 2 ≡ bytes_of 2 application
  pub bytes_10_11 : part t 10 2 ≡ bytes_of 2 999
  pub byte_12 : get_or t 12 0 ≡ width
  pub byte_13 : get_or t 13 0 ≡ mark
  pub zeros : (i : ℕ) → 14 ≤ i → get_or t i 0 ≡ 0

-- THE STATEMENTS

-- what is wiped and written, for all halves of the right length and all numbers that their fields have room for
pub record Halves : Type 0 where
  pub wiped_title : (t : List ℕ) (f1 : ℕ) → length t ≡ 16 → WipedTitle t f1 (wiped t f1)
  pub wiped_rule : (r : List ℕ) (f : Fillers) → length r ≡ 32 → WipedRule r f (wiped_rule r f)
  pub written_title : (cci key id : ℕ) → cci < 4 → id < 1024 → WrittenTitle cci key id (title_half cci key id)
  pub written_rule : (f : Facts) (hash id : ℕ) → f.trigger ≤ 1 → f.rights ≤ 15 → f.permits ≤ 15 → id < 1024
      → WrittenRule f hash id (rule_half f hash id)

-- a head passes exactly where it is the one that the paper describes
pub record Heads : Type 0 where
  pub ledger : (l : List ℕ) → (ledger_passes l ≡ true) ↔ LedgerHead l
  pub titles : (pair : Pair) (t : List ℕ) → (titles_pass pair t ≡ true) ↔ TitlesHead pair t
  pub rules : (pair : Pair) (r : List ℕ) → (rules_pass pair r ≡ true) ↔ RulesHead pair r
  -- no table is of both pairs
  pub titles_of_one : (t : List ℕ) → TitlesHead Audio t → TitlesHead Picture t → ⊥
  pub rules_of_one : (r : List ℕ) → RulesHead Audio r → RulesHead Picture r → ⊥

-- what is written in rows, and what state each row of 24 bytes is in
pub record Rows : Type 0 where
  pub written_here : (f : Facts) → f.cci < 256 → f.trigger < 256 → f.rights < 256 → f.permits < 256 → WrittenHere f (here_row f)
  pub written_plain : (state : ℕ) → WrittenPlain state (plain_row state)
  pub changed_permits : (row : List ℕ) (permits : ℕ) → length row ≡ 24 → permits < 256
      → ChangedPermits row permits (with_permits row permits)
  pub states : (row : List ℕ) → length row ≡ 24 → States row
  -- "Reading ignores the zero bytes"
  pub zeros_ignored : (x y : List ℕ) → length x ≡ 24 → length y ≡ 24 → SameButZeros x y → state_of x ≡ state_of y

-- of what kind each entry is, and its facts
pub record Entries : Type 0 where
  pub kinds : (t r : List ℕ) → length t ≡ 16 → length r ≡ 32 → Bytes t → Bytes r → Kinds t r
  pub facts : (t r : List ℕ) → HoldsFacts t r (entry_facts t r)

-- what formatting writes
pub record Fresh : Type 0 where
  pub ledger : (rows application : ℕ) → FreshLedger rows application (fresh_ledger rows application)
  pub titles : (pair : Pair) → FreshCard (titles_letter pair) 0x10 16000 0 16 0x01 (fresh_titles pair)
  pub rules : (pair : Pair) (application : ℕ) → FreshCard (rules_letter pair) 0x11 32000 application 32 0x02 (fresh_rules pair application)

pub record Layout : Type 0 where
  pub fields : Fields
  pub halves : Halves
  pub heads : Heads
  pub rows : Rows
  pub entries : Entries
  pub fresh : Fresh
