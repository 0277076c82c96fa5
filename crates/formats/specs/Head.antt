-- The heads of the ledger and of the two card tables, and the tables as formatting leaves them.
use Rattle.std.specs.Prelude.{ℕ, ◌+◌, ◌*◌, ◌≤◌, ◌≡◌, ◌⊎◌, List, [], ◌∷◌, ◌++◌, Bool, ◌&&◌, ◌||◌, length, get_or, replicate, leb, eqb}
use Rattle.formats.specs.Refusal.{refused_unless}
use Rattle.formats.specs.Facts.{numbered}
use Rattle.formats.specs.Part.{part}
use Rattle.formats.specs.Field.{number, bytes_of}
use Rattle.formats.specs.declared.head.Pair.{Pair}
use Rattle.formats.specs.declared.head.Pair.TheVariants.{Audio, Picture}

-- "Head: bytes 0-1 the application number, 2-3 R"
abbrev pub ledger_application : List ℕ → ℕ
ledger_application l = number (part l 0 2)

abbrev pub rows_of : List ℕ → ℕ
rows_of l = number (part l 2 2)

-- "24 × (R + 1) bytes, R from 1 to 999"
unfoldable pub ledger_passes : List ℕ → Bool
ledger_passes l = numbered (rows_of l) && eqb (length l) (24 * (rows_of l + 1))

-- the identifier of a title table, "A1" or "P1": "Picture tables have the identifiers P1 and P1 in place of A1 and M1, otherwise the
-- same layout"
unfoldable pub titles_identifier : Pair → ℕ
titles_identifier Audio = 0x4131
titles_identifier Picture = 0x5031

-- and of a rule table, "M1" or "P1"
unfoldable pub rules_identifier : Pair → ℕ
rules_identifier Audio = 0x4D31
rules_identifier Picture = 0x5031

-- what the two card tables share: the length, bytes 0-1 the identifier, 4-7 the size, 10-11 the count 999,
-- byte 12 the length of an entry and byte 13 a mark
unfoldable pub table_passes : ℕ → ℕ → ℕ → ℕ → List ℕ → Bool
table_passes identifier size width mark t =
    eqb (length t) size
    && (eqb (number (part t 0 2)) identifier
    && (eqb (number (part t 4 4)) size && (eqb (number (part t 10 2)) 999 && (eqb (get_or t 12 0) width && eqb (get_or t 13 0) mark))))

-- the identifier; "byte 3 version 09h or 10h; 4-7 the size 16,000; 8-9 zero; 10-11 the count 999; 12 is 16; 13 is 01h"
unfoldable pub titles_pass : Pair → List ℕ → Bool
titles_pass pair t =
    table_passes (titles_identifier pair) 16000 16 0x01 t
    && ((eqb (get_or t 3 0) 0x09 || eqb (get_or t 3 0) 0x10) && eqb (number (part t 8 2)) 0)

-- the identifier; "byte 3 version 11h or more (later ones are no error); 4-7 the size 32,000; .. 12 is 32; 13 is 02h"
unfoldable pub rules_pass : Pair → List ℕ → Bool
rules_pass pair r = table_passes (rules_identifier pair) 32000 32 0x02 r && leb 0x11 (get_or r 3 0)

-- "8-9 the application number"
abbrev pub rules_application : List ℕ → ℕ
rules_application r = number (part r 8 2)

-- THE SAME AS FACTS, which the tests are proved to test

-- "24 × (R + 1) bytes, R from 1 to 999"
pub record LedgerHead (l : List ℕ) : Type 0 where
  pub low : 1 ≤ rows_of l
  pub high : rows_of l ≤ 999
  pub size : length l ≡ 24 * (rows_of l + 1)

-- what both card tables have
pub record TableHead (identifier size width mark : ℕ) (t : List ℕ) : Type 0 where
  pub long : length t ≡ size
  pub names : number (part t 0 2) ≡ identifier
  pub sized : number (part t 4 4) ≡ size
  pub count : number (part t 10 2) ≡ 999
  pub wide : get_or t 12 0 ≡ width
  pub marked : get_or t 13 0 ≡ mark

-- the identifier; "byte 3 version 09h or 10h; 4-7 the size 16,000; 8-9 zero; 10-11 the count 999; 12 is 16; 13 is 01h"
pub record TitlesHead (pair : Pair) (t : List ℕ) : Type 0 where
  pub table : TableHead (titles_identifier pair) 16000 16 0x01 t
  pub version : (get_or t 3 0 ≡ 0x09) ⊎ (get_or t 3 0 ≡ 0x10)
  pub zero : number (part t 8 2) ≡ 0

-- the identifier; "byte 3 version 11h or more (later ones are no error); 4-7 the size 32,000; .. 12 is 32; 13 is 02h"
pub record RulesHead (pair : Pair) (r : List ℕ) : Type 0 where
  pub table : TableHead (rules_identifier pair) 32000 32 0x02 r
  pub version : 0x11 ≤ get_or r 3 0

-- THE ANSWERS

-- "7 ledger length or head wrong"
abbrev pub ledger_answer : List ℕ → ℕ
ledger_answer l = refused_unless (ledger_passes l) 7

-- "8 title table length or head wrong"
abbrev pub titles_answer : Pair → List ℕ → ℕ
titles_answer pair t = refused_unless (titles_pass pair t) 8

-- "9 rule table likewise" (a tally, without ledger, skips the application number)
abbrev pub rules_answer : Pair → List ℕ → ℕ
rules_answer pair r = refused_unless (rules_pass pair r) 9

-- "its application number other than the ledger's included"
abbrev pub rules_answer_for : Pair → ℕ → List ℕ → ℕ
rules_answer_for pair application r = refused_unless (rules_pass pair r && eqb (rules_application r) application) 9

-- "Formatting a ledger or card writes a fresh one: heads as above (versions 10h, 11h), everything ignored zero,
-- all rows and entries zero."
unfoldable pub fresh_ledger : ℕ → ℕ → List ℕ
fresh_ledger rows application = bytes_of 2 application ++ (bytes_of 2 rows ++ replicate (20 + 24 * rows) 0)

-- bytes 0 to 13 of a card table's head
unfoldable pub table_head : ℕ → ℕ → ℕ → ℕ → ℕ → ℕ → List ℕ
table_head identifier version size application width mark =
    bytes_of 2 identifier ++ (0 ∷ version ∷ (bytes_of 4 size ++ (bytes_of 2 application ++ (bytes_of 2 999 ++ (width ∷ mark ∷ [])))))

unfoldable pub fresh_titles : Pair → List ℕ
fresh_titles pair = table_head (titles_identifier pair) 0x10 16000 0 16 0x01 ++ replicate 15986 0

unfoldable pub fresh_rules : Pair → ℕ → List ℕ
fresh_rules pair application = table_head (rules_identifier pair) 0x11 32000 application 32 0x02 ++ replicate 31986 0
