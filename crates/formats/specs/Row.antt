-- A row of the ledger: 24 bytes.
use Rattle.std.specs.Prelude.{ℕ, ◌%◌, List, [], ◌∷◌, ◌++◌, cond, length, get_or, replicate, eqb}
use Rattle.formats.specs.Part.{part, put}
use Rattle.formats.specs.Field.{number, bytes_of}
use Rattle.formats.specs.Facts.{in_range}
use Rattle.formats.specs.declared.facts.Facts.{Facts}
use Rattle.formats.specs.declared.row.RowState.{RowState}
use Rattle.formats.specs.declared.row.RowState.TheVariants.{Empty, Here, Away, Gone, NoState}

-- "1 CCI; 2 trigger 0 or 1; 3 move rights; 4 permits; 5-7 zero; 8-14 title key; 15 zero; 16-22 STI key; 23 zero"
unfoldable pub facts_of : List ℕ → Facts
facts_of row =
    record {
      cci = get_or row 1 0;
      trigger = get_or row 2 0;
      rights = get_or row 3 0;
      permits = get_or row 4 0;
      title_key = number (part row 8 7);
      sti_key = number (part row 16 7);
    }

-- "byte 0 state (0 empty, 1 here, 2 away on the card, 3 gone)"; "A row is here exactly when byte 0 is 1, CCI is 0, 2
-- or 3, trigger at most 1, rights and permits at most 15"; "a byte 0 above 3 is no state"
abbrev pub state_by : List ℕ → RowState
state_by row =
    cond (eqb (get_or row 0 0) 0) Empty
    (cond (eqb (get_or row 0 0) 1) (cond (in_range (facts_of row)) (Here (facts_of row)) NoState)
    (cond (eqb (get_or row 0 0) 2) Away (cond (eqb (get_or row 0 0) 3) Gone NoState)))

-- and bytes that are not 24 are none
unfoldable pub state_of : List ℕ → RowState
state_of row = cond (eqb (length row) 24) (state_by row) NoState

-- a row that is here with the facts f, all 24 bytes
unfoldable pub here_row : Facts → List ℕ
here_row f =
    1 ∷ f.cci % 256 ∷ f.trigger % 256 ∷ f.rights % 256 ∷ f.permits % 256 ∷ 0 ∷ 0 ∷ 0
    ∷ (bytes_of 7 f.title_key ++ (0 ∷ (bytes_of 7 f.sti_key ++ (0 ∷ []))))

-- "Other states have bytes 1-23 written as zero."
unfoldable pub plain_row : ℕ → List ℕ
plain_row state = state ∷ replicate 23 0

-- "Check-out and check-in change at most byte 4 of their row"
unfoldable pub with_permits : List ℕ → ℕ → List ℕ
with_permits row permits = put row 4 (permits % 256 ∷ [])
