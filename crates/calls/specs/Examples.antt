-- "Ten examples to carry as theorems": each line of the paper's table beside its part. And document 02's example of a check-out.
use Rattle.std.specs.Prelude.{ℕ, ◌-◌, ◌^◌, ◌≡◌, ◌≢◌, List, [], ◌∷◌, true, false, length, get_or}
use Rattle.requests.specs.Number.{Number, Refused as NoNumber, groups, read_number}
use Rattle.requests.specs.Request.{Read, Refused, kind_of as call_of, written, read_request}
use Rattle.formats.specs.Half.{key_of, flag_of, id_of, usable_of}
use Rattle.formats.specs.Title.{cci_of, title_half}
use Rattle.formats.specs.Entry.{kind_of}
use Rattle.formats.specs.Head.{rules_identifier, ledger_application, table_passes, rules_application}
use Rattle.formats.specs.declared.head.Pair.{Pair}
use Rattle.formats.specs.declared.facts.ContentId.{ContentId}
use Rattle.formats.specs.declared.facts.EntryNumber.{EntryNumber}
use Rattle.formats.specs.declared.facts.Fillers.{Fillers}
use Rattle.requests.specs.declared.request.Request.{Request}
use Rattle.requests.specs.declared.request.Request.TheVariants.{CheckOut, CheckIn, MoveOut, MoveIn}
use Rattle.formats.specs.declared.entry.EntryKind.TheVariants.{Copy, Full, Torn}
use Rattle.formats.specs.declared.row.RowState.TheVariants.{Here}
use Rattle.calls.specs.Buffers.{Buffers, title_at, state_at, row_facts, kind_at, content_at, facts_at}
use Rattle.calls.specs.Perform.{perform, AreBytes}
use Rattle.calls.specs.Needs.{MetBelow, needs_of, Needs}
use Rattle.calls.specs.Pairs.{PassesUntil9}

-- a number and its bytes, as it is written and as it is read
abbrev pub NumberBytes : ℕ → List ℕ → Type 0
NumberBytes n bytes = (groups n ≡ bytes) × (read_number bytes ≡ Number n (length bytes))

-- E1: 127 is 7Fh; 128 is 80h 01h; 999 is E7h 07h
abbrev pub E1 : Type 0
E1 = NumberBytes 127 (0x7F ∷ []) × NumberBytes 128 (0x80 ∷ 0x01 ∷ []) × NumberBytes 999 (0xE7 ∷ 0x07 ∷ [])

-- E2: 80h 00h: 2; 80h alone: 1
abbrev pub E2 : Type 0
E2 = ((rest : List ℕ) → read_number (0x80 ∷ 0x00 ∷ rest) ≡ NoNumber 2) × (read_number (0x80 ∷ []) ≡ NoNumber 1)

-- nine bytes FFh, and others after them
abbrev pub nine_ff : List ℕ → List ℕ
nine_ff rest = 0xFF ∷ 0xFF ∷ 0xFF ∷ 0xFF ∷ 0xFF ∷ 0xFF ∷ 0xFF ∷ 0xFF ∷ 0xFF ∷ rest

-- E3: 2^64 - 1 is nine bytes FFh, then 01h; with 02h last: 2
abbrev pub E3 : Type 0
E3 = NumberBytes (2 ^ 64 - 1) (nine_ff (0x01 ∷ [])) × ((rest : List ℕ) → read_number (nine_ff (0x02 ∷ rest)) ≡ NoNumber 2)

abbrev pub check_out : ℕ → ℕ → Request
check_out row entry = CheckOut (record { 0 = row }) (record { 0 = entry })

-- a request and its bytes, as it is written and as it is read
abbrev pub RequestBytes : Request → List ℕ → Type 0
RequestBytes q bytes = (written q ≡ bytes) × (read_request bytes ≡ Read q (length bytes))

-- E4: check-out of row 5 to entry 999: 03 05 E7 07
abbrev pub E4 : Type 0
E4 = RequestBytes (check_out 5 999) (0x03 ∷ 0x05 ∷ 0xE7 ∷ 0x07 ∷ [])

-- a title half that is written with a CCI, a key and an ID is these bytes; they make a copy, beside any rule half that is
-- not usable, and CCI, key and ID are read from them
pub record CopyHalf (cci key id : ℕ) (bytes : List ℕ) : Type 0 where
  pub written : title_half cci key id ≡ bytes
  pub copy : (r : List ℕ) → usable_of r ≡ false → kind_of bytes r ≡ Copy
  pub cci_read : cci_of bytes ≡ cci
  pub key_read : key_of bytes ≡ key
  pub id_read : id_of bytes ≡ id

-- E5: copy, CCI 2, key 11223344556677h, ID 999: 02 11 22 33 44 55 66 77 80 00 00 00 00 00 03 E7
abbrev pub E5 : Type 0
E5 =
    CopyHalf 2 0x11223344556677 999
    (0x02 ∷ 0x11 ∷ 0x22 ∷ 0x33 ∷ 0x44 ∷ 0x55 ∷ 0x66 ∷ 0x77 ∷ 0x80 ∷ 0x00 ∷ 0x00 ∷ 0x00 ∷ 0x00 ∷ 0x00 ∷ 0x03 ∷ 0xE7 ∷ [])

-- a check-out from a row with this CCI, where all else that it needs is there, is done, and the first byte of the title half that it
-- writes is `first`
abbrev pub ChecksOut : ℕ → ℕ → Type 0
ChecksOut cci first =
    (pair : Pair) (b : Buffers) (c : ContentId) (j : EntryNumber) → AreBytes b → Needs pair (CheckOut c j) b → (row_facts b c.0).cci ≡ cci
    → ((perform pair (CheckOut c j) b).answer ≡ 0) × (get_or (title_at (perform pair (CheckOut c j) b).buffers.titles j.0) 0 0 ≡ first)

-- W3: "Example E5 shows a directly written half and remains; a check-out from such a row has 03 as its first byte"; "0 and 3 pass
-- through"
pub record OneGeneration : Type 0 where
  pub of_2 : ChecksOut 2 0x03
  pub of_0 : ChecksOut 0 0x00
  pub of_3 : ChecksOut 3 0x03

-- row c is here with these rights
pub record RightsInRow (b : Buffers) (c rights : ℕ) : Type 0 where
  pub here : state_at b c ≡ Here (row_facts b c)
  pub are : (row_facts b c).rights ≡ rights

-- row c is here with these permits
pub record PermitsInRow (b : Buffers) (c permits : ℕ) : Type 0 where
  pub here : state_at b c ≡ Here (row_facts b c)
  pub are : (row_facts b c).permits ≡ permits

-- entry j is full with ID c and these rights
pub record RightsInEntry (b : Buffers) (j c rights : ℕ) : Type 0 where
  pub full : kind_at b j ≡ Full
  pub id : content_at b j ≡ c
  pub are : (facts_at b j).rights ≡ rights

-- a move of rights `before`, where all else that it needs is there, is done and leaves `after`: in the row on a move out, in the
-- entry on a move in
pub record Moves (before after : ℕ) : Type 0 where
  pub moved_out : (pair : Pair) (b : Buffers) (j : EntryNumber) (h : ℕ) (f : Fillers) → AreBytes b → Needs pair (MoveOut j h f) b → (facts_at b j.0).rights ≡ before
      → ((perform pair (MoveOut j h f) b).answer ≡ 0) × RightsInRow (perform pair (MoveOut j h f) b).buffers (content_at b j.0) after
  pub moved_in : (pair : Pair) (b : Buffers) (c : ContentId) (j : EntryNumber) (h : ℕ) → AreBytes b → Needs pair (MoveIn c j h) b → (row_facts b c.0).rights ≡ before
      → ((perform pair (MoveIn c j h) b).answer ≡ 0) × RightsInEntry (perform pair (MoveIn c j h) b).buffers j.0 c.0 after

-- E6: rights 15 to 15, 14 to 13, 1 to 0 on a move
abbrev pub E6 : Type 0
E6 = Moves 15 15 × Moves 14 13 × Moves 1 0

-- the rule table passes condition 9, except possibly for its version
pub record PassesButVersion (pair : Pair) (b : Buffers) : Type 0 where
  pub table : table_passes (rules_identifier pair) 32000 32 0x02 b.rules ≡ true
  pub application : rules_application b.rules ≡ ledger_application b.ledger

-- E7: rule version 12h passes; 10h: 9. So it is for both pairs and each call that is lent the card, which is all but 1, register.
pub record E7 : Type 0 where
  pub version_12 : (pair : Pair) (k : Request) (b : Buffers) → call_of k ≢ 1 → PassesButVersion pair b → get_or b.rules 3 0 ≡ 0x12 → (perform pair k b).answer ≢ 9
  pub version_10 : (pair : Pair) (k : Request) (b : Buffers) → call_of k ≢ 1 → PassesUntil9 pair k b → get_or b.rules 3 0 ≡ 0x10 → (perform pair k b).answer ≡ 9

-- an entry whose halves are usable with these IDs is torn
abbrev pub TornBy : ℕ → ℕ → Type 0
TornBy id other = (t r : List ℕ) → usable_of t ≡ true → usable_of r ≡ true → id_of t ≡ id → id_of r ≡ other → kind_of t r ≡ Torn

-- E8: flag 1 with ID 0 is not usable; usable IDs 4 and 5 in one entry: torn
abbrev pub E8 : Type 0
E8 = ((h : List ℕ) → flag_of h ≡ true → id_of h ≡ 0 → usable_of h ≡ false) × TornBy 4 5 × TornBy 5 4

-- a check-in at permits `before`, where all else that it needs is there, is done and leaves the row `after`
abbrev pub ChecksIn : ℕ → ℕ → Type 0
ChecksIn before after =
    (pair : Pair) (b : Buffers) (j : EntryNumber) (f1 : ℕ) → AreBytes b → Needs pair (CheckIn j f1) b → (row_facts b (content_at b j.0)).permits ≡ before
    → ((perform pair (CheckIn j f1) b).answer ≡ 0) × PermitsInRow (perform pair (CheckIn j f1) b).buffers (content_at b j.0) after

-- E9: check-in at permits 13 gives 14; at 14 it is refused with 15; at 15 they stay 15
pub record E9 : Type 0 where
  pub at_13 : ChecksIn 13 14
  pub at_14 : (pair : Pair) (b : Buffers) (j : EntryNumber) (f1 : ℕ) → MetBelow 15 (needs_of pair (CheckIn j f1) b) → (row_facts b (content_at b j.0)).permits ≡ 14
      → (perform pair (CheckIn j f1) b).answer ≡ 15
  pub at_15 : ChecksIn 15 15

-- E10: kind 8: 3; no bytes: 1
abbrev pub E10 : Type 0
E10 = ((rest : List ℕ) → read_request (8 ∷ rest) ≡ Refused 3) × (read_request [] ≡ Refused 1)

-- "They form one theorem of ten parts about the definitions."
pub record TenExamples : Type 0 where
  pub e1 : E1
  pub e2 : E2
  pub e3 : E3
  pub e4 : E4
  pub e5 : E5
  pub e6 : E6
  pub e7 : E7
  pub e8 : E8
  pub e9 : E9
  pub e10 : E10
