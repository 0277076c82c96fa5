-- Demand 1 of inspection, what it tells as facts, and that a card with a later rule version is inspected like any other.
use Rattle.std.specs.Prelude.{ℕ, ◌+◌, ◌≤◌, ◌<◌, ◌≡◌, ◌≢◌, List, [], ◌∷◌, ◌++◌}
use Rattle.formats.specs.declared.head.Pair.{Pair}
use Rattle.formats.specs.Answer.{done}
use Rattle.formats.specs.Part.{put}
use Rattle.formats.specs.Head.{LedgerHead, TitlesHead, RulesHead, rows_of}
use Rattle.formats.specs.declared.facts.ContentId.{ContentId}
use Rattle.formats.specs.declared.facts.EntryNumber.{EntryNumber}
use Rattle.formats.specs.declared.facts.Facts.{Facts}
use Rattle.formats.specs.declared.entry.EntryKind.TheVariants.{Free, Copy, Full, Torn, Spent}
use Rattle.formats.specs.declared.row.RowState.TheVariants.{Empty, Here, Away, Gone, NoState}
use Rattle.requests.specs.declared.request.Request.TheVariants.{Record, CheckOut, MoveIn}
use Rattle.calls.specs.Buffers.{Buffers, buffers_of, title_at, rule_at, kind_at, content_at, facts_at, cci_at, title_key_at, state_in, state_at, total, Within}
use Rattle.calls.specs.Needs.{◌needs◌, head_needs, Vacant}
use Rattle.calls.specs.Perform.{perform}
use Rattle.tables.specs.Told.{RefusedOrTold, ToldOtherPair}
use Rattle.inspection.specs.Inspect.{entry_told, state_told, title_told, first_vacant, entry_conditions, row_conditions, title_conditions, entry_inspected, row_inspected, title_inspected, first_vacant_told}

-- REFUSED FIRST, by conditions and by needs

abbrev pub InspectsEntry : Pair → List ℕ → List ℕ → ℕ → Type 0
InspectsEntry pair titles rules j =
    RefusedOrTold (5 ∷ 8 ∷ 9 ∷ []) (entry_conditions pair titles rules j)
    (5 needs Within 999 j ∷ 8 needs TitlesHead pair titles ∷ 9 needs RulesHead pair rules ∷ []) (entry_inspected pair titles rules j)
    (entry_told (title_at titles j) (rule_at rules j))

abbrev pub InspectsRow : List ℕ → ℕ → Type 0
InspectsRow ledger c =
    RefusedOrTold (4 ∷ 7 ∷ 11 ∷ []) (row_conditions ledger c) (4 needs Within 999 c ∷ 7 needs LedgerHead ledger ∷ 11 needs (c ≤ rows_of ledger) ∷ [])
    (row_inspected ledger c) (state_told (state_in ledger c))

abbrev pub InspectsTitle : Pair → Buffers → ℕ → Type 0
InspectsTitle pair b c =
    RefusedOrTold (4 ∷ 7 ∷ 8 ∷ 9 ∷ 11 ∷ []) (title_conditions pair b c) (4 needs Within 999 c ∷ (head_needs pair b ++ (11 needs (c ≤ rows_of b.ledger) ∷ [])))
    (title_inspected pair b c) (title_told b c)

abbrev pub FirstVacant : Pair → List ℕ → List ℕ → ℕ → Type 0
FirstVacant pair titles rules from =
    RefusedOrTold (5 ∷ 8 ∷ 9 ∷ []) (entry_conditions pair titles rules from)
    (5 needs Within 999 from ∷ 8 needs TitlesHead pair titles ∷ 9 needs RulesHead pair rules ∷ []) (first_vacant_told pair titles rules from)
    (first_vacant from titles rules ∷ [])

-- a card of the other pair
pub record InspectsOtherPair (pair : Pair) (b : Buffers) : Type 0 where
  pub entry : (j : ℕ) → ToldOtherPair pair b.titles b.rules (5 needs Within 999 j ∷ []) (entry_inspected pair b.titles b.rules j)
  pub title : (c : ℕ) → ToldOtherPair pair b.titles b.rules (4 needs Within 999 c ∷ 7 needs LedgerHead b.ledger ∷ []) (title_inspected pair b c)
  pub vacant : (from : ℕ) → ToldOtherPair pair b.titles b.rules (5 needs Within 999 from ∷ []) (first_vacant_told pair b.titles b.rules from)

-- WHAT IS TOLD, as facts

-- of entry j: its kind, its content ID, and its facts
pub record EntryShows (b : Buffers) (j : ℕ) (told : List ℕ) : Type 0 where
  pub free : kind_at b j ≡ Free → told ≡ 0 ∷ 0 ∷ 0 ∷ 0 ∷ 0 ∷ 0 ∷ 0 ∷ 0 ∷ []
  pub copy : kind_at b j ≡ Copy → told ≡ 1 ∷ content_at b j ∷ cci_at b j ∷ 0 ∷ 0 ∷ 0 ∷ title_key_at b j ∷ 0 ∷ []
  pub full : (f : Facts) → kind_at b j ≡ Full → facts_at b j ≡ f
      → told ≡ 2 ∷ content_at b j ∷ f.cci ∷ f.trigger ∷ f.rights ∷ f.permits ∷ f.title_key ∷ f.sti_key ∷ []
  pub torn : kind_at b j ≡ Torn → told ≡ 3 ∷ 0 ∷ 0 ∷ 0 ∷ 0 ∷ 0 ∷ 0 ∷ 0 ∷ []
  pub spent : kind_at b j ≡ Spent → told ≡ 4 ∷ content_at b j ∷ 0 ∷ 0 ∷ 0 ∷ 0 ∷ 0 ∷ 0 ∷ []

-- of row c: its state, and its facts
pub record RowShows (ledger : List ℕ) (c : ℕ) (told : List ℕ) : Type 0 where
  pub empty : state_in ledger c ≡ Empty → told ≡ 0 ∷ 0 ∷ 0 ∷ 0 ∷ 0 ∷ 0 ∷ 0 ∷ []
  pub here : (f : Facts) → state_in ledger c ≡ Here f → told ≡ 1 ∷ f.cci ∷ f.trigger ∷ f.rights ∷ f.permits ∷ f.title_key ∷ f.sti_key ∷ []
  pub away : state_in ledger c ≡ Away → told ≡ 2 ∷ 0 ∷ 0 ∷ 0 ∷ 0 ∷ 0 ∷ 0 ∷ []
  pub gone : state_in ledger c ≡ Gone → told ≡ 3 ∷ 0 ∷ 0 ∷ 0 ∷ 0 ∷ 0 ∷ 0 ∷ []
  pub no_state : state_in ledger c ≡ NoState → told ≡ 4 ∷ 0 ∷ 0 ∷ 0 ∷ 0 ∷ 0 ∷ 0 ∷ []

-- of title c: its holders, which are its row where it is here and each full entry with ID c, and its copies. Each counts once, and nothing else
pub record TitleShows (b : Buffers) (c row : ℕ) (full copied : ℕ → ℕ) : Type 0 where
  pub told : title_told b c ≡ (row + total 999 full) ∷ total 999 copied ∷ []
  pub here : (f : Facts) → state_at b c ≡ Here f → row ≡ 1
  pub not_here : ((f : Facts) → state_at b c ≢ Here f) → row ≡ 0
  pub of_full : (j : ℕ) → kind_at b j ≡ Full → content_at b j ≡ c → full j ≡ 1
  pub of_no_full : (j : ℕ) → (kind_at b j ≡ Full → content_at b j ≢ c) → full j ≡ 0
  pub of_copy : (j : ℕ) → kind_at b j ≡ Copy → content_at b j ≡ c → copied j ≡ 1
  pub of_no_copy : (j : ℕ) → (kind_at b j ≡ Copy → content_at b j ≢ c) → copied j ≡ 0
  -- so there are at most as many as there are places for
  pub most_holders : row + total 999 full ≤ 1000
  pub most_copies : total 999 copied ≤ 999

-- no entry from `from` on and before entry j is vacant
abbrev pub NoneVacant : Buffers → ℕ → ℕ → Type 0
NoneVacant b from j = (i : ℕ) → Within 999 i → from ≤ i → i < j → Vacant b i → ⊥

pub record IsFirstVacant (b : Buffers) (from j : ℕ) : Type 0 where
  pub on_card : Within 999 j
  pub from_there_on : from ≤ j
  pub vacant : Vacant b j
  pub none_before : NoneVacant b from j

-- the first vacant entry from `from` on, or 0 where there is none
pub record VacantShows (b : Buffers) (from told : ℕ) : Type 0 where
  pub some : told ≢ 0 → IsFirstVacant b from told
  pub none : told ≡ 0 → NoneVacant b from 1000

-- a call that needs a vacant entry is not answered 10 at entry j
pub record NotRefused10 (pair : Pair) (b : Buffers) (j : EntryNumber) : Type 0 where
  pub recorded : (c : ContentId) (f : Facts) (h : ℕ) → (perform pair (Record c j f h) b).answer ≢ 10
  pub checked_out : (c : ContentId) → (perform pair (CheckOut c j) b).answer ≢ 10
  pub moved_in : (c : ContentId) (h : ℕ) → (perform pair (MoveIn c j h) b).answer ≢ 10

abbrev pub TakesAtFirstVacant : Type 0
TakesAtFirstVacant =
    (pair : Pair) (b : Buffers) (from : ℕ) (j : EntryNumber) → j.0 ≢ 0 → first_vacant_told pair b.titles b.rules from ≡ done (j.0 ∷ []) → NotRefused10 pair b j

-- A LATER VERSION: "byte 3 version 11h or more (later ones are no error)"

-- a rule table with this version, and every other byte as it was
abbrev pub with_version : ℕ → List ℕ → List ℕ
with_version v rules = put rules 3 (v ∷ [])

-- a card with a right head is inspected as it is, whatever version it has from 11h on
pub record SameInspected (pair : Pair) (b : Buffers) (v : ℕ) : Type 0 where
  pub entry : (j : ℕ) → entry_inspected pair b.titles (with_version v b.rules) j ≡ entry_inspected pair b.titles b.rules j
  pub title : (c : ℕ) → title_inspected pair (buffers_of b.ledger b.titles (with_version v b.rules)) c ≡ title_inspected pair b c
  pub vacant : (from : ℕ) → first_vacant_told pair b.titles (with_version v b.rules) from ≡ first_vacant_told pair b.titles b.rules from

abbrev pub AnyVersion : Type 0
AnyVersion = (pair : Pair) (b : Buffers) (v : ℕ) → RulesHead pair b.rules → 0x11 ≤ v → SameInspected pair b v

-- DEMAND 1, of inspection: of all buffers, damaged ones included
pub record Demand1Inspection : Type 0 where
  pub entry : (pair : Pair) (titles rules : List ℕ) (j : ℕ) → InspectsEntry pair titles rules j
  pub row : (ledger : List ℕ) (c : ℕ) → InspectsRow ledger c
  pub title : (pair : Pair) (b : Buffers) (c : ℕ) → InspectsTitle pair b c
  pub vacant : (pair : Pair) (titles rules : List ℕ) (from : ℕ) → FirstVacant pair titles rules from
  pub of_other_pair : (pair : Pair) (b : Buffers) → InspectsOtherPair pair b
  pub entry_shows : (b : Buffers) (j : ℕ) → EntryShows b j (entry_told (title_at b.titles j) (rule_at b.rules j))
  pub row_shows : (ledger : List ℕ) (c : ℕ) → RowShows ledger c (state_told (state_in ledger c))
  pub title_shows : (b : Buffers) (c : ℕ) → (row : ℕ) × (full : ℕ → ℕ) × (copied : ℕ → ℕ) × TitleShows b c row full copied
  pub vacant_shows : (b : Buffers) (from : ℕ) → VacantShows b from (first_vacant from b.titles b.rules)
  pub takes : TakesAtFirstVacant
  pub any_version : AnyVersion
