-- What each call needs in order to be done, as facts with the number that it is answered where one does not hold: the sentences of
-- "The seven calls" and of the refusals. Nothing here goes by `Conditions`; that the two agree is a statement (`Work`).
use Rattle.std.specs.Prelude.{ℕ, ◌%◌, ◌^◌, ◌≤◌, ◌<◌, ◌≡◌, ◌≢◌, ◌⊎◌, List, [], ◌∷◌, ◌++◌, Bool, true, false, ltb}
use Rattle.formats.specs.Head.{LedgerHead, TitlesHead, RulesHead, ledger_application, rules_application}
use Rattle.formats.specs.declared.head.Pair.{Pair}
use Rattle.formats.specs.declared.head.Pair.TheVariants.{Audio}
use Rattle.formats.specs.declared.facts.Facts.{Facts}
use Rattle.formats.specs.declared.entry.EntryKind.TheVariants.{Free, Copy, Full, Spent}
use Rattle.formats.specs.declared.row.RowState.TheVariants.{Empty, Here, Away}
use Rattle.requests.specs.declared.request.Request.{Request}
use Rattle.requests.specs.declared.request.Request.TheVariants.{Register, Record, CheckOut, CheckIn, MoveOut, MoveIn, Delete}
use Rattle.calls.specs.Buffers.{Buffers, state_at, row_facts, kind_at, content_at, facts_at, title_key_at, sti_key_at, hash_at, Within}

-- a fact, and the number that is answered where it does not hold
infix 70 ◌needs◌
pub data Need : Type 1 where
  ◌needs◌ : ℕ → Type 0 → Need

-- all of them hold
abbrev pub AllMet : List Need → Type 0
AllMet [] = Unit
AllMet ((n needs P) ∷ rest) = P × AllMet rest

-- the one of number n does not hold, and all before it do
abbrev pub FirstUnmet : ℕ → List Need → Type 0
FirstUnmet n [] = ⊥
FirstUnmet n ((m needs P) ∷ rest) = ((P → ⊥) × (m ≡ n)) ⊎ (P × FirstUnmet n rest)

-- "Each number is returned on its condition and on no other.": 0 exactly where all needs are met, and else the number of the first
-- that is not
pub record AnsweredBy (needed : List Need) (answer : ℕ) : Type 0 where
  pub done : AllMet needed → answer ≡ 0
  pub only_done : answer ≡ 0 → AllMet needed
  pub refused : (n : ℕ) → FirstUnmet n needed → answer ≡ n
  pub only_refused : (n : ℕ) → n ≢ 0 → answer ≡ n → FirstUnmet n needed

-- those of a number below n hold
abbrev pub Where : Bool → Type 0 → Type 0
Where true P = P
Where false P = Unit

abbrev pub MetBelow : ℕ → List Need → Type 0
MetBelow n [] = Unit
MetBelow n ((m needs P) ∷ rest) = Where (ltb m n) P × MetBelow n rest

-- "CCI 1 or above 3, trigger above 1, rights or permits above 15, a key of 2^56 or more": none of these
pub record FactsInRange (f : Facts) : Type 0 where
  pub cci : f.cci ≤ 3
  pub not_reserved : f.cci ≢ 1
  pub trigger : f.trigger ≤ 1
  pub rights : f.rights ≤ 15
  pub permits : f.permits ≤ 15
  pub title_key : f.title_key < 2 ^ 56
  pub sti_key : f.sti_key < 2 ^ 56

-- the rule table's length and head are right, and the card is of the ledger's application
pub record RulesOfLedger (pair : Pair) (b : Buffers) : Type 0 where
  pub head : RulesHead pair b.rules
  pub application : rules_application b.rules ≡ ledger_application b.ledger

-- a title with these facts may move: trigger not 1, and a move right is left
pub record MayMove (f : Facts) : Type 0 where
  pub not_triggered : f.trigger ≢ 1
  pub right_left : f.rights ≢ 0

-- f1 does not write the title key of entry j again: "f1 mod 2^56 is the wiped title key", and here it is not
abbrev pub WipesTitleKey : Buffers → ℕ → ℕ → Type 0
WipesTitleKey b j f1 = f1 % 2 ^ 56 ≢ title_key_at b j

-- nor f2 its STI key: "f2 mod 2^56 the STI key"
abbrev pub WipesStiKey : Buffers → ℕ → ℕ → Type 0
WipesStiKey b j f2 = f2 % 2 ^ 56 ≢ sti_key_at b j

-- a title may be put in entry j: W7, "Calls that needed a free entry accept free or spent"
abbrev pub Vacant : Buffers → ℕ → Type 0
Vacant b j = (kind_at b j ≡ Free) ⊎ (kind_at b j ≡ Spent)

-- no entry of the card is a copy of c
abbrev pub NoCopy : Buffers → ℕ → Type 0
NoCopy b c = (i : ℕ) → Within 999 i → kind_at b i ≡ Copy → content_at b i ≢ c

-- the heads of ledger and card
abbrev pub head_needs : Pair → Buffers → List Need
head_needs pair b = 7 needs LedgerHead b.ledger ∷ 8 needs TitlesHead pair b.titles ∷ 9 needs RulesOfLedger pair b ∷ []

-- 1 register (c, facts): "row empty". It is lent the ledger only.
-- 2 record (c, j, facts, h): "row empty, entry free", or spent (W7)
-- 3 check-out (c, j): "row here, entry free", or spent (W7), and a permit left
-- 4 check-in (j, f1): "entry copy, its row here", its permits not 14
-- 5 move out (j, h, f1-f4): "entry full, its row away"; the entry's facts allow it, and h is the stored C_HASH
-- 6 move in (c, j, h): "row here, entry free", or spent (W7); the row's facts allow it, and no copy of c is on the card
-- 7 delete (j, f1-f4): a copy, "its row neither tested nor touched"; or a full entry, its row away
-- "In picture calls condition 16 looks at f1 only.": what is asked of f2 is asked where the pair is audio
abbrev pub needs_of : Pair → Request → Buffers → List Need
needs_of pair (Register c f) b =
    4 needs Within 999 c.0
    ∷ 6 needs FactsInRange f
    ∷ 7 needs LedgerHead b.ledger
    ∷ 11 needs (state_at b c.0 ≡ Empty)
    ∷ []
needs_of pair (Record c j f h) b =
    4 needs Within 999 c.0
    ∷ 5 needs Within 999 j.0
    ∷ 6 needs FactsInRange f
    ∷ (head_needs pair b
    ++ (10 needs Vacant b j.0
    ∷ 11 needs (state_at b c.0 ≡ Empty)
    ∷ []))
needs_of pair (CheckOut c j) b =
    4 needs Within 999 c.0
    ∷ 5 needs Within 999 j.0
    ∷ (head_needs pair b
    ++ (10 needs Vacant b j.0
    ∷ 11 needs (state_at b c.0 ≡ Here (row_facts b c.0))
    ∷ 12 needs ((row_facts b c.0).permits ≢ 0)
    ∷ []))
needs_of pair (CheckIn j f1) b =
    5 needs Within 999 j.0
    ∷ (head_needs pair b
    ++ (10 needs (kind_at b j.0 ≡ Copy)
    ∷ 11 needs (state_at b (content_at b j.0) ≡ Here (row_facts b (content_at b j.0)))
    ∷ 15 needs ((row_facts b (content_at b j.0)).permits ≢ 14)
    ∷ 16 needs WipesTitleKey b j.0 f1
    ∷ []))
needs_of pair (MoveOut j h f) b =
    5 needs Within 999 j.0
    ∷ (head_needs pair b
    ++ (10 needs (kind_at b j.0 ≡ Full)
    ∷ 11 needs (state_at b (content_at b j.0) ≡ Away)
    ∷ 12 needs MayMove (facts_at b j.0)
    ∷ 13 needs (h ≡ hash_at b j.0)
    ∷ 16 needs (WipesTitleKey b j.0 f.f1 × (pair ≡ Audio → WipesStiKey b j.0 f.f2))
    ∷ []))
needs_of pair (MoveIn c j h) b =
    4 needs Within 999 c.0
    ∷ 5 needs Within 999 j.0
    ∷ (head_needs pair b
    ++ (10 needs Vacant b j.0
    ∷ 11 needs (state_at b c.0 ≡ Here (row_facts b c.0))
    ∷ 12 needs MayMove (row_facts b c.0)
    ∷ 14 needs NoCopy b c.0
    ∷ []))
needs_of pair (Delete j f) b =
    5 needs Within 999 j.0
    ∷ (head_needs pair b
    ++ (10 needs ((kind_at b j.0 ≡ Copy) ⊎ (kind_at b j.0 ≡ Full))
    ∷ 11 needs (kind_at b j.0 ≡ Full → state_at b (content_at b j.0) ≡ Away)
    ∷ 16 needs (WipesTitleKey b j.0 f.f1 × (kind_at b j.0 ≡ Full → pair ≡ Audio → WipesStiKey b j.0 f.f2))
    ∷ []))

-- a call has all that it needs of the buffers that it is lent
abbrev pub Needs : Pair → Request → Buffers → Type 0
Needs pair k b = AllMet (needs_of pair k b)
