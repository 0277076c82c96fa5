-- What the two halves of an entry are together.
use Rattle.std.specs.Prelude.{ℕ, List, Bool, true, false, ◌&&◌, ◌||◌, cond, ltb, eqb}
use Rattle.formats.specs.Half.{key_of, id_of, usable_of, names_spent}
use Rattle.formats.specs.Title.{cci_of}
use Rattle.formats.specs.Rule.{trigger_of, rights_of, permits_of}
use Rattle.formats.specs.declared.facts.Facts.{Facts}
use Rattle.formats.specs.declared.entry.EntryKind.{EntryKind}
use Rattle.formats.specs.declared.entry.EntryKind.TheVariants.{Free, Copy, Full, Torn, Spent}

-- "free, no half usable; copy, only the title half usable; full, both usable with equal IDs; torn, anything else", and W7: "The kinds
-- of entry gain a fifth, spent: no half usable, and a title half with flag 0 and an ID from 1 to 999. Free now means no half usable
-- and not spent." It goes by which halves are usable, whether their IDs are the same, and whether the title half names a spent title
abbrev pub kind_by : Bool → Bool → Bool → Bool → EntryKind
kind_by false false same false = Free
kind_by false false same true = Spent
kind_by true false same spent = Copy
kind_by true true true spent = Full
kind_by true true false spent = Torn
kind_by false true same spent = Torn

-- "any usable half with an ID above 999"
abbrev pub stray_of : List ℕ → Bool
stray_of h = usable_of h && ltb 999 (id_of h)

-- and "also any usable half with an ID above 999 or a usable title half with CCI 1"
unfoldable pub kind_of : List ℕ → List ℕ → EntryKind
kind_of t r =
    cond (stray_of t || (stray_of r || (usable_of t && eqb (cci_of t) 1))) Torn
    (kind_by (usable_of t) (usable_of r) (eqb (id_of t) (id_of r)) (names_spent t))

-- an entry that a title may be put in. W7: "Calls that needed a free entry accept free or spent"
abbrev pub is_vacant : EntryKind → Bool
is_vacant Free = true
is_vacant Copy = false
is_vacant Full = false
is_vacant Torn = false
is_vacant Spent = true

-- the other kinds that calls ask for
abbrev pub is_copy : EntryKind → Bool
is_copy Free = false
is_copy Copy = true
is_copy Full = false
is_copy Torn = false
is_copy Spent = false

abbrev pub is_full : EntryKind → Bool
is_full Free = false
is_full Copy = false
is_full Full = true
is_full Torn = false
is_full Spent = false

-- and the one that the sheet counts
abbrev pub is_spent : EntryKind → Bool
is_spent Free = false
is_spent Copy = false
is_spent Full = false
is_spent Torn = false
is_spent Spent = true

-- "the entry's facts": CCI and title key from its title half, trigger, rights, permits and STI key from its rule half
unfoldable pub entry_facts : List ℕ → List ℕ → Facts
entry_facts t r =
    record {
      cci = cci_of t;
      trigger = trigger_of r;
      rights = rights_of r;
      permits = permits_of r;
      title_key = key_of t;
      sti_key = key_of r;
    }
