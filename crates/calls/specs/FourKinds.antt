-- "Calls that needed a free entry accept free or spent, so no earlier answer changes.": the calls as they were with four kinds of entry,
-- and that each answers, and picks what it carries out, as it did. What it then writes is said in `Work`.
use Rattle.std.specs.Prelude.{ℕ, ◌≡◌, List, [], ◌∷◌, ◌++◌, Bool, true, false, not, ◌&&◌, ◌||◌, cond, eqb}
use Rattle.formats.specs.Half.{id_of, usable_of}
use Rattle.formats.specs.Title.{cci_of}
use Rattle.formats.specs.Rule.{hash_of}
use Rattle.formats.specs.Row.{plain_row}
use Rattle.formats.specs.Entry.{stray_of, kind_of, is_copy, is_full}
use Rattle.formats.specs.declared.head.Pair.{Pair}
use Rattle.formats.specs.declared.entry.EntryKind.{EntryKind}
use Rattle.formats.specs.declared.entry.EntryKind.TheVariants.{Free, Copy, Full, Torn, Spent}
use Rattle.requests.specs.declared.request.Request.{Request}
use Rattle.requests.specs.declared.request.Request.TheVariants.{Register, Record, CheckOut, CheckIn, MoveOut, MoveIn, Delete}
use Rattle.calls.specs.Buffers.{Buffers, title_at, rule_at, state_at, row_facts, content_at, facts_at, is_empty, is_here, is_away, one, total, copy_of, full_with, with_row}
use Rattle.calls.specs.Refusal.{Condition, ◌when◌, ◌unless◌, first}
use Rattle.calls.specs.Conditions.{argument_conditions, head_conditions, may_not_move, leaves_key, looks_at_f2}
use Rattle.calls.specs.Effect.{wipe_title, wipe_entry, effect}
use Rattle.calls.specs.Perform.{Performed, perform}

-- THE KINDS, as they were: "free, no half usable; copy, only the title half usable; full, both usable with equal IDs; torn, anything
-- else", with "also any usable half with an ID above 999 or a usable title half with CCI 1"
abbrev pub one_of_four : Bool → Bool → Bool → EntryKind
one_of_four false false same = Free
one_of_four true false same = Copy
one_of_four true true true = Full
one_of_four true true false = Torn
one_of_four false true same = Torn

unfoldable pub four_kinds : List ℕ → List ℕ → EntryKind
four_kinds t r =
    cond (stray_of t || (stray_of r || (usable_of t && eqb (cci_of t) 1))) Torn
    (one_of_four (usable_of t) (usable_of r) (eqb (id_of t) (id_of r)))

-- a kind of today as it was: what is spent was free
abbrev pub kind_then : EntryKind → EntryKind
kind_then Free = Free
kind_then Copy = Copy
kind_then Full = Full
kind_then Torn = Torn
kind_then Spent = Free

-- what entry j was
abbrev pub kind_at_then : Buffers → ℕ → EntryKind
kind_at_then b j = four_kinds (title_at b.titles j) (rule_at b.rules j)

-- "entry free", as three calls needed it: "no half usable"
abbrev pub no_half_usable : Buffers → ℕ → Bool
no_half_usable b j = not (usable_of (title_at b.titles j)) && not (usable_of (rule_at b.rules j))

-- "the copy entries with ID c", and "a full entry with ID c"
abbrev pub copy_then : ℕ → List ℕ → List ℕ → Bool
copy_then c t r = is_copy (four_kinds t r) && eqb (id_of t) c

abbrev pub full_then : ℕ → List ℕ → List ℕ → Bool
full_then c t r = is_full (four_kinds t r) && eqb (id_of t) c

unfoldable pub copies_then : ℕ → Buffers → ℕ
copies_then c b = total 999 (λ j. one (copy_then c (title_at b.titles j) (rule_at b.rules j)))

-- THE CALLS, as they were: conditions 10 to 16 from document 01 and W1, written out, so that a change of any of them would show here
abbrev pub state_conditions_then : Pair → Request → Buffers → List Condition
state_conditions_then pair (Register c f) b =
    11 unless is_empty (state_at b c.0)
    ∷ []
state_conditions_then pair (Record c j f h) b =
    10 unless no_half_usable b j.0
    ∷ 11 unless is_empty (state_at b c.0)
    ∷ []
state_conditions_then pair (CheckOut c j) b =
    10 unless no_half_usable b j.0
    ∷ 11 unless is_here (state_at b c.0)
    ∷ 12 when eqb (row_facts b c.0).permits 0
    ∷ []
state_conditions_then pair (CheckIn j f1) b =
    10 unless is_copy (kind_at_then b j.0)
    ∷ 11 unless is_here (state_at b (content_at b j.0))
    ∷ 15 when eqb (row_facts b (content_at b j.0)).permits 14
    ∷ 16 when leaves_key f1 (title_at b.titles j.0)
    ∷ []
state_conditions_then pair (MoveOut j h f) b =
    10 unless is_full (kind_at_then b j.0)
    ∷ 11 unless is_away (state_at b (content_at b j.0))
    ∷ 12 when may_not_move (facts_at b j.0).trigger (facts_at b j.0).rights
    ∷ 13 unless eqb h (hash_of (rule_at b.rules j.0))
    ∷ 16 when (leaves_key f.f1 (title_at b.titles j.0) || (looks_at_f2 pair && leaves_key f.f2 (rule_at b.rules j.0)))
    ∷ []
state_conditions_then pair (MoveIn c j h) b =
    10 unless no_half_usable b j.0
    ∷ 11 unless is_here (state_at b c.0)
    ∷ 12 when may_not_move (row_facts b c.0).trigger (row_facts b c.0).rights
    ∷ 14 unless eqb (copies_then c.0 b) 0
    ∷ []
state_conditions_then pair (Delete j f) b =
    10 unless (is_copy (kind_at_then b j.0) || is_full (kind_at_then b j.0))
    ∷ 11 when (is_full (kind_at_then b j.0) && not (is_away (state_at b (content_at b j.0))))
    ∷ 16 when (leaves_key f.f1 (title_at b.titles j.0) || (is_full (kind_at_then b j.0) && (looks_at_f2 pair && leaves_key f.f2 (rule_at b.rules j.0))))
    ∷ []

abbrev pub conditions_then : Pair → Request → Buffers → List Condition
conditions_then pair k b = argument_conditions k ++ (head_conditions pair k b ++ state_conditions_then pair k b)

-- of the effects, that of delete alone asks for a kind
abbrev pub effect_then : Request → Buffers → Buffers
effect_then (Register c f) b = effect (Register c f) b
effect_then (Record c j f h) b = effect (Record c j f h) b
effect_then (CheckOut c j) b = effect (CheckOut c j) b
effect_then (CheckIn j f1) b = effect (CheckIn j f1) b
effect_then (MoveOut j h f) b = effect (MoveOut j h f) b
effect_then (MoveIn c j h) b = effect (MoveIn c j h) b
effect_then (Delete j f) b =
    cond (is_full (kind_at_then b j.0)) (wipe_entry j.0 f (with_row (content_at b j.0) (plain_row 3) b)) (wipe_title j.0 f.f1 b)

unfoldable pub perform_then : Pair → Request → Buffers → Performed
perform_then pair k b =
    record {
      answer = first (conditions_then pair k b);
      buffers = cond (eqb (first (conditions_then pair k b)) 0) (effect_then k b) b;
    }

-- "no earlier answer changes", nor does a delete take another entry for full. All else goes by which entries are copies of c, or full ones with ID c: the
-- tally, what a move in reports, the lines and sums of the sheet; and these are the same entries
pub record AsWithFourKinds : Type 0 where
  pub calls : (pair : Pair) (k : Request) (b : Buffers) → perform pair k b ≡ perform_then pair k b
  pub kinds : (t r : List ℕ) → four_kinds t r ≡ kind_then (kind_of t r)
  pub copies : (c : ℕ) (t r : List ℕ) → copy_of c t r ≡ copy_then c t r
  pub full : (c : ℕ) (t r : List ℕ) → full_with c t r ≡ full_then c t r
