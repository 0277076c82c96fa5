-- The three buffers that the calls work on, and what stands in them.
use Rattle.std.specs.Prelude.{ℕ, zero, suc, ◌+◌, ◌*◌, ◌≤◌, List, Bool, true, false, ◌&&◌, cond, leb, eqb}
use Rattle.formats.specs.Part.{part, put}
use Rattle.formats.specs.Half.{key_of, id_of}
use Rattle.formats.specs.Title.{cci_of}
use Rattle.formats.specs.Rule.{hash_of}
use Rattle.formats.specs.Entry.{kind_of, is_copy, is_full, entry_facts}
use Rattle.formats.specs.Head.{rows_of, fresh_ledger, fresh_titles, fresh_rules}
use Rattle.formats.specs.Row.{state_of}
use Rattle.formats.specs.declared.head.Pair.{Pair}
use Rattle.formats.specs.declared.facts.Facts.{Facts}
use Rattle.formats.specs.declared.entry.EntryKind.{EntryKind}
use Rattle.formats.specs.declared.row.RowState.{RowState}
use Rattle.formats.specs.declared.row.RowState.TheVariants.{Empty, Here, Away, Gone, NoState}

-- the shop's ledger and the card's two tables
pub record Buffers : Type 0 where
  pub ledger : List ℕ
  pub titles : List ℕ
  pub rules : List ℕ

-- what stands in the three that a call is lent, before it or after it
abbrev pub buffers_of : List ℕ → List ℕ → List ℕ → Buffers
buffers_of ledger titles rules = record { ledger = ledger; titles = titles; rules = rules }

-- "Row c (1 to R) starts at 24 × c"
abbrev pub row_at : List ℕ → ℕ → List ℕ
row_at ledger c = part ledger (24 * c) 24

-- "a 16-byte head and 999 entries of 16 bytes"
abbrev pub title_at : List ℕ → ℕ → List ℕ
title_at titles j = part titles (16 * j) 16

-- "a 32-byte head and 999 entries of 32 bytes"
abbrev pub rule_at : List ℕ → ℕ → List ℕ
rule_at rules j = part rules (32 * j) 32

-- the state of row c of a ledger; row 0 and rows above R, of which there are none, are in no state
unfoldable pub state_in : List ℕ → ℕ → RowState
state_in ledger c = cond (leb 1 c && leb c (rows_of ledger)) (state_of (row_at ledger c)) NoState

abbrev pub state_at : Buffers → ℕ → RowState
state_at b c = state_in b.ledger c

abbrev pub no_facts : Facts
no_facts = record { cci = 0; trigger = 0; rights = 0; permits = 0; title_key = 0; sti_key = 0 }

-- the facts of a row that is here; no call that is done asks for those of another
abbrev pub here_facts : RowState → Facts
here_facts Empty = no_facts
here_facts (Here f) = f
here_facts Away = no_facts
here_facts Gone = no_facts
here_facts NoState = no_facts

abbrev pub row_facts : Buffers → ℕ → Facts
row_facts b c = here_facts (state_at b c)

-- what entry j is, the content ID in its title half, and its facts
abbrev pub kind_at : Buffers → ℕ → EntryKind
kind_at b j = kind_of (title_at b.titles j) (rule_at b.rules j)

abbrev pub content_at : Buffers → ℕ → ℕ
content_at b j = id_of (title_at b.titles j)

abbrev pub facts_at : Buffers → ℕ → Facts
facts_at b j = entry_facts (title_at b.titles j) (rule_at b.rules j)

-- the CCI in its title half, the keys in its title half and in its rule half, and its C_HASH
abbrev pub cci_at : Buffers → ℕ → ℕ
cci_at b j = cci_of (title_at b.titles j)

abbrev pub title_key_at : Buffers → ℕ → ℕ
title_key_at b j = key_of (title_at b.titles j)

abbrev pub sti_key_at : Buffers → ℕ → ℕ
sti_key_at b j = key_of (rule_at b.rules j)

abbrev pub hash_at : Buffers → ℕ → ℕ
hash_at b j = hash_of (rule_at b.rules j)

-- the states that calls need
abbrev pub is_empty : RowState → Bool
is_empty Empty = true
is_empty (Here f) = false
is_empty Away = false
is_empty Gone = false
is_empty NoState = false

abbrev pub is_here : RowState → Bool
is_here Empty = false
is_here (Here f) = true
is_here Away = false
is_here Gone = false
is_here NoState = false

abbrev pub is_away : RowState → Bool
is_away Empty = false
is_away (Here f) = false
is_away Away = true
is_away Gone = false
is_away NoState = false

-- p is one of the places 1 to n
pub record Within (n p : ℕ) : Type 0 where
  pub from : 1 ≤ p
  pub to : p ≤ n

-- 1 where a test holds, else 0
abbrev pub one : Bool → ℕ
one true = 1
one false = 0

-- the sum of w over 1 to n
unfoldable pub total : ℕ → (ℕ → ℕ) → ℕ
total zero w = 0
total (suc n) w = w (suc n) + total n w

-- the first of the places 1 to n at which a test holds; 0 where it holds at none
unfoldable pub first_of : ℕ → (ℕ → Bool) → ℕ
first_of zero t = 0
first_of (suc n) t = cond (eqb (first_of n t) 0) (cond (t (suc n)) (suc n) 0) (first_of n t)

-- "Copies of c are the copy entries with ID c."
abbrev pub copy_of : ℕ → List ℕ → List ℕ → Bool
copy_of c t r = is_copy (kind_of t r) && eqb (id_of t) c

-- "a full entry with ID c"
abbrev pub full_with : ℕ → List ℕ → List ℕ → Bool
full_with c t r = is_full (kind_of t r) && eqb (id_of t) c

-- "the number of copies with ID c" on the card
unfoldable pub copies : ℕ → List ℕ → List ℕ → ℕ
copies c titles rules = total 999 (λ j. one (copy_of c (title_at titles j) (rule_at rules j)))

-- how many entries of the card are full with ID c
unfoldable pub full_entries : ℕ → List ℕ → List ℕ → ℕ
full_entries c titles rules = total 999 (λ j. one (full_with c (title_at titles j) (rule_at rules j)))

-- "the first copy" of c on the card: the number of its entry; 0 where there is none
unfoldable pub first_copy : ℕ → List ℕ → List ℕ → ℕ
first_copy c titles rules = first_of 999 (λ j. copy_of c (title_at titles j) (rule_at rules j))

-- how many of n entries a search reads that stops at the first one that it looks for: the number of that entry "if there is one", else n
abbrev pub read_up_to : ℕ → ℕ → ℕ
read_up_to n first = cond (eqb first 0) n first

-- "how many entries that check read: the number of the first copy's entry if there is one, else 999"
unfoldable pub entries_searched : ℕ → List ℕ → List ℕ → ℕ
entries_searched c titles rules = read_up_to 999 (first_copy c titles rules)

-- the buffers with another row c, another title half or another rule half of entry j
abbrev pub with_row : ℕ → List ℕ → Buffers → Buffers
with_row c row b = record { ledger = put b.ledger (24 * c) row; titles = b.titles; rules = b.rules }

abbrev pub with_title : ℕ → List ℕ → Buffers → Buffers
with_title j t b = record { ledger = b.ledger; titles = put b.titles (16 * j) t; rules = b.rules }

abbrev pub with_rule : ℕ → List ℕ → Buffers → Buffers
with_rule j r b = record { ledger = b.ledger; titles = b.titles; rules = put b.rules (32 * j) r }

-- "any freshly formatted ledger and card, whatever R and the application numbers": the ledger's number and the card's
abbrev pub fresh : Pair → ℕ → ℕ → ℕ → Buffers
fresh pair rows application card_application =
    record { ledger = fresh_ledger rows application; titles = fresh_titles pair; rules = fresh_rules pair card_application }
