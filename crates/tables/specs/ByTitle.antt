-- What a card has of each title: how many copies, and the first full entry; and how many entries are spent.
use Rattle.std.specs.Prelude.{ℕ, ◌≡◌, List, Bool, length, get_or}
use Rattle.formats.specs.Entry.{kind_of, is_spent}
use Rattle.calls.specs.Buffers.{title_at, rule_at, copies, full_with, first_of, one, total}
use Rattle.tables.specs.declared.by_title.OnCard.{OnCard}

-- the first full entry with ID c; 0 where there is none
unfoldable pub first_full : ℕ → List ℕ → List ℕ → ℕ
first_full c titles rules = first_of 999 (λ j. full_with c (title_at titles j) (rule_at rules j))

-- W7: "a line `spent` and their number": how many entries of a card are spent
abbrev pub spent_at : List ℕ → List ℕ → ℕ → Bool
spent_at titles rules j = is_spent (kind_of (title_at titles j) (rule_at rules j))

unfoldable pub spent_entries : List ℕ → List ℕ → ℕ
spent_entries titles rules = total 999 (λ j. one (spent_at titles rules j))

-- nothing of a title
abbrev pub nothing : OnCard
nothing = record { copies = 0; first_full = 0 }

-- a thousand places, in which place c has what there is of title c. There is no title 0, and none above 999: place 0 has nothing, and
-- nothing is read past the end
pub record ForEach (titles rules : List ℕ) (places : List OnCard) : Type 0 where
  pub size : 1000 ≡ length places
  pub copies_at : (c : ℕ) → (get_or places c nothing).copies ≡ copies c titles rules
  pub first_full_at : (c : ℕ) → (get_or places c nothing).first_full ≡ first_full c titles rules
