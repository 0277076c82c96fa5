-- Copies and full entries of a title among three entries of a card that are looked at together.
use Rattle.std.specs.Prelude.{ℕ, ◌+◌, List, Bool, not, ◌||◌, length, eqb}
use Rattle.formats.specs.Half.{flagged_with}
use Rattle.calls.specs.Buffers.{title_at, rule_at, copy_of, full_with, one, first_of}

-- whether entry j is a copy of c
abbrev pub copy_at : ℕ → List ℕ → List ℕ → ℕ → Bool
copy_at c titles rules j = copy_of c (title_at titles j) (rule_at rules j)

-- whether it is full with the title c
abbrev pub full_at : ℕ → List ℕ → List ℕ → ℕ → Bool
full_at c titles rules j = full_with c (title_at titles j) (rule_at rules j)

-- whether one of the three from entry j on may be either: in a table of the right length, by flag and ID
unfoldable pub may_hold : ℕ → List ℕ → ℕ → Bool
may_hold c titles j =
    not (eqb (length titles) 16000)
    || (flagged_with c (title_at titles j) || (flagged_with c (title_at titles (j + 1)) || flagged_with c (title_at titles (j + 2))))

-- at how many of the three a test holds
unfoldable pub in_three : (ℕ → Bool) → ℕ → ℕ
in_three t j = one (t j) + one (t (j + 1)) + one (t (j + 2))

-- the first of the three behind entry n that is one: 1, 2 or 3, and 0 where none is
abbrev pub first_of_three : ℕ → List ℕ → List ℕ → ℕ → ℕ
first_of_three c titles rules n = first_of 3 (λ i. copy_at c titles rules (n + i))
