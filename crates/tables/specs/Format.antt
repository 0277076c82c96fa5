-- Formatting: which answer it gives, and the buffers after it.
use Rattle.std.specs.Prelude.{ℕ, ◌+◌, ◌*◌, List, [], ◌∷◌, cond, eqb, length}
use Rattle.formats.specs.declared.head.Pair.{Pair}
use Rattle.formats.specs.Head.{fresh_ledger, fresh_titles, fresh_rules}
use Rattle.formats.specs.Facts.{numbered}
use Rattle.calls.specs.Refusal.{Condition, ◌unless◌, first}

-- "Formatting tests 4, then exact lengths by 7, 8 and 9, and looks at no bytes."
-- A ledger: "4 c not 1 to 999 (in formatting: R)", and a length of "24 × (R + 1) bytes"
abbrev pub ledger_conditions : List ℕ → ℕ → List Condition
ledger_conditions ledger rows = 4 unless numbered rows ∷ 7 unless eqb (length ledger) (24 * (rows + 1)) ∷ []

-- A card: "The title table is 16,000 bytes", "The rule table is 32,000 bytes"
abbrev pub card_conditions : List ℕ → List ℕ → List Condition
card_conditions titles rules = 8 unless eqb (length titles) 16000 ∷ 9 unless eqb (length rules) 32000 ∷ []

-- "Each number is returned on its condition and on no other."
unfoldable pub ledger_formatting : List ℕ → ℕ → ℕ
ledger_formatting ledger rows = first (ledger_conditions ledger rows)

unfoldable pub card_formatting : List ℕ → List ℕ → ℕ
card_formatting titles rules = first (card_conditions titles rules)

-- "Formatting a ledger or card writes a fresh one"; "A refusal changes no byte of any buffer."
unfoldable pub formatted_ledger : List ℕ → ℕ → ℕ → List ℕ
formatted_ledger ledger rows application = cond (eqb (ledger_formatting ledger rows) 0) (fresh_ledger rows application) ledger

unfoldable pub formatted_titles : Pair → List ℕ → List ℕ → List ℕ
formatted_titles pair titles rules = cond (eqb (card_formatting titles rules) 0) (fresh_titles pair) titles

unfoldable pub formatted_rules : Pair → List ℕ → List ℕ → ℕ → List ℕ
formatted_rules pair titles rules application = cond (eqb (card_formatting titles rules) 0) (fresh_rules pair application) rules
