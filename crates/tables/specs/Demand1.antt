-- Demand 1 of formatting and of the tally, in the two forms in which it is said of the calls: by conditions, and by needs in the
-- paper's words.
use Rattle.std.specs.Prelude.{ℕ, ◌+◌, ◌*◌, ◌≡◌, List, [], ◌∷◌, length}
use Rattle.formats.specs.declared.head.Pair.{Pair}
use Rattle.formats.specs.Bytes.{Bytes}
use Rattle.formats.specs.Head.{TitlesHead, RulesHead, fresh_ledger, fresh_titles, fresh_rules}
use Rattle.calls.specs.Buffers.{copies, Within}
use Rattle.calls.specs.Refusal.{RefusedFirst}
use Rattle.calls.specs.Needs.{◌needs◌, AnsweredBy}
use Rattle.tables.specs.Format.{ledger_conditions, ledger_formatting, formatted_ledger, card_conditions, card_formatting, formatted_titles, formatted_rules}
use Rattle.tables.specs.Tally.{tally_conditions, tallied}
use Rattle.tables.specs.Told.{RefusedOrTold, ToldOtherPair}

-- "Formatting tests 4, then exact lengths by 7, 8 and 9, and looks at no bytes.": a ledger
pub record FormatsLedger (ledger : List ℕ) (rows application : ℕ) : Type 0 where
  pub refused_first : RefusedFirst (List ℕ) (4 ∷ 7 ∷ []) (ledger_conditions ledger rows) (ledger_formatting ledger rows)
      ledger (formatted_ledger ledger rows application) (fresh_ledger rows application)
  pub answered : AnsweredBy (4 needs Within 999 rows ∷ 7 needs (length ledger ≡ 24 * (rows + 1)) ∷ []) (ledger_formatting ledger rows)
  pub same_length : length (formatted_ledger ledger rows application) ≡ length ledger
  pub stays_bytes : Bytes ledger → Bytes (formatted_ledger ledger rows application)

-- a card, both tables or none
pub record FormatsCard (pair : Pair) (titles rules : List ℕ) (application : ℕ) : Type 0 where
  pub refused_first : RefusedFirst (List ℕ × List ℕ) (8 ∷ 9 ∷ []) (card_conditions titles rules) (card_formatting titles rules)
      (titles, rules) (formatted_titles pair titles rules, formatted_rules pair titles rules application) (fresh_titles pair, fresh_rules pair application)
  pub answered : AnsweredBy (8 needs (length titles ≡ 16000) ∷ 9 needs (length rules ≡ 32000) ∷ []) (card_formatting titles rules)
  pub same_lengths : (length (formatted_titles pair titles rules) ≡ length titles) × (length (formatted_rules pair titles rules application) ≡ length rules)
  pub stay_bytes : Bytes titles → Bytes rules → Bytes (formatted_titles pair titles rules) × Bytes (formatted_rules pair titles rules application)

-- the tally
abbrev pub Tallies : Pair → List ℕ → List ℕ → ℕ → Type 0
Tallies pair titles rules c =
    RefusedOrTold (4 ∷ 8 ∷ 9 ∷ []) (tally_conditions pair titles rules c)
    (4 needs Within 999 c ∷ 8 needs TitlesHead pair titles ∷ 9 needs RulesHead pair rules ∷ []) (tallied pair titles rules c) (copies c titles rules ∷ [])

abbrev pub TalliesOtherPair : Pair → List ℕ → List ℕ → ℕ → Type 0
TalliesOtherPair pair titles rules c = ToldOtherPair pair titles rules (4 needs Within 999 c ∷ []) (tallied pair titles rules c)

-- DEMAND 1, of formatting and tally
pub record Demand1Tables : Type 0 where
  pub ledger : (ledger : List ℕ) (rows application : ℕ) → FormatsLedger ledger rows application
  pub card : (pair : Pair) (titles rules : List ℕ) (application : ℕ) → FormatsCard pair titles rules application
  pub tally : (pair : Pair) (titles rules : List ℕ) (c : ℕ) → Tallies pair titles rules c
  pub of_other_pair : (pair : Pair) (titles rules : List ℕ) (c : ℕ) → TalliesOtherPair pair titles rules c
