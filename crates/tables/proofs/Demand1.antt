-- Demand 1 of formatting and of the tally.
-- Assumes nothing.
use Prim.Native.Nat.{ℕ, ◌+◌, ◌*◌}
use mathlib.Core.Path.{◌≡◌, refl, sym, ◌∙◌}
use mathlib.Core.List.{List, [], ◌∷◌}
use mathlib.Core.Bool.{Bool, true, false, not, cond}
use lib.Dec.{eqb}
use lib.ListN.{length}
use borrow.Author.Tests.{eqb-true, not-false}
use Rattle.formats.specs.declared.head.Pair.{Pair}
use Rattle.formats.specs.Bytes.{Bytes}
use Rattle.formats.specs.Head.{fresh_titles, fresh_rules}
use Rattle.formats.proofs.head.Laws.{fresh_ledger_length, fresh_titles_length, fresh_rules_length, fresh_ledger_bytes, fresh_titles_bytes, fresh_rules_bytes}
use Rattle.calls.specs.Buffers.{copies, Within}
use Rattle.calls.specs.Needs.{◌needs◌}
use Rattle.tables.specs.Format.{ledger_conditions, ledger_formatting, formatted_ledger, card_conditions, card_formatting, formatted_titles, formatted_rules}
use Rattle.tables.specs.Tally.{tallied}
use Rattle.tables.proofs.Told.{told_first, told_other_pair}
use Rattle.tables.specs.Demand1.{FormatsLedger, FormatsCard, Tallies, Demand1Tables}
use Rattle.calls.proofs.Refusals.{refused_first, either_way}
use Rattle.calls.proofs.Passed.{end, ◌then◌, answered_by, tests_number, tests_same, tests_titles, tests_rule_head}

-- a test of a length that does not refuse
long : (n m : ℕ) → not (eqb n m) ≡ false → n ≡ m
long n m e = eqb-true n m (not-false (eqb n m) e)

formats_ledger : (ledger : List ℕ) (rows application : ℕ) → FormatsLedger ledger rows application
unfolding ledger_formatting formatted_ledger
formats_ledger ledger rows application =
    let d = refused_first (ledger_conditions ledger rows) refl refl refl refl in
    record {
      refused_first = d;
      answered = answered_by (tests_number rows then tests_same (length ledger) (24 * (rows + 1)) then end) refl refl;
      same_length =
          either_way (λ (l : List ℕ). length l ≡ length ledger) d refl
          (λ none. fresh_ledger_length rows application ∙ sym (long (length ledger) (24 * (rows + 1)) none.1.0));
      stays_bytes = λ bytes. either_way Bytes d bytes (λ none. fresh_ledger_bytes rows application);
    }

formats_card : (pair : Pair) (titles rules : List ℕ) (application : ℕ) → FormatsCard pair titles rules application
unfolding card_formatting formatted_titles formatted_rules
formats_card pair titles rules application =
    let d = refused_first (card_conditions titles rules) refl refl refl (both_or_none (eqb (card_formatting titles rules) 0)) in
    record {
      refused_first = d;
      answered = answered_by (tests_same (length titles) 16000 then tests_same (length rules) 32000 then end) refl refl;
      same_lengths =
          either_way (λ (p : List ℕ × List ℕ). (length p.0 ≡ length titles) × (length p.1 ≡ length rules)) d (refl, refl)
          (λ none. (fresh_titles_length pair ∙ sym (long (length titles) 16000 none.0), fresh_rules_length pair application ∙ sym (long (length rules) 32000 none.1.0)));
      stay_bytes = λ t r.
          either_way (λ (p : List ℕ × List ℕ). Bytes p.0 × Bytes p.1) d (t, r) (λ none. (fresh_titles_bytes pair, fresh_rules_bytes pair application));
    }
  where
    both_or_none : (x : Bool)
        → ◌≡◌ {A = List ℕ × List ℕ} (cond x (fresh_titles pair) titles, cond x (fresh_rules pair application) rules) (cond x (fresh_titles pair, fresh_rules pair application) (titles, rules))
    both_or_none true = refl
    both_or_none false = refl

tallies : (pair : Pair) (titles rules : List ℕ) (c : ℕ) → Tallies pair titles rules c
unfolding tallied
tallies pair titles rules c =
    told_first (copies c titles rules ∷ []) (tests_number c then tests_titles pair titles then tests_rule_head pair rules then end) refl refl

-- DEMAND 1
pub demand_1_tables : Demand1Tables
demand_1_tables = record { ledger = formats_ledger; card = formats_card; tally = tallies; of_other_pair = λ pair titles rules c. told_other_pair pair titles rules (4 needs Within 999 c ∷ []) _ (λ h. h) (tallies pair titles rules c).answered }
