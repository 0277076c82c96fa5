-- What formatting leaves is fresh, so the history theorem holds of it.
-- Assumes nothing.
use Prim.Native.Nat.{ℕ}
use mathlib.Core.Path.{◌≡◌, refl}
use mathlib.Core.List.{List}
use borrow.Author.Tests.{eq-eqb}
use Rattle.formats.specs.declared.head.Pair.{Pair}
use Rattle.formats.specs.Head.{fresh_ledger, fresh_titles, fresh_rules}
use Rattle.tables.specs.Format.{ledger_conditions, ledger_formatting, formatted_ledger, card_formatting, formatted_titles, formatted_rules}
use Rattle.tables.specs.History.{FormattedHistory}
use Rattle.calls.proofs.Refusals.{to_none}
use Rattle.calls.proofs.Passed.{is_numbered}
use Rattle.calls.proofs.History.Always.{history}

-- where formatting answers 0 it leaves fresh tables
pub ledger_fresh : (ledger : List ℕ) (rows application : ℕ) → ledger_formatting ledger rows ≡ 0 → formatted_ledger ledger rows application ≡ fresh_ledger rows application
unfolding formatted_ledger
ledger_fresh ledger rows application e = simp (eq-eqb (ledger_formatting ledger rows) 0 e)

module _ (pair : Pair) (titles rules : List ℕ) (e : card_formatting titles rules ≡ 0) where
  pub titles_fresh : formatted_titles pair titles rules ≡ fresh_titles pair
  unfolding formatted_titles
  titles_fresh = simp (eq-eqb (card_formatting titles rules) 0 e)

  pub rules_fresh : (application : ℕ) → formatted_rules pair titles rules application ≡ fresh_rules pair application
  unfolding formatted_rules
  rules_fresh application = simp (eq-eqb (card_formatting titles rules) 0 e)

-- DEMAND 3 of what formatting leaves
pub formatted_history : FormattedHistory
unfolding ledger_formatting
formatted_history pair ledger titles rules rows application card_application made-ledger made-card ks =
    let r = is_numbered rows (to_none (ledger_conditions ledger rows) refl made-ledger).0 in
    rw (ledger_fresh ledger rows application made-ledger, titles_fresh pair titles rules made-card, rules_fresh pair titles rules made-card card_application)
    (history pair rows application card_application r.from r.to ks)
