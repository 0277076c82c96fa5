-- `tables::shop::Shop::check_heads` meets its contract.
-- Assumes nothing.
use Prim.Native.Nat.{ℕ}
use mathlib.Core.Path.{◌≡◌, refl, sym, ap, ◌∙◌}
use mathlib.Core.Bool.{true, ◌&&◌}
use native.Mathlib.Omega.{arith}
use lib.Dec.{eqb}
use Rattle.formats.specs.declared.head.Pair.{Pair}
use Rattle.formats.specs.Head.{ledger_passes, ledger_application, ledger_answer, titles_pass, titles_answer, rules_pass, rules_application, rules_answer_for}
use Rattle.formats.proofs.Tests.{passed}
use Rattle.calls.specs.Buffers.{Buffers}
use Rattle.calls.specs.Refusal.{first}
use Rattle.calls.specs.Conditions.{all_head_conditions}
use Rattle.calls.proofs.Refusals.{holds, answers, answers_last}
use Rattle.formats.proofs.refusal.Laws.{some_number, handed_on}
use Rattle.tables.proofs.shop.Shop.check_heads.Goals as goal

module _ (pair : Pair) (b : Buffers) where
  ledger_wrong : {w : ℕ} → w ≡ ledger_answer b.ledger → (w ≡ 0 → ⊥) → w ≡ first (all_head_conditions pair b)
  ledger_wrong e some = answers 7 (ledger_passes b.ledger) _ e some

  module _ {v : ℕ} (e : v ≡ ledger_answer b.ledger) (z : v ≡ 0) where
    ledger_right : ledger_passes b.ledger ≡ true
    ledger_right = passed (ledger_passes b.ledger) 7 (omega arith) (sym e ∙ z)

    titles_wrong : {w : ℕ} → w ≡ titles_answer pair b.titles → (w ≡ 0 → ⊥) → w ≡ first (all_head_conditions pair b)
    titles_wrong t some = holds 7 (ledger_passes b.ledger) _ ledger_right (answers 8 (titles_pass pair b.titles) _ t some)

    rules_last : {w m x : ℕ} → w ≡ titles_answer pair b.titles → w ≡ 0 → m ≡ ledger_application b.ledger → x ≡ rules_answer_for pair m b.rules → x ≡ first (all_head_conditions pair b)
    rules_last t y m r =
        holds 7 (ledger_passes b.ledger) _ ledger_right
        (holds 8 (titles_pass pair b.titles) _ (passed (titles_pass pair b.titles) 8 (omega arith) (sym t ∙ y))
        (answers_last 9 (rules_pass pair b.rules && eqb (rules_application b.rules) (ledger_application b.ledger))
        (r ∙ ap (λ (n : ℕ). rules_answer_for pair n b.rules) m)))

pub returns-in_err-check_ledger : goal.returns-in_err-check_ledger
returns-in_err-check_ledger c =
    handed_on c.from_residual.result _ c.from_residual.ensures.1
    ∙ ledger_wrong _ _ c.in_err-check_ledger.ensures (some_number _)

pub returns-in_err-check_titles : goal.returns-in_err-check_titles
returns-in_err-check_titles c =
    handed_on c.from_residual-in_err-check_titles.result _ c.from_residual-in_err-check_titles.ensures.1
    ∙ titles_wrong _ _ c.in_ok-check_ledger.ensures refl c.in_err-check_titles.ensures (some_number _)

pub returns : goal.returns
returns c =
    rules_last _ _ c.in_ok-check_ledger.ensures refl c.in_ok-check_titles.ensures refl
    c.ledger_application.ensures c.check_rules_for.ensures
