-- What is told after checks: by what the checks answer, and demand 1 of it.
-- Assumes nothing.
use Prim.Native.Nat.{ℕ}
use mathlib.Core.Path.{◌≡◌, refl, sym, ap, ap₂, ◌∙◌}
use mathlib.Core.Logic.{◌≢◌, inl, inr}
use mathlib.Core.List.{List, [], ◌∷◌, ◌++◌}
use mathlib.Core.Bool.{Bool, true, false, cond}
use native.Mathlib.Decide.{ℕ_discrete}
use lib.Dec.{eqb}
use borrow.Author.Tests.{eq-eqb, ne_eqb}
use Rattle.formats.specs.Answer.{Answer, case, done, refused}
use Rattle.formats.specs.Head.{TitlesHead, RulesHead}
use Rattle.formats.specs.declared.head.Pair.{Pair}
use Rattle.calls.specs.Refusal.{Condition, first, numbers_of}
use Rattle.calls.specs.Needs.{Need, ◌needs◌, AllMet, FirstUnmet, AnsweredBy}
use Rattle.calls.proofs.Refusals.{refusing, refused_first}
use Rattle.calls.proofs.Passed.{InStep, answered_by}
use Rattle.calls.proofs.Pairs.{other_titles, other_rules}
use Rattle.tables.specs.Told.{told_after, RefusedOrTold, ToldOtherPair}

-- WHAT CODE ANSWERS
module _ (cs : List Condition) (values : List ℕ) {w : ℕ} (e : w ≡ first cs) where
  -- a check refuses, and its number is all there is
  pub refused_alone : (w ≡ 0 → ⊥) → refused w ≡ told_after cs values
  unfolding told_after
  refused_alone h = ap refused e ∙ simp (ne_eqb (first cs) 0 (λ z. h (e ∙ z)))

  -- none does
  pub done_with : w ≡ 0 → {shown : List ℕ} → shown ≡ values → done shown ≡ told_after cs values
  unfolding told_after
  done_with z same = ap done same ∙ simp (eq-eqb (first cs) 0 (sym e ∙ z))

-- DEMAND 1
number_is : (n : ℕ) (values : List ℕ) → (cond (eqb n 0) (done values) (refused n)).number ≡ n
number_is n values = elim (ℕ_discrete n 0) [ yes zero ↦ rw (eq-eqb n 0 zero) (sym zero) | no other ↦ rw (ne_eqb n 0 other) ]

values_are : (x : Bool) (n : ℕ) (values : List ℕ) → (cond x (done values) (refused n)).values ≡ cond x values []
values_are true n values = refl
values_are false n values = refl

pub told_first : {numbers : List ℕ} {cs : List Condition} {needed : List Need} (values : List ℕ) → InStep cs needed → numbers_of cs ≡ numbers
    → refusing cs ≡ true → RefusedOrTold numbers cs needed (told_after cs values) values
unfolding told_after
told_first {cs = cs} values step numbers refuses =
    let n = first cs in
    record {
      refused_first =
          refused_first cs numbers refuses (number_is n values)
          (values_are (eqb n 0) n values ∙ ap (λ (m : ℕ). cond (eqb m 0) values []) (sym (number_is n values)));
      answered = answered_by step refuses (number_is n values);
    }

-- so where it is answered 0 it is done with the values
pub told_done : {numbers : List ℕ} {cs : List Condition} {needed : List Need} {answer : Answer} {values : List ℕ} → RefusedOrTold numbers cs needed answer values
    → answer.number ≡ 0 → answer ≡ done values
told_done told zero = ap₂ case zero (told.refused_first.carried_out zero)

-- where all before it are met, the first need that is not met is the first of all
first_after : (n : ℕ) (before rest : List Need) → AllMet before → FirstUnmet n rest → FirstUnmet n (before ++ rest)
first_after n [] rest met unmet = unmet
first_after n ((m needs P) ∷ before) rest met unmet = inr (met.0, first_after n before rest met.1 unmet)

-- and where it is answered another number, it has no value
pub told_refused : {numbers : List ℕ} {cs : List Condition} {needed : List Need} {answer : Answer} {values : List ℕ} → RefusedOrTold numbers cs needed answer values
    → (n : ℕ) → n ≢ 0 → answer.number ≡ n → answer ≡ refused n
told_refused told n some e = ap₂ case e (told.refused_first.unchanged (λ z. some (sym e ∙ z)))

-- on a card of the other pair, whatever else is needed of the rule table
pub told_other_pair : (pair : Pair) (titles rules : List ℕ) (before after : List Need) {R : Type 0} {answer : Answer} → (R → RulesHead pair rules)
    → AnsweredBy (before ++ (8 needs TitlesHead pair titles ∷ 9 needs R ∷ after)) answer.number → ToldOtherPair pair titles rules before answer
told_other_pair pair titles rules before after head answered =
    record {
      by_titles = λ met t. answered.refused 8 (first_after 8 before _ met (inl (other_titles pair titles t, refl)));
      by_rules = λ met t r. answered.refused 9 (first_after 9 before _ met (inr (t, inl (λ h. other_rules pair rules r (head h), refl))));
    }
