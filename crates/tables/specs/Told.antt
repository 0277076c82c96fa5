-- What is told of buffers that are only read, by tally and inspection: it is checked as in a call, and told where no check refuses.
use Rattle.std.specs.Prelude.{ℕ, ◌≡◌, List, [], ◌∷◌, cond, eqb}
use Rattle.formats.specs.declared.head.Pair.{Pair}
use Rattle.formats.specs.Answer.{Answer, done, refused}
use Rattle.formats.specs.Head.{TitlesHead, RulesHead, titles_pass, rules_pass}
use Rattle.calls.specs.Refusal.{Condition, ◌unless◌, first, RefusedFirst}
use Rattle.calls.specs.Needs.{Need, AllMet, AnsweredBy}
use Rattle.calls.specs.Pairs.{other_pair}

-- the number of the first condition that holds, alone; or 0, with the values
unfoldable pub told_after : List Condition → List ℕ → Answer
told_after cs values = cond (eqb (first cs) 0) (done values) (refused (first cs))

-- "8 title table length or head wrong"; "9 rule table likewise, its application number other than the ledger's included (a tally,
-- without ledger, skips that number)"
abbrev pub card_head_conditions : Pair → List ℕ → List ℕ → List Condition
card_head_conditions pair titles rules = 8 unless titles_pass pair titles ∷ 9 unless rules_pass pair rules ∷ []

-- DEMAND 1 of what is told so, in the two forms in which it is said of the calls: by conditions, and by needs in the paper's words. A
-- refusal has no value; where nothing refuses, these values are told
pub record RefusedOrTold (numbers : List ℕ) (cs : List Condition) (needed : List Need) (answer : Answer) (values : List ℕ) : Type 0 where
  pub refused_first : RefusedFirst (List ℕ) numbers cs answer.number [] answer.values values
  pub answered : AnsweredBy needed answer.number

-- on a card of the other pair it is answered 8, where all is met that is needed before the card's heads; where only the rule table is
-- of the other pair, 9
pub record ToldOtherPair (pair : Pair) (titles rules : List ℕ) (before : List Need) (answer : Answer) : Type 0 where
  pub by_titles : AllMet before → TitlesHead (other_pair pair) titles → answer.number ≡ 8
  pub by_rules : AllMet before → TitlesHead pair titles → RulesHead (other_pair pair) rules → answer.number ≡ 9
