-- The laws of the first condition that holds, and demand 1: of whatever answers it, and of every call.
-- Assumes nothing.
use Prim.Native.Nat.{ℕ, ◌≤◌}
use mathlib.Core.Path.{◌≡◌, refl, sym, ap, subst, ◌∙◌}
use mathlib.Core.Logic.{◌≢◌, inl, inr, ⊎_elim}
use mathlib.Core.List.{List, [], ◌∷◌, ◌++◌}
use mathlib.Core.Bool.{Bool, true, false, not, ◌&&◌, ◌||◌, cond, true≢false}
use native.Mathlib.Omega.{arith}
use native.Mathlib.Decide.{ℕ_discrete}
use lib.Dec.{eqb, leb}
use borrow.Author.Tests.{eq-eqb, ne_eqb, eqb-false, leb-true, not-true}
use Rattle.formats.specs.declared.head.Pair.{Pair}
use Rattle.formats.specs.Refusal.{refused_unless as answer}
use Rattle.requests.specs.declared.request.Request.{Request}
use Rattle.requests.specs.declared.request.Request.TheVariants.{Register, Record, CheckOut, CheckIn, MoveOut, MoveIn, Delete}
use Rattle.formats.proofs.Tests.{split, both, one_holds, refuted}
use Rattle.calls.specs.Buffers.{Buffers}
use Rattle.calls.specs.Refusal.{Condition, ◌when◌, ◌unless◌, first, numbers_of, FirstToHold, NoneHolds, RefusedFirst}
use Rattle.calls.specs.Conditions.{conditions}
use Rattle.calls.specs.Effect.{effect}
use Rattle.calls.specs.Perform.{refusal, perform, checked}

-- no condition has the number 0, which is the answer of a call that is done
abbrev pub refusing : List Condition → Bool
refusing [] = true
refusing ((n when b) ∷ rest) = not (eqb n 0) && refusing rest

-- neither the first of them nor those after it
other_than_0 : (n : ℕ) (rest : List Condition) → (not (eqb n 0) && refusing rest) ≡ true → (n ≢ 0) × (refusing rest ≡ true)
other_than_0 n rest r =
    let (p, q) = split (not (eqb n 0)) (refusing rest) r in
    (eqb-false n 0 (not-true (eqb n 0) p), q)

-- nor does one of two lists of them
pub both_refuse : (cs ds : List Condition) → refusing cs ≡ true → refusing ds ≡ true → refusing (cs ++ ds) ≡ true
both_refuse [] ds p q = q
both_refuse ((n when b) ∷ cs) ds p q =
    let (some, rest) = split (not (eqb n 0)) (refusing cs) p in
    both some (both_refuse cs ds rest q)

-- ONE CONDITION AFTER THE OTHER, as code tests them

-- a condition that holds gives the answer
pub hit : (n : ℕ) (b : Bool) (rest : List Condition) → b ≡ true → n ≡ first ((n when b) ∷ rest)
unfolding first
hit n b rest e = sym (ap (λ (x : Bool). cond x n (first rest)) e)

-- one that does not hold leaves it to the others
pub skip : (m n : ℕ) (b : Bool) (rest : List Condition) → b ≡ false → n ≡ first rest → n ≡ first ((m when b) ∷ rest)
unfolding first
skip m n b rest e q = q ∙ sym (ap (λ (x : Bool). cond x m (first rest)) e)

-- where none is left, the call is done
pub end : 0 ≡ first []
unfolding first
end = refl

-- a test that holds is no condition that holds, and a test that fails is one
pub holds_not : {b : Bool} → b ≡ true → not b ≡ false
holds_not e = ap not e

pub fails_so : {b : Bool} → b ≡ false → not b ≡ true
fails_so e = ap not e

-- the same of a test whose failing is the condition: it cannot hold, or it holds
module _ (n : ℕ) (b : Bool) (rest : List Condition) where
  pub fails : (b ≡ true → ⊥) → n ≡ first (n unless b ∷ rest)
  fails h = hit n (not b) rest (fails_so (refuted h))

  pub holds : {m : ℕ} → b ≡ true → m ≡ first rest → m ≡ first (n unless b ∷ rest)
  holds {m} e = skip n m (not b) rest (holds_not e)

-- a check that has answered its number refuses with it
pub answers : (n : ℕ) (b : Bool) (rest : List Condition) {w : ℕ} → w ≡ answer b n → (w ≡ 0 → ⊥) → w ≡ first (n unless b ∷ rest)
unfolding first
answers n true rest e h = absurd (h e)
answers n false rest e h = e

-- the last check's answer is the call's
pub answers_last : (n : ℕ) (b : Bool) {w : ℕ} → w ≡ answer b n → w ≡ first (n unless b ∷ [])
unfolding first
answers_last n true e = e
answers_last n false e = e

-- CONDITIONS IN STAGES

-- a stage that refuses gives the answer
pub first_stage : (cs ds : List Condition) {n : ℕ} → n ≡ first cs → n ≢ 0 → n ≡ first (cs ++ ds)
unfolding first
first_stage [] ds e some = absurd (some e)
first_stage ((m when true) ∷ cs) ds e some = e
first_stage ((m when false) ∷ cs) ds e some = first_stage cs ds e some

-- one that does not leaves it to the next
pub next_stage : (cs ds : List Condition) {n : ℕ} → refusing cs ≡ true → first cs ≡ 0 → n ≡ first ds → n ≡ first (cs ++ ds)
unfolding first
next_stage [] ds r e q = q
next_stage ((m when true) ∷ cs) ds r e q = absurd ((other_than_0 m cs r).0 e)
next_stage ((m when false) ∷ cs) ds r e q = next_stage cs ds (other_than_0 m cs r).1 e q

-- what an answer makes of a buffer: refused, it is the old one, and done, the new one
module _ {n answer : ℕ} (made old : List ℕ) (e : n ≡ answer) where
  pub kept : (n ≡ 0 → ⊥) → old ≡ cond (eqb answer 0) made old
  kept h = sym (ap (λ (x : Bool). cond x made old) (ne_eqb answer 0 (λ z. h (e ∙ z))))

  pub changed : n ≡ 0 → made ≡ cond (eqb answer 0) made old
  changed z = sym (ap (λ (x : Bool). cond x made old) (eq-eqb answer 0 (sym e ∙ z)))

-- conditions of which none holds leave the answer to those after them
pub past : (cs ds : List Condition) → NoneHolds cs → first (cs ++ ds) ≡ first ds
unfolding first
past [] ds h = refl
past ((n when true) ∷ cs) ds h = absurd (true≢false h.0)
past ((n when false) ∷ cs) ds h = past cs ds h.1

-- THE ANSWER AND THE CONDITIONS

-- the number of the first condition that holds is the answer
pub of_first : (n : ℕ) (cs : List Condition) → FirstToHold n cs → first cs ≡ n
unfolding first
of_first n [] h = elim h [ ]
of_first n ((m when true) ∷ cs) (inl h) = h.1
of_first n ((m when true) ∷ cs) (inr h) = absurd (true≢false h.0)
of_first n ((m when false) ∷ cs) (inl h) = absurd (true≢false (sym h.0))
of_first n ((m when false) ∷ cs) (inr h) = of_first n cs h.1

-- an answer other than 0 is the number of the first condition that holds
pub to_first : (n : ℕ) (cs : List Condition) → n ≢ 0 → first cs ≡ n → FirstToHold n cs
unfolding first
to_first n [] some e = absurd (some (sym e))
to_first n ((m when true) ∷ cs) some e = inl (refl, e)
to_first n ((m when false) ∷ cs) some e = inr (refl, to_first n cs some e)

-- the answer is 0 where no condition holds
pub of_none : (cs : List Condition) → NoneHolds cs → first cs ≡ 0
unfolding first
of_none [] h = refl
of_none ((m when true) ∷ cs) h = absurd (true≢false h.0)
of_none ((m when false) ∷ cs) h = of_none cs h.1

-- and only there
pub to_none : (cs : List Condition) → refusing cs ≡ true → first cs ≡ 0 → NoneHolds cs
unfolding first
to_none [] r e = tt
to_none ((m when true) ∷ cs) r e = absurd ((other_than_0 m cs r).0 e)
to_none ((m when false) ∷ cs) r e = (refl, to_none cs (other_than_0 m cs r).1 e)

-- where none holds, none of the later ones does
pub none_after : (cs ds : List Condition) → NoneHolds (cs ++ ds) → NoneHolds ds
none_after [] ds h = h
none_after ((m when b) ∷ cs) ds h = none_after cs ds h.1

-- a condition of number n holds
abbrev pub meets : ℕ → List Condition → Bool
meets n [] = false
meets n ((m when b) ∷ rest) = (eqb m n && b) || meets n rest

-- an answer other than 0 is the number of a condition that holds
pub only_met : (n : ℕ) (cs : List Condition) → n ≢ 0 → first cs ≡ n → meets n cs ≡ true
unfolding first
only_met n [] some e = absurd (some (sym e))
only_met n ((m when true) ∷ cs) some e = ap (λ (x : Bool). (x && true) || meets n cs) (eq-eqb m n e)
only_met n ((m when false) ∷ cs) some e = one_holds {a = eqb m n && false} (inr (only_met n cs some e))

-- DEMAND 1 of whatever answers the first of its conditions, and leaves what it found unless that is 0
pub refused_first : {A : Type 0} {numbers : List ℕ} (cs : List Condition) {answer : ℕ} {before after made : A} → numbers_of cs ≡ numbers → refusing cs ≡ true
    → answer ≡ first cs → after ≡ cond (eqb answer 0) made before → RefusedFirst A numbers cs answer before after made
refused_first cs {answer} {before} {after} {made} numbers refuses e left =
    record {
      checks = numbers;
      refused = λ n some h. e ∙ of_first n cs h;
      only_refused = λ n some d. to_first n cs some (sym e ∙ d);
      unchanged = λ some. left ∙ ap (λ (x : Bool). cond x made before) (ne_eqb answer 0 some);
      accepted = λ h. e ∙ of_none cs h;
      only_accepted = λ zero. to_none cs refuses (sym e ∙ zero);
      carried_out = λ zero. left ∙ ap (λ (x : Bool). cond x made before) (eq-eqb answer 0 zero);
    }

-- a condition that is tested before all others: it refuses, or leaves the answer to them
pub in_front : {A : Type 0} {numbers : List ℕ} {cs : List Condition} {answer : ℕ} {before after made : A} (n : ℕ) (x : Bool) → n ≢ 0
    → RefusedFirst A numbers cs answer before after made → RefusedFirst A (n ∷ numbers) ((n when x) ∷ cs) (cond x n answer) before (cond x before after) made
in_front n true some d =
    record {
      checks = ap (λ (l : List ℕ). n ∷ l) d.checks;
      refused = λ m other h. ⊎_elim (λ hit. hit.1) (λ later. absurd (true≢false later.0)) h;
      only_refused = λ m other e. inl (refl, e);
      unchanged = λ other. refl;
      accepted = λ none. absurd (true≢false none.0);
      only_accepted = λ zero. absurd (some zero);
      carried_out = λ zero. absurd (some zero);
    }
in_front n false some d =
    record {
      checks = ap (λ (l : List ℕ). n ∷ l) d.checks;
      refused = λ m other h. ⊎_elim (λ hit. absurd (true≢false (sym hit.0))) (λ later. d.refused m other later.1) h;
      only_refused = λ m other e. inr (refl, d.only_refused m other e);
      unchanged = d.unchanged;
      accepted = λ none. d.accepted none.1;
      only_accepted = λ zero. (refl, d.only_accepted zero);
      carried_out = d.carried_out;
    }

-- what holds of what was found, and of what is made where no condition holds, holds of what is left
pub either_way : {A : Type 0} {numbers : List ℕ} {cs : List Condition} {answer : ℕ} {before after made : A} (P : A → Type 0)
    → RefusedFirst A numbers cs answer before after made → P before → (NoneHolds cs → P made) → P after
either_way {answer = answer} P d found Made-so =
    elim (ℕ_discrete answer 0) [
      | yes zero ↦ subst P (sym (d.carried_out zero)) (Made-so (d.only_accepted zero))
      | no refused ↦ subst P (sym (d.unchanged refused)) found
    ]

-- THE CALLS

-- they check these numbers
numbers_checked : (pair : Pair) (k : Request) (b : Buffers) → numbers_of (conditions pair k b) ≡ checked k
unfolding conditions
numbers_checked pair (Register c f) b = refl
numbers_checked pair (Record c j f h) b = refl
numbers_checked pair (CheckOut c j) b = refl
numbers_checked pair (CheckIn j f1) b = refl
numbers_checked pair (MoveOut j h f) b = refl
numbers_checked pair (MoveIn c j h) b = refl
numbers_checked pair (Delete j f) b = refl

-- of which none is 0
pub none_is_0 : (pair : Pair) (k : Request) (b : Buffers) → refusing (conditions pair k b) ≡ true
unfolding conditions
none_is_0 pair (Register c f) b = refl
none_is_0 pair (Record c j f h) b = refl
none_is_0 pair (CheckOut c j) b = refl
none_is_0 pair (CheckIn j f1) b = refl
none_is_0 pair (MoveOut j h f) b = refl
none_is_0 pair (MoveIn c j h) b = refl
none_is_0 pair (Delete j f) b = refl

-- the first number of a list of conditions is one of theirs
abbrev at_most : ℕ → List ℕ → Bool
at_most m [] = true
at_most m (n ∷ ns) = leb n m && at_most m ns

pub first_most : (m : ℕ) (cs : List Condition) → at_most m (numbers_of cs) ≡ true → first cs ≤ m
unfolding first
first_most m [] e = omega arith
first_most m ((n when true) ∷ cs) e = leb-true n m (split (leb n m) (at_most m (numbers_of cs)) e).0
first_most m ((n when false) ∷ cs) e = first_most m cs (split (leb n m) (at_most m (numbers_of cs)) e).1

most_is_16 : (k : Request) → at_most 16 (checked k) ≡ true
most_is_16 (Register c f) = refl
most_is_16 (Record c j f h) = refl
most_is_16 (CheckOut c j) = refl
most_is_16 (CheckIn j f1) = refl
most_is_16 (MoveOut j h f) = refl
most_is_16 (MoveIn c j h) = refl
most_is_16 (Delete j f) = refl

module _ (pair : Pair) (k : Request) (b : Buffers) where
  -- a call answers what the first of its conditions that holds says
  pub answer_first : (perform pair k b).answer ≡ first (conditions pair k b)
  unfolding perform refusal
  answer_first = refl

  -- so a call answers 0 to 16
  pub answer_most : (perform pair k b).answer ≤ 16
  answer_most = rw answer_first (first_most 16 (conditions pair k b) (ap (at_most 16) (numbers_checked pair k b) ∙ most_is_16 k))

  -- "Each number is returned on its condition and on no other."
  pub refused_by : (n : ℕ) → n ≢ 0 → (perform pair k b).answer ≡ n → meets n (conditions pair k b) ≡ true
  refused_by n some e = only_met n (conditions pair k b) some (sym answer_first ∙ e)

  -- Demand 1: a call that meets a condition gets the number of the first one and changes nothing; every other call is done
  pub call_refused_first : RefusedFirst Buffers (checked k) (conditions pair k b) (perform pair k b).answer b (perform pair k b).buffers (effect k b)
  unfolding perform
  call_refused_first = refused_first (conditions pair k b) (numbers_checked pair k b) (none_is_0 pair k b) answer_first refl

  -- refused, it changes no byte
  pub unchanged : (perform pair k b).answer ≢ 0 → (perform pair k b).buffers ≡ b
  unchanged = call_refused_first.unchanged

  -- done, it leaves its effect
  pub carried_out : (perform pair k b).answer ≡ 0 → (perform pair k b).buffers ≡ effect k b
  carried_out = call_refused_first.carried_out
