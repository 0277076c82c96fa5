-- 4 to 6 of a call are the limits that the reader and the writer of requests test.
-- Assumes nothing.
use Prim.Native.Nat.{ℕ}
use mathlib.Core.Path.{◌≡◌, refl, sym, ap, ◌∙◌}
use mathlib.Core.List.{◌++◌}
use mathlib.Core.Logic.{◌≢◌}
use mathlib.Core.Bool.{Bool, true, false, not, ◌&&◌, cond}
use native.Mathlib.Omega.{arith}
use lib.Dec.{eqb}
use borrow.Author.Tests.{ne_eqb}
use Rattle.formats.specs.Facts.{numbered, facts_pass, cci_passes, trigger_passes, count_passes, key_passes, in_range, fact_values}
use Rattle.formats.specs.Refusal.{refused_unless}
use Rattle.formats.specs.declared.head.Pair.{Pair}
use Rattle.requests.specs.Request.{kind_of as call_of, fact_arguments, schema, first_limit, limit_of}
use Rattle.formats.specs.declared.facts.Facts.{Facts}
use Rattle.requests.specs.declared.request.Request.{Request}
use Rattle.requests.specs.declared.request.Request.TheVariants.{Register, Record, CheckOut, CheckIn, MoveOut, MoveIn, Delete}
use Rattle.calls.specs.Refusal.{first}
use Rattle.calls.specs.Buffers.{Buffers}
use Rattle.calls.specs.Conditions.{argument_conditions, all_head_conditions, state_conditions, conditions}
use Rattle.calls.specs.Perform.{perform}
use Rattle.calls.proofs.Refusals.{refusing, past, to_none, answer_first}

-- one test
pub one_limit : (x : Bool) (n : ℕ) {rest limits : ℕ} → n ≢ 0 → rest ≡ limits → cond (not x) n rest ≡ cond (eqb (refused_unless x n) 0) limits (refused_unless x n)
one_limit true n other e = e
one_limit false n {limits = limits} other e = sym (ap (λ (x : Bool). cond x limits n) (ne_eqb n 0 other))

-- and the six tests of facts, of which each is refused with 6
six_limits : (f : Facts) → cond (not (facts_pass f)) 6 0 ≡ first_limit fact_arguments (fact_values f)
unfolding first_limit in_range
six_limits f = by (cci_passes f.cci) (trigger_passes f.trigger) (count_passes f.rights) (count_passes f.permits) (key_passes f.title_key) (key_passes f.sti_key)
  where
    by : (a b c d e g : Bool)
        → cond (not ((a && (b && (c && d))) && (e && g))) 6 0
        ≡ cond (eqb (refused_unless a 6) 0)
        (cond (eqb (refused_unless b 6) 0)
        (cond (eqb (refused_unless c 6) 0)
        (cond (eqb (refused_unless d 6) 0) (cond (eqb (refused_unless e 6) 0) (cond (eqb (refused_unless g 6) 0) 0 (refused_unless g 6)) (refused_unless e 6)) (refused_unless d 6)) (refused_unless c 6))
        (refused_unless b 6))
        (refused_unless a 6)
    by false b c d e g = refl
    by true false c d e g = refl
    by true true false d e g = refl
    by true true true false e g = refl
    by true true true true false g = refl
    by true true true true true false = refl
    by true true true true true true = refl

pub limits_agree : (k : Request) → first (argument_conditions k) ≡ limit_of k
unfolding first limit_of first_limit schema in_range
limits_agree (Register c f) = one_limit (numbered c.0) 4 (λ e. omega arith) (six_limits f)
limits_agree (Record c j f h) =
    one_limit (numbered c.0) 4 (λ e. omega arith) (one_limit (numbered j.0) 5 (λ e. omega arith) (six_limits f))
limits_agree (CheckOut c j) = one_limit (numbered c.0) 4 (λ e. omega arith) (one_limit (numbered j.0) 5 (λ e. omega arith) refl)
limits_agree (CheckIn j f1) = one_limit (numbered j.0) 5 (λ e. omega arith) refl
limits_agree (MoveOut j h f) = one_limit (numbered j.0) 5 (λ e. omega arith) refl
limits_agree (MoveIn c j h) = one_limit (numbered c.0) 4 (λ e. omega arith) (one_limit (numbered j.0) 5 (λ e. omega arith) refl)
limits_agree (Delete j f) = one_limit (numbered j.0) 5 (λ e. omega arith) refl

-- none of them is 0
pub argument_numbers : (k : Request) → refusing (argument_conditions k) ≡ true
argument_numbers (Register c f) = refl
argument_numbers (Record c j f h) = refl
argument_numbers (CheckOut c j) = refl
argument_numbers (CheckIn j f1) = refl
argument_numbers (MoveOut j h f) = refl
argument_numbers (MoveIn c j h) = refl
argument_numbers (Delete j f) = refl

-- the conditions of a call that is lent the card, after those of its arguments
card_heads : (pair : Pair) (k : Request) (b : Buffers) → call_of k ≢ 1 → conditions pair k b ≡ argument_conditions k ++ (all_head_conditions pair b ++ state_conditions pair k b)
unfolding conditions
card_heads pair (Register c f) b lent = absurd (lent refl)
card_heads pair (Record c j f h) b lent = refl
card_heads pair (CheckOut c j) b lent = refl
card_heads pair (CheckIn j f1) b lent = refl
card_heads pair (MoveOut j h f) b lent = refl
card_heads pair (MoveIn c j h) b lent = refl
card_heads pair (Delete j f) b lent = refl

-- so where its arguments are within their limits, heads and state give the answer
pub after_arguments : (pair : Pair) (k : Request) (b : Buffers) → call_of k ≢ 1 → limit_of k ≡ 0
    → (perform pair k b).answer ≡ first (all_head_conditions pair b ++ state_conditions pair k b)
after_arguments pair k b lent within =
    answer_first pair k b
    ∙ ap first (card_heads pair k b lent)
    ∙ past (argument_conditions k) (all_head_conditions pair b ++ state_conditions pair k b) (to_none (argument_conditions k) (argument_numbers k) (limits_agree k ∙ within))
