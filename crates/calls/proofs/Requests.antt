-- Demand 1 of reading and of writing a request.
-- Assumes nothing.
use Prim.Native.Nat.{ℕ}
use mathlib.Core.Path.{◌≡◌, refl, sym, ap, ◌∙◌}
use mathlib.Core.Logic.{⊎_elim}
use mathlib.Core.List.{List, [], ◌∷◌, ◌++◌, append_assoc}
use mathlib.Core.Bool.{Bool, true, false, cond}
use native.Mathlib.Omega.{arith}
use native.Mathlib.Decide.{ℕ_discrete}
use lib.ListN.{length, get_or, drop}
use lib.Dec.{ltb, eqb}
use borrow.Author.Tests.{eq-eqb, ne_eqb, ltb-false}
use Rattle.formats.specs.Answer.{done}
use Rattle.formats.specs.Part.{put}
use Rattle.formats.proofs.Part.{put_length}
use Rattle.requests.specs.Number.{NumberRead, Number, Refused as NoNumber, Wrote, NotWritten, read_number, writing, written_to, written_answer}
use Rattle.requests.specs.Request.{ArgumentsRead, Values, Fault, RequestRead, Read, Refused, passes, kind_passes, limit, kind_limit, schema, kind_of, values_of, written, first_limit, limit_of, with_value, read_arguments, as_request, read_request, request_answer, remainder_of, writing_request, request_written_to}
use Rattle.requests.specs.declared.request.Argument.{Argument}
use Rattle.requests.specs.declared.request.Argument.TheVariants.{Content, Entry, Cci, Trigger, Rights, Permits, Key, Any}
use Rattle.requests.specs.declared.request.Request.{Request}
use Rattle.requests.proofs.number.Laws.{refusals}
use Rattle.requests.proofs.request.Laws.{values_size}
use Rattle.requests.proofs.request.Writing.{writing_request_keeps_bytes}
use Rattle.requests.proofs.request.Cases.{argument_refused, argument_limit, argument_value, kind_refused, kind_limit_lem, kind_value}
use Rattle.calls.specs.Refusal.{Condition, ◌when◌, first, numbers_of}
use Rattle.calls.specs.Requests.{limit_conditions, number_conditions, value_read, bytes_after, arguments_conditions, kind_condition, reading_conditions, values_conditions, writing_conditions, limit_numbers, arguments_numbers, values_numbers, Reads, Writes, Demand1Requests}
use Rattle.calls.proofs.Refusals.{refusing, refused_first, either_way, none_after}
use Rattle.calls.proofs.Limits.{one_limit, limits_agree}

-- ONE ARGUMENT: the conditions of its limit before others
record Tested (a : Argument) (v : ℕ) (cs : List Condition) : Type 0 where
  numbers : numbers_of (limit_conditions a v ++ cs) ≡ limit_numbers a ++ numbers_of cs
  refuses : refusing (limit_conditions a v ++ cs) ≡ refusing cs
  answer : first (limit_conditions a v ++ cs) ≡ cond (eqb (limit a v) 0) (first cs) (limit a v)

tested : (a : Argument) (v : ℕ) (cs : List Condition) → Tested a v cs
unfolding first
tested Content v cs = record { numbers = refl; refuses = refl; answer = one_limit (passes Content v) 4 (λ e. omega arith) refl }
tested Entry v cs = record { numbers = refl; refuses = refl; answer = one_limit (passes Entry v) 5 (λ e. omega arith) refl }
tested Cci v cs = record { numbers = refl; refuses = refl; answer = one_limit (passes Cci v) 6 (λ e. omega arith) refl }
tested Trigger v cs = record { numbers = refl; refuses = refl; answer = one_limit (passes Trigger v) 6 (λ e. omega arith) refl }
tested Rights v cs = record { numbers = refl; refuses = refl; answer = one_limit (passes Rights v) 6 (λ e. omega arith) refl }
tested Permits v cs = record { numbers = refl; refuses = refl; answer = one_limit (passes Permits v) 6 (λ e. omega arith) refl }
tested Key v cs = record { numbers = refl; refuses = refl; answer = one_limit (passes Key v) 6 (λ e. omega arith) refl }
tested Any v cs = record { numbers = refl; refuses = refl; answer = refl }

-- READING

-- a number that is refused is the answer
number_refused : (s : List ℕ) (cs : List Condition) {w : ℕ} → read_number s ≡ NoNumber w → first (number_conditions s ++ cs) ≡ w
unfolding first
number_refused s cs {w} e = rw e (⊎_elim (λ one. simp (eq-eqb w 1 one) (sym one)) (λ two. simp (ne_eqb w 1 (λ one. omega arith), eq-eqb w 2 two) (sym two)) (refusals s e))

-- one that is read leaves it to what comes after
number_read : (s : List ℕ) (cs : List Condition) {v k : ℕ} → read_number s ≡ Number v k → first (number_conditions s ++ cs) ≡ first cs
unfolding first
number_read s cs e = rw e refl

-- the refusal of arguments that were read
fault_of : ArgumentsRead → ℕ
fault_of (Values vs n) = 0
fault_of (Fault w) = w

same_fault : (v k : ℕ) (x : ArgumentsRead) → fault_of (with_value v k x) ≡ fault_of x
unfolding fault_of
same_fault v k (Values vs n) = refl
same_fault v k (Fault w) = refl

arguments_numbers_lem : (sch : List Argument) (s : List ℕ) → numbers_of (arguments_conditions sch s) ≡ arguments_numbers sch
unfolding arguments_conditions
arguments_numbers_lem [] s = refl
arguments_numbers_lem (a ∷ rest) s =
    ap (λ (l : List ℕ). 1 ∷ 2 ∷ l)
    ((tested a (value_read (read_number s)) (arguments_conditions rest (bytes_after s (read_number s)))).numbers
    ∙ ap (λ (l : List ℕ). limit_numbers a ++ l) (arguments_numbers_lem rest (bytes_after s (read_number s))))

arguments_refuse : (sch : List Argument) (s : List ℕ) → refusing (arguments_conditions sch s) ≡ true
unfolding arguments_conditions
arguments_refuse [] s = refl
arguments_refuse (a ∷ rest) s =
    (tested a (value_read (read_number s)) (arguments_conditions rest (bytes_after s (read_number s)))).refuses ∙ arguments_refuse rest (bytes_after s (read_number s))

-- the kind
kind_tested : (v : ℕ) (cs : List Condition) → first (kind_condition v ∷ cs) ≡ cond (eqb (kind_limit v) 0) (first cs) (kind_limit v)
unfolding first
kind_tested v cs = one_limit (kind_passes v) 3 (λ e. omega arith) refl

-- an argument, where the answer of those after it is known
argument_answer : (a : Argument) (rest : List Argument) (s : List ℕ) → ((t : List ℕ) → fault_of (read_arguments rest t) ≡ first (arguments_conditions rest t))
    → (x : NumberRead) → read_number s ≡ x → fault_of (read_arguments (a ∷ rest) s) ≡ first (arguments_conditions (a ∷ rest) s)
unfolding arguments_conditions fault_of
argument_answer a rest s after (NoNumber w) e = ap fault_of (argument_refused a rest s e) ∙ sym (number_refused s _ e)
argument_answer a rest s after (Number v k) e =
    let cs = arguments_conditions rest (drop k s) in
    let answer : first (arguments_conditions (a ∷ rest) s) ≡ cond (eqb (limit a v) 0) (first cs) (limit a v) =
    number_read s _ e
    ∙ ap (λ (y : NumberRead). first (limit_conditions a (value_read y) ++ arguments_conditions rest (bytes_after s y))) e
    ∙ (tested a v cs).answer in
    elim (ℕ_discrete (limit a v) 0) [
      | yes zero ↦
          ap fault_of (argument_value a rest s e zero)
          ∙ same_fault v k (read_arguments rest (drop k s))
          ∙ after (drop k s)
          ∙ sym (answer ∙ ap (λ (x : Bool). cond x (first cs) (limit a v)) (eq-eqb (limit a v) 0 zero))
      | no other ↦
          ap fault_of (argument_limit a rest s e other) ∙ sym (answer ∙ ap (λ (x : Bool). cond x (first cs) (limit a v)) (ne_eqb (limit a v) 0 other))
    ]

arguments_answer_lem : (sch : List Argument) (s : List ℕ) → fault_of (read_arguments sch s) ≡ first (arguments_conditions sch s)
unfolding read_arguments arguments_conditions first fault_of
arguments_answer_lem [] s = refl
arguments_answer_lem (a ∷ rest) s = argument_answer a rest s (λ t. arguments_answer_lem rest t) (read_number s) refl

-- what was read has the fault of its arguments
request_fault : (v k : ℕ) (x : ArgumentsRead) → (request_answer (as_request v k x)).number ≡ fault_of x
unfolding fault_of
request_fault v k (Values vs n) = refl
request_fault v k (Fault w) = refl

reading_answer : (s : List ℕ) (x : NumberRead) → read_number s ≡ x → (request_answer (read_request s)).number ≡ first (reading_conditions s)
unfolding reading_conditions
reading_answer s (NoNumber w) e = ap (λ (r : RequestRead). (request_answer r).number) (kind_refused s e) ∙ sym (number_refused s _ e)
reading_answer s (Number v k) e =
    let cs = arguments_conditions (schema v) (drop k s) in
    let answer : first (reading_conditions s) ≡ cond (eqb (kind_limit v) 0) (first cs) (kind_limit v) =
    number_read s _ e
    ∙ ap (λ (y : NumberRead). first (kind_condition (value_read y) ∷ arguments_conditions (schema (value_read y)) (bytes_after s y))) e
    ∙ kind_tested v cs in
    elim (ℕ_discrete (kind_limit v) 0) [
      | yes zero ↦
          ap (λ (r : RequestRead). (request_answer r).number) (kind_value s e zero)
          ∙ request_fault v k (read_arguments (schema v) (drop k s))
          ∙ arguments_answer_lem (schema v) (drop k s)
          ∙ sym (answer ∙ ap (λ (x : Bool). cond x (first cs) (kind_limit v)) (eq-eqb (kind_limit v) 0 zero))
      | no other ↦
          ap (λ (r : RequestRead). (request_answer r).number) (kind_limit_lem s e other)
          ∙ sym (answer ∙ ap (λ (x : Bool). cond x (first cs) (kind_limit v)) (ne_eqb (kind_limit v) 0 other))
    ]

-- the remainder: all of the bytes on a refusal
the_same : (x : Bool) (s : List ℕ) → s ≡ cond x s s
the_same true s = refl
the_same false s = refl

remainder_left : (s : List ℕ) (x : RequestRead) → remainder_of s x ≡ cond (eqb (request_answer x).number 0) (drop (get_or (request_answer x).values 0 0) s) s
remainder_left s (Read q k) = refl
remainder_left s (Refused w) = the_same (eqb w 0) s

reads : (s : List ℕ) → Reads s
unfolding reading_conditions
reads s =
    refused_first (reading_conditions s) (ap (λ (l : List ℕ). 1 ∷ 2 ∷ 3 ∷ l) (arguments_numbers_lem (schema (value_read (read_number s))) (bytes_after s (read_number s))))
    (arguments_refuse (schema (value_read (read_number s))) (bytes_after s (read_number s))) (reading_answer s (read_number s) refl) (remainder_left s (read_request s))

-- WRITING

-- the limits of values, before others
record ValuesTested (sch : List Argument) (vs : List ℕ) (cs : List Condition) : Type 0 where
  numbers : length vs ≡ length sch → numbers_of (values_conditions sch vs ++ cs) ≡ values_numbers sch ++ numbers_of cs
  refuses : refusing (values_conditions sch vs ++ cs) ≡ refusing cs
  answer : first (values_conditions sch vs ++ cs) ≡ cond (eqb (first_limit sch vs) 0) (first cs) (first_limit sch vs)

-- one more in front
more_tested : (a : Argument) (v : ℕ) (rest : List Argument) (vs : List ℕ) (cs : List Condition) → ValuesTested rest vs cs → ValuesTested (a ∷ rest) (v ∷ vs) cs
unfolding values_conditions first_limit
more_tested a v rest vs cs after =
    let ds = values_conditions rest vs ++ cs in
    let t = tested a v ds in
    record {
      numbers = λ size. ap numbers_of (append_assoc (limit_conditions a v) (values_conditions rest vs) cs) ∙ t.numbers
          ∙ ap (λ (l : List ℕ). limit_numbers a ++ l) (after.numbers (omega arith)) ∙ sym (append_assoc (limit_numbers a) (values_numbers rest) (numbers_of cs));
      refuses = ap refusing (append_assoc (limit_conditions a v) (values_conditions rest vs) cs) ∙ t.refuses ∙ after.refuses;
      answer = ap first (append_assoc (limit_conditions a v) (values_conditions rest vs) cs) ∙ t.answer ∙ by;
    }
  where
    by : cond (eqb (limit a v) 0) (first (values_conditions rest vs ++ cs)) (limit a v)
        ≡ cond (eqb (cond (eqb (limit a v) 0) (first_limit rest vs) (limit a v)) 0) (first cs) (cond (eqb (limit a v) 0) (first_limit rest vs) (limit a v))
    by =
        elim (ℕ_discrete (limit a v) 0) [
          | yes zero ↦ simp (eq-eqb (limit a v) 0 zero) after.answer
          | no other ↦ simp (ne_eqb (limit a v) 0 other)
        ]

values_tested : (sch : List Argument) (vs : List ℕ) (cs : List Condition) → ValuesTested sch vs cs
unfolding values_conditions first_limit
values_tested [] vs cs = record { numbers = λ size. refl; refuses = refl; answer = refl }
values_tested (a ∷ rest) [] cs = record { numbers = λ size. absurd (omega arith); refuses = refl; answer = refl }
values_tested (a ∷ rest) (v ∷ vs) cs = more_tested a v rest vs cs (values_tested rest vs cs)

-- the limits first, and then the room
module _ (q : Request) (out : List ℕ) where
  -- there is no room for it
  abbrev short : Bool
  short = ltb (length out) (length (written q))

  -- what is answered and left by the limit n and the room
  record Outcome (n : ℕ) (y : Bool) : Type 0 where
    number : (written_answer (cond (eqb n 0) (cond y (NotWritten 1) (Wrote (length (written q)))) (NotWritten n))).number ≡ cond (eqb n 0) (cond y 1 0) n
    left : cond (eqb n 0) (cond y out (put out 0 (written q))) out ≡ cond (eqb (cond (eqb n 0) (cond y 1 0) n) 0) (put out 0 (written q)) out
    length_told : cond (eqb n 0) (cond y 1 0) n ≡ 0
        → written_answer (cond (eqb n 0) (cond y (NotWritten 1) (Wrote (length (written q)))) (NotWritten n)) ≡ done (length (written q) ∷ [])

  outcome : (n : ℕ) (y : Bool) → Outcome n y
  outcome n y =
      elim (ℕ_discrete n 0) [
        | yes zero ↦ rw zero (in_limits y)
        | no other ↦
            let e = ne_eqb n 0 other in
            record { number = simp e; left = simp (e, e); length_told = λ z. absurd (other (simp e at z)) }
      ]
    where
      in_limits : (y : Bool) → Outcome 0 y
      in_limits true = record { number = refl; left = refl; length_told = λ z. let o : ◌≡◌ {A = ℕ} 1 0 = z in absurd (omega arith) }
      in_limits false = record { number = refl; left = refl; length_told = λ z. refl }

  -- its conditions
  abbrev limits_tested : ValuesTested (schema (kind_of q)) (values_of q) (1 when short ∷ [])
  limits_tested = values_tested (schema (kind_of q)) (values_of q) (1 when short ∷ [])

  writing_numbers_lem : numbers_of (writing_conditions q out) ≡ values_numbers (schema (kind_of q)) ++ (1 ∷ [])
  unfolding writing_conditions
  writing_numbers_lem = limits_tested.numbers (values_size q)

  writing_refuses : refusing (writing_conditions q out) ≡ true
  unfolding writing_conditions
  writing_refuses = limits_tested.refuses

  -- what it answers and leaves by them
  writing_answer : (written_answer (writing_request q out)).number ≡ first (writing_conditions q out)
  unfolding writing_conditions writing_request writing limit_of first
  writing_answer = (outcome (limit_of q) short).number ∙ sym limits_tested.answer

  writing_left : request_written_to q out ≡ cond (eqb (written_answer (writing_request q out)).number 0) (put out 0 (written q)) out
  unfolding writing_request request_written_to writing written_to
  writing_left =
      let o = outcome (limit_of q) short in
      o.left ∙ ap (λ (n : ℕ). cond (eqb n 0) (put out 0 (written q)) out) (sym o.number)

  writes : Writes q out
  unfolding writing_conditions writing_request writing
  writes =
      let o = outcome (limit_of q) short in
      let d = refused_first (writing_conditions q out) writing_numbers_lem writing_refuses writing_answer writing_left in
      record {
        refused_first = d;
        answers_length = λ zero. o.length_told (sym o.number ∙ zero);
        same_length =
            either_way (λ (l : List ℕ). length l ≡ length out) d refl
            (λ none.
            let fits = ltb-false (length out) (length (written q)) (none_after (values_conditions (schema (kind_of q)) (values_of q)) (1 when short ∷ []) none).0 in
            put_length out (written q) 0 (omega arith));
        stays_bytes = writing_request_keeps_bytes q out;
      }

-- DEMAND 1
pub demand_1_requests : Demand1Requests
demand_1_requests = record { reading = reads; writing = writes; same_limits = limits_agree }
