-- Demand 1 of a preview, and of what a till commits.
-- Assumes nothing.
use Prim.Native.Nat.{ℕ, zero, suc, ◌-◌, ◌<◌, ◌≤◌}
use mathlib.Core.Path.{◌≡◌, refl, sym, ap, ◌∙◌}
use mathlib.Core.Logic.{◌≢◌}
use mathlib.Core.List.{List, [], ◌∷◌}
use mathlib.Core.Bool.{Bool, true, false, not, cond, true≢false}
use native.Mathlib.Omega.{arith}
use native.Mathlib.Decide.{ℕ_discrete}
use lib.Dec.{eqb, ltb, leb}
use lib.ListN.{length, take, get_or, replicate, length-append, length-replicate}
use borrow.Author.Tests.{lt-ltb, le-leb, leb-true, eq-eqb, ne_eqb, eqb-true, not-false}
use Rattle.std.specs.Prelude.{Option, Some, None}
use Rattle.std.proofs.lemmas.Bool.{ltb-false, le-ltb}
use Rattle.std.proofs.lemmas.List.{length-take}
use Rattle.formats.specs.declared.head.Pair.{Pair}
use Rattle.formats.proofs.Zeros.{zeros_behind}
use Rattle.formats.proofs.Tests.{split, both}
use Rattle.requests.specs.Request.{kind_passes, kind_limit, request_of}
use Rattle.requests.specs.Values.{filled, request_in}
use Rattle.requests.specs.declared.request.Request.{Request}
use Rattle.formats.specs.Refusal.{refused_unless as limit}
use Rattle.requests.proofs.request.Laws.{made}
use Rattle.calls.specs.Buffers.{Buffers, Within}
use Rattle.calls.specs.Refusal.{first, ◌unless◌, RefusedFirst}
use Rattle.calls.specs.Conditions.{conditions}
use Rattle.calls.specs.Effect.{effect}
use Rattle.calls.specs.Perform.{checked, AreBytes, SameLengths, InBounds}
use Rattle.calls.specs.Preview.{perform_given, perform_all, as_long, preview_conditions, preview_refusal, Previewed, done_preview, preview, Previews, PerformsNumbers, Demand1Preview}
use Rattle.calls.proofs.Refusals.{hit, skip, end as no_more, fails_so, fails, holds, none_is_0, answer_first, refused_first, in_front, either_way, holds_not, call_refused_first, answer_most}
use Rattle.calls.proofs.Passed.{Tests, end, ◌then◌, in_step, answered_by}
use Rattle.calls.proofs.InBounds.{in_bounds}

-- IN BOUNDS

nothing_changed : (b : Buffers) → InBounds b b
nothing_changed b = record { same_lengths = record { ledger = refl; titles = refl; rules = refl }; stay_bytes = λ bytes. bytes }

then_that : {a b c : Buffers} → InBounds a b → InBounds b c → InBounds a c
then_that i j =
    let x = i.same_lengths in
    let y = j.same_lengths in
    record {
      same_lengths = record { ledger = y.ledger ∙ x.ledger; titles = y.titles ∙ x.titles; rules = y.rules ∙ x.rules };
      stay_bytes = λ bytes. j.stay_bytes (i.stay_bytes bytes);
    }

given_in_bounds : (pair : Pair) (g : Option Request) (b : Buffers) → InBounds b (perform_given pair g b).buffers
given_in_bounds pair None b = nothing_changed b
given_in_bounds pair (Some k) b = in_bounds pair k b

pub all_in_bounds : (pair : Pair) (gs : List (Option Request)) (b : Buffers) → InBounds b (perform_all pair gs b).buffers
unfolding perform_all
all_in_bounds pair [] b = nothing_changed b
all_in_bounds pair (g ∷ gs) b = then_that (given_in_bounds pair g b) (all_in_bounds pair gs (perform_given pair g b).buffers)

-- as many answers as there are places
pub length_answers : (pair : Pair) (gs : List (Option Request)) (b : Buffers) → length (perform_all pair gs b).answers ≡ length gs
unfolding perform_all
length_answers pair [] b = refl
length_answers pair (g ∷ gs) b = omega (arith, length_answers pair gs (perform_given pair g b).buffers)

-- and each is the number of a call, or 3
given_most : (pair : Pair) (g : Option Request) (b : Buffers) → (perform_given pair g b).answer ≤ 16
given_most pair None b = omega arith
given_most pair (Some k) b = answer_most pair k b

all_most : (pair : Pair) (gs : List (Option Request)) (b : Buffers) (i : ℕ) → get_or (perform_all pair gs b).answers i 0 ≤ 16
unfolding perform_all
all_most pair [] b i = omega arith
all_most pair (g ∷ gs) b zero = given_most pair g b
all_most pair (g ∷ gs) b (suc i) = all_most pair gs (perform_given pair g b).buffers i

-- THE PREVIEW

-- 17 and 18
tests_count : (count : ℕ) → Tests (ltb 16 count) (count ≤ 16)
tests_count count = record { met = ltb-false 16 count; unmet = le-ltb 16 count }

tests_scratch : (b scratch : Buffers) → Tests (not (as_long b scratch)) (SameLengths b scratch)
tests_scratch b scratch =
    record {
      met = λ e.
          let (ledger, card) = split (eqb (length scratch.ledger) _) _ (not-false _ e) in
          let (titles, rules) = split (eqb (length scratch.titles) _) _ card in
          record { ledger = eqb-true _ _ ledger; titles = eqb-true _ _ titles; rules = eqb-true _ _ rules };
      unmet = λ same. holds_not (both (eq-eqb _ _ same.ledger) (both (eq-eqb _ _ same.titles) (eq-eqb _ _ same.rules)));
    }

-- answers and zeros, sixteen together
sixteen_places : (answers : List ℕ) → length answers ≤ 16 → length (filled 16 answers) ≡ 16
unfolding filled
sixteen_places answers most =
    let zeros : List ℕ = replicate (16 - length answers) 0 in
    omega (arith, length-append answers zeros, length-replicate {A = ℕ} (16 - length answers) 0)

taken : (n : ℕ) (gs : List (Option Request)) → length (take n gs) ≤ n
taken n gs = omega (arith, length-take n gs)

-- its answer is that of its refusal, and what it leaves goes by that
answer_is : (n : ℕ) (done refused : Previewed) → done.answer ≡ 0 → refused.answer ≡ n → (cond (eqb n 0) done refused).answer ≡ n
answer_is n done refused d r = elim (ℕ_discrete n 0) [ yes none ↦ rw (eq-eqb n 0 none) (d ∙ sym none) | no other ↦ rw (ne_eqb n 0 other) r ]

left_is : (x : Bool) (done refused : Previewed)
    → ◌≡◌ {A = List ℕ × Buffers} ((cond x done refused).answers, (cond x done refused).scratch) (cond x (done.answers, done.scratch) (refused.answers, refused.scratch))
left_is true done refused = refl
left_is false done refused = refl

module _ (pair : Pair) (basket : List (Option Request)) (count : ℕ) (b scratch : Buffers) (places : List ℕ) where
  abbrev n : ℕ
  n = preview_refusal count b scratch

  answered_n : (preview pair basket count b scratch places).answer ≡ n
  unfolding preview
  answered_n = answer_is n (done_preview (perform_all pair (take count basket) b)) (record { answer = n; answers = places; scratch = scratch }) refl refl

  -- refused, it leaves what it was lent
  pub refused_is : n ≢ 0 → preview pair basket count b scratch places ≡ record { answer = n; answers = places; scratch = scratch }
  unfolding preview
  refused_is other = rw (ne_eqb n 0 other) refl

  -- not refused, it is what performing the basket comes to
  pub accepted_is : n ≡ 0 → preview pair basket count b scratch places ≡ done_preview (perform_all pair (take count basket) b)
  unfolding preview
  accepted_is none = rw (eq-eqb n 0 none) refl

  pub done_is : (preview pair basket count b scratch places).answer ≡ 0 → preview pair basket count b scratch places ≡ done_preview (perform_all pair (take count basket) b)
  done_is none = accepted_is (sym answered_n ∙ none)

-- its tests one by one, as code makes them
module _ (count : ℕ) (b scratch : Buffers) where
  pub too_many : 16 < count → 17 ≡ preview_refusal count b scratch
  unfolding preview_refusal
  too_many more = hit 17 (ltb 16 count) (18 unless as_long b scratch ∷ []) (lt-ltb 16 count more)

  pub not_as_long : count ≤ 16 → as_long b scratch ≡ false → 18 ≡ preview_refusal count b scratch
  unfolding preview_refusal
  not_as_long most e = skip 17 18 (ltb 16 count) (18 unless as_long b scratch ∷ []) (le-ltb 16 count most) (hit 18 (not (as_long b scratch)) [] (fails_so e))

  pub fits : count ≤ 16 → as_long b scratch ≡ true → 0 ≡ preview_refusal count b scratch
  unfolding preview_refusal
  fits most e = skip 17 0 (ltb 16 count) (18 unless as_long b scratch ∷ []) (le-ltb 16 count most) (skip 18 0 (not (as_long b scratch)) [] (holds_not e) no_more)

-- the answer of a place; zeros behind are none
pub place_is : (pair : Pair) (basket : List (Option Request)) (count : ℕ) (b scratch : Buffers) (places : List ℕ) → (preview pair basket count b scratch places).answer ≡ 0
    → (i : ℕ) → get_or (preview pair basket count b scratch places).answers i 0 ≡ get_or (perform_all pair (take count basket) b).answers i 0
unfolding filled
place_is pair basket count b scratch places done i =
    let told_answers = (perform_all pair (take count basket) b).answers in
    ap (λ (p : Previewed). get_or p.answers i 0) (done_is pair basket count b scratch places done) ∙ zeros_behind told_answers (16 - length told_answers) i

previews : (pair : Pair) (basket : List (Option Request)) (count : ℕ) (b scratch : Buffers) (places : List ℕ) → Previews pair basket count b scratch places
unfolding preview preview_refusal
previews pair basket count b scratch places =
    let n = preview_refusal count b scratch in
    let performed = perform_all pair (take count basket) b in
    let done = done_preview performed in
    let refused : Previewed = record { answer = n; answers = places; scratch = scratch } in
    let answer = answered_n pair basket count b scratch places in
    let steps = tests_count count then tests_scratch b scratch then end in
    let d = refused_first (preview_conditions count b scratch) refl refl answer
    (left_is (eqb n 0) done refused ∙ ap (λ (m : ℕ). cond (eqb m 0) (done.answers, done.scratch) (places, scratch)) (sym answer)) in
    let kept = all_in_bounds pair (take count basket) b in
    record {
      refused_first = d;
      answered_by = answered_by steps refl answer;
      same_lengths =
          either_way (λ (p : List ℕ × Buffers). SameLengths scratch p.1) d (record { ledger = refl; titles = refl; rules = refl })
          (λ none.
          let same = (tests_scratch b scratch).met none.1.0 in
          let l = kept.same_lengths in
          record { ledger = l.ledger ∙ sym same.ledger; titles = l.titles ∙ sym same.titles; rules = l.rules ∙ sym same.rules });
      stay_bytes = λ bytes noise. either_way (λ (p : List ℕ × Buffers). AreBytes p.1) d noise (λ none. kept.stay_bytes bytes);
      sixteen = λ size.
          either_way (λ (p : List ℕ × Buffers). length p.0 ≡ 16) d size
          (λ none. sixteen_places performed.answers (omega (arith, length_answers pair (take count basket) b, taken count basket, (tests_count count).met none.0)));
      at_most_16 = λ done i. rw (place_is pair basket count b scratch places done i) (all_most pair (take count basket) b i);
    }

-- WHAT IS COMMITTED

tests_kind : (kind : ℕ) → Tests (not (kind_passes kind)) (Within 7 kind)
tests_kind kind =
    record {
      met = λ e.
          let (low, high) = split (leb 1 kind) (leb kind 7) (not-false _ e) in
          record { from = leb-true 1 kind low; to = leb-true kind 7 high };
      unmet = λ w. holds_not (both (le-leb 1 kind w.from) (le-leb kind 7 w.to));
    }

-- a kind from 1 to 7 has a request of its own, with its own values
module _ {kind : ℕ} (w : Within 7 kind) where
  passes : kind_limit kind ≡ 0
  passes = ap (λ (x : Bool). limit x 3) (not-false _ ((tests_kind kind).unmet w))

performs_numbers : (pair : Pair) (kind : ℕ) (values : List ℕ) (b : Buffers) → PerformsNumbers pair kind values b
unfolding request_in
performs_numbers pair kind values b =
    record {
      refused_first = by (kind_passes kind);
      answered_by = answered_by (tests_kind kind then in_step pair q b) (none_is_0 pair q b) (first_of_all (kind_passes kind));
      in_bounds = given_in_bounds pair (request_in kind values) b;
      numbers_are = λ w enough.
          let m = made values (passes w) enough in
          (m.kind_is, m.values_are);
    }
  where
    q : Request
    q = request_of kind values

    by : (x : Bool) → RefusedFirst Buffers (3 ∷ checked q) (3 unless x ∷ conditions pair q b)
        (perform_given pair (cond x (Some q) None) b).answer b (perform_given pair (cond x (Some q) None) b).buffers (effect q b)
    by true = in_front 3 false (λ e. omega arith) (call_refused_first pair q b)
    by false = in_front 3 true (λ e. omega arith) (call_refused_first pair q b)

    first_of_all : (x : Bool) → (perform_given pair (cond x (Some q) None) b).answer ≡ first (3 unless x ∷ conditions pair q b)
    first_of_all true = holds 3 true (conditions pair q b) refl (answer_first pair q b)
    first_of_all false = fails 3 false (conditions pair q b) (λ e. true≢false (sym e))

-- DEMAND 1
pub demand_1_preview : Demand1Preview
demand_1_preview = record { previews = previews; performs = performs_numbers }
