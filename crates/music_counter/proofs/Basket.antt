-- What is given as requests, carried out one after another: answers in their places, and the buffers so far.
-- Assumes nothing.
use Prim.Native.Nat.{ℕ, suc, ◌+◌, ◌-◌, ◌≤◌, ◌<◌}
use mathlib.Core.Path.{◌≡◌, refl, sym, ap, ap₂, ◌∙◌}
use mathlib.Core.Logic.{◌≢◌}
use mathlib.Core.List.{List, [], ◌∷◌, ◌++◌, map, append_assoc}
use native.Mathlib.Omega.{arith}
use native.Mathlib.Numerals.{add-one}
use lib.ListN.{length, take, drop, replicate, set, get_or, get_or-map, length-map}
use Rattle.std.specs.Prelude.{Option}
use Rattle.std.proofs.Math.Seq.{drop-cons, set-append_seam}
use Rattle.std.proofs.lemmas.List.{take_more, length-take-le, drop-replicate}
use Rattle.formats.specs.declared.head.Pair.{Pair}
use Rattle.requests.specs.Values.{filled}
use Rattle.requests.specs.declared.request.Request.{Request}
use Rattle.calls.specs.Buffers.{Buffers}
use Rattle.calls.specs.Perform.{Performed}
use Rattle.calls.specs.Preview.{perform_given, AllPerformed, answered, perform_all, preview_refusal}
use Rattle.calls.proofs.Preview.{length_answers, refused_is, accepted_is}
use Rattle.music_counter.specs.Preview.{AnswersGiven, AnswersPreview}

-- one more is answered after the others, on what they left
one_more : (pair : Pair) (gs : List (Option Request)) (g : Option Request) (b : Buffers)
    → perform_all pair (gs ++ (g ∷ [])) b
    ≡ record {
      answers = (perform_all pair gs b).answers ++ ((perform_given pair g (perform_all pair gs b).buffers).answer ∷ []);
      buffers = (perform_given pair g (perform_all pair gs b).buffers).buffers;
    }
unfolding perform_all
one_more pair [] g b = refl
one_more pair (h ∷ gs) g b = ap (answered (perform_given pair h b).answer) (one_more pair gs g (perform_given pair h b).buffers)

-- the first of the places after some numbers is set to one more
set_next : (ns places : List ℕ) (i n : ℕ) → length ns ≡ i → i < length places → set (ns ++ drop i places) i n ≡ (ns ++ (n ∷ [])) ++ drop (i + 1) places
set_next ns places i n size inside =
    ap (λ (l : List ℕ). set (ns ++ l) i n) (drop-cons places i 0 inside)
    ∙ ap (λ (k : ℕ). set (ns ++ get_or places i 0 ∷ drop (suc i) places) k n) (sym size)
    ∙ set-append_seam ns (get_or places i 0) (drop (suc i) places) n
    ∙ sym (append_assoc ns (n ∷ []) (drop (suc i) places))
    ∙ ap (λ (k : ℕ). (ns ++ (n ∷ [])) ++ drop k places) (sym (add-one i))

-- of the first `count` of a basket, i are carried out on b: the buffers are `now`, and the answers stand in front of the places after
-- them
pub record Performing (pair : Pair) (basket : List (Option Request)) (count : ℕ) (b : Buffers) (places : List ℕ) (i : ℕ) (now : Buffers) (answers : List ℕ) : Type 0 where
  pub at_most : i ≤ count
  pub buffers : now ≡ (perform_all pair (take i basket) b).buffers
  pub answers_are : answers ≡ (perform_all pair (take i basket) b).answers ++ drop i places

pub none_yet : (pair : Pair) (basket : List (Option Request)) (count : ℕ) (b : Buffers) (places : List ℕ) → Performing pair basket count b places 0 b places
unfolding perform_all
none_yet pair basket count b places = record { at_most = omega arith; buffers = refl; answers_are = refl }

-- one more is carried out
pub next : {A : Type 0} (f : A → Option Request) {pair : Pair} (xs : List A) {count : ℕ} {b : Buffers} {places : List ℕ} {i : ℕ} {now : Buffers} {answers : List ℕ}
    → Performing pair (map f xs) count b places i now answers → (d : A) {n : ℕ} {after : Buffers} → i < count → i < length xs → i < length places
    → AnswersGiven pair (f (get_or xs i d)) now n after → Performing pair (map f xs) count b places (i + 1) after (set answers i n)
next {A} f {pair} xs {count} {b} {places} {i} {now} {answers} p d {n} {after} more there inside given =
    let g = f (get_or xs i d) in
    let gs = take i (map f xs) in
    let before = perform_all pair gs b in
    let q = perform_given pair g before.buffers in
    let many : i < length (map f xs) = omega (arith, there, length-map xs f) in
    let grown : take (i + 1) (map f xs) ≡ gs ++ (g ∷ []) =
    take_more (map f xs) i (f d) many ∙ ap (λ (h : Option Request). gs ++ (h ∷ [])) (get_or-map f xs i d) in
    let performed : perform_all pair (take (i + 1) (map f xs)) b ≡ record { answers = before.answers ++ (q.answer ∷ []); buffers = q.buffers } =
    ap (λ (l : List (Option Request)). perform_all pair l b) grown ∙ one_more pair gs g b in
    let made : record { answer = n; buffers = after } ≡ q = given ∙ ap (perform_given pair g) p.buffers in
    let size : length before.answers ≡ i = length_answers pair gs b ∙ length-take-le i (map f xs) (omega (arith, many)) in
    record {
      at_most = omega (arith, more);
      buffers = ap (λ (r : Performed). r.buffers) made ∙ sym (ap (λ (r : AllPerformed). r.buffers) performed);
      answers_are =
          ap₂ (λ (l : List ℕ) (m : ℕ). set l i m) p.answers_are (ap (λ (r : Performed). r.answer) made)
          ∙ set_next before.answers places i q.answer size inside
          ∙ ap (λ (r : AllPerformed). r.answers ++ drop (i + 1) places) (sym performed);
    }

-- none is left
module _ {pair : Pair} {basket : List (Option Request)} {count : ℕ} {b : Buffers} {places : List ℕ} {i : ℕ} {now : Buffers} {answers : List ℕ}
    (p : Performing pair basket count b places i now answers) (past : count ≤ i) where
  ended : i ≡ count
  ended = omega (arith, p.at_most, past)

  pub all_buffers : now ≡ (perform_all pair (take count basket) b).buffers
  all_buffers = p.buffers ∙ ap (λ (k : ℕ). (perform_all pair (take k basket) b).buffers) ended

  pub all_answers : answers ≡ (perform_all pair (take count basket) b).answers ++ drop count places
  all_answers = p.answers_are ∙ ap (λ (k : ℕ). (perform_all pair (take k basket) b).answers ++ drop k places) ended

-- A PREVIEW, from its refusal and from what was performed on the copy

module _ (pair : Pair) (basket : List (Option Request)) (count : ℕ) (b scratch : Buffers) (places : List ℕ) where
  -- a refusal leaves all as it was
  pub tells_refused : {n : ℕ} → n ≢ 0 → n ≡ preview_refusal count b scratch → AnswersPreview pair basket count b scratch places n scratch places
  tells_refused {n} some e =
      ap (λ (k : ℕ). record { answer = k; answers = places; scratch = scratch }) e
      ∙ sym (refused_is pair basket count b scratch places (λ zero. some (e ∙ zero)))

  -- done: the copy, on which the basket was performed, is of the originals
  pub tells_done : {copy after : Buffers} {answers : List ℕ} → 0 ≡ preview_refusal count b scratch → copy ≡ b → length basket ≡ 16 → count ≤ 16
      → after ≡ (perform_all pair (take count basket) copy).buffers → answers ≡ (perform_all pair (take count basket) copy).answers ++ drop count (replicate 16 0)
      → AnswersPreview pair basket count b scratch places 0 after answers
  unfolding filled
  tells_done {copy} {after} {answers} e copied size most left answered_are =
      let all = perform_all pair (take count basket) b in
      let many : length all.answers ≡ count = length_answers pair (take count basket) b ∙ length-take-le count basket (omega (arith, size, most)) in
      let same_copy : perform_all pair (take count basket) copy ≡ all = ap (perform_all pair (take count basket)) copied in
      let zeros : drop count (replicate {A = ℕ} 16 0) ≡ replicate (16 - length all.answers) 0 =
      drop-replicate count 16 0 ∙ ap (λ (k : ℕ). replicate {A = ℕ} (16 - k) 0) (sym many) in
      ap₂ (λ (ns : List ℕ) (now : Buffers). record { answer = 0; answers = ns; scratch = now })
      (answered_are ∙ ap₂ (λ (p : AllPerformed) (l : List ℕ). p.answers ++ l) same_copy zeros) (left ∙ ap (λ (p : AllPerformed). p.buffers) same_copy)
      ∙ sym (accepted_is pair basket count b scratch places (sym e))
