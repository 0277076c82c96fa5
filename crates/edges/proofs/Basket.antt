-- Baskets, place by place as they are read, and request by request as they are committed.
-- Assumes nothing.
use Prim.Native.Nat.{ℕ, ◌+◌, ◌≤◌, ◌<◌}
use mathlib.Core.Path.{◌≡◌, refl, sym, ap, ap₂, ◌∙◌}
use mathlib.Core.List.{List}
use native.Mathlib.Omega.{arith}
use native.Mathlib.Numerals.{add-one}
use native.Mathlib.Decide.{ℕ_discrete}
use lib.ListN.{length, drop, set, get_or, replicate, length-set}
use lib.Seq.{get_or-set_same, get_or-set_other}
use Rattle.std.specs.Prelude.{Result}
use Rattle.std.proofs.Math.Seq.{drop-cons}
use Rattle.std.proofs.lemmas.List.{drop_all}
use Rattle.formats.specs.Refusal.{answer_of}
use Rattle.formats.specs.declared.refusal.Refusal.{Refusal}
use Rattle.formats.specs.declared.head.Pair.{Pair}
use Rattle.requests.specs.Request.{read_request, request_values, request_answer, reading_of, remainder_of}
use Rattle.requests.specs.declared.request.Request.{Request}
use Rattle.requests.specs.declared.read.Read.{Read as Found}
use Rattle.requests.proofs.request.Laws.{same_reading}
use Rattle.calls.specs.Buffers.{Buffers}
use Rattle.calls.specs.Perform.{Performed}
use Rattle.calls.specs.Preview.{perform_all}
use Rattle.music_counter.specs.Answer.{Answers}
use Rattle.edges.specs.Baskets.{unread, request_or, committed}

-- READING: the places before the next one are filled, and `rest` is unread
pub record Filling (s : List ℕ) (spare : Request) (i : ℕ) (rest : List ℕ) (places : List Request) : Type 0 where
  pub sixteen : length places ≡ 16
  pub rest_is : rest ≡ unread i s
  pub each : (k : ℕ) → k < i → get_or places k spare ≡ request_or spare (read_request (unread k s))

pub first : (s : List ℕ) (spare : Request) → Filling s spare 0 s (replicate 16 spare)
unfolding unread
first s spare = record { sixteen = refl; rest_is = refl; each = λ k below. absurd (omega (arith, below)) }

pub next : {s : List ℕ} {spare : Request} {i : ℕ} {rest rest' : List ℕ} {places : List Request} {q : Request}
    → Filling s spare i rest places → i < length places → (found : Result (Found Request) Refusal) → answer_of request_values found ≡ request_answer (read_request rest)
    → q ≡ request_or spare (reading_of found) → rest' ≡ remainder_of rest (reading_of found)
    → Filling s spare (i + 1) rest' (set places i q)
unfolding unread
next {s} {spare} {i} {rest} {rest'} {places} {q} f inside found read is left =
    let there : reading_of found ≡ read_request (unread i s) = same_reading found read ∙ ap read_request f.rest_is in
    record {
      sixteen = length-set places i q ∙ f.sixteen;
      rest_is = left ∙ ap₂ remainder_of f.rest_is there ∙ ap (λ (n : ℕ). unread n s) (sym (add-one i));
      each = λ k below.
          elim (ℕ_discrete k i) [
            | yes e ↦ rw (e, get_or-set_same places i q spare inside) (is ∙ ap (request_or spare) there)
            | no ne ↦ rw (get_or-set_other places i k q spare ne) (f.each k (omega (arith, below, ne)))
          ];
    }

-- COMMITTING: what is left to be carried out comes to what all of it comes to

pub carried_out : (pair : Pair) (requests : List Request) (i : ℕ) (d : Request) (now : Buffers) (n : ℕ) {after : Buffers}
    → i < length requests → Answers pair (get_or requests i d) now n after
    → committed pair (drop (i + 1) requests) after ≡ committed pair (drop i requests) now
unfolding perform_all
carried_out pair requests i d now n {after} inside done =
    ap₂ (λ (k : ℕ) (b : Buffers). committed pair (drop k requests) b) (add-one i) (ap (λ (p : Performed). p.buffers) done)
    ∙ ap (λ (qs : List Request). committed pair qs now) (sym (drop-cons requests i d inside))

pub all_carried_out : (pair : Pair) (requests : List Request) (i : ℕ) (now : Buffers) → length requests ≤ i → committed pair (drop i requests) now ≡ now
unfolding perform_all
all_carried_out pair requests i now past = ap (λ (qs : List Request). committed pair qs now) (drop_all i requests past)
