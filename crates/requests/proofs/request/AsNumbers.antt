-- A kind and its values, as the code holds them, and the request that they make.
-- Assumes nothing.
use Rattle.std.proofs.Common.{ℕ, ◌≤◌, ◌<◌, ◌≡◌, List, [], ◌∷◌, refl, sym, ap, ◌∙◌, length, take}
use mathlib.Core.Bool.{cond}
use borrow.Author.Tests.{eq-eqb, ne_eqb}
use lib.Dec.{eqb}
use Rattle.formats.specs.Answer.{Answer, done, refused}
use Rattle.formats.specs.Part.{put}
use Rattle.requests.specs.Number.{written_answer}
use Rattle.requests.specs.Request.{limit, kind_limit, schema, request_of, kind_of, values_of, numbers, written, first_limit, limit_of, writing_request, request_written_to, RequestRead, Read, Refused, request_answer}
use Rattle.requests.specs.Values.{filled, Holds, length_answer, kind_after, values_after, written_numbers, writing_numbers, numbers_written_to}
use Rattle.requests.specs.declared.request.Argument.{Argument}
use Rattle.requests.specs.declared.request.Request.{Request}
use Rattle.requests.specs.declared.request.Request.TheVariants.{Register, Record, CheckOut, CheckIn, MoveOut, MoveIn, Delete}
use Rattle.requests.proofs.number.Laws.{valued}
use Rattle.requests.proofs.request.Laws.{made, kind_passes_lem, request_again}
use Rattle.requests.proofs.request.Reading.{filled_request}
use Rattle.requests.proofs.request.Writing.{past_limit, no_room, all_written}

-- no value behind those of the arguments is tested
limits_first : (sch : List Argument) (vs : List ℕ) → first_limit sch (take (length sch) vs) ≡ first_limit sch vs
unfolding first_limit
limits_first [] vs = refl
limits_first (a ∷ rest) [] = refl
limits_first (a ∷ rest) (v ∷ vs) = ap (λ (n : ℕ). cond (eqb (limit a v) 0) n (limit a v)) (limits_first rest vs)

-- a kind that does not pass is refused before its values
pub kind_past : (k : ℕ) {w : ℕ} (vs out : List ℕ) → w ≡ kind_limit k → (w ≡ 0 → ⊥) → (refused w ≡ written_answer (writing_numbers k vs out)) × (out ≡ numbers_written_to k vs out)
unfolding writing_numbers numbers_written_to
kind_past k vs out e n = let t = ne_eqb (kind_limit k) 0 (λ z. n (e ∙ z)) in (simp t (ap refused e), simp t)

module _ (k : ℕ) (vs : List ℕ) (passes : kind_limit k ≡ 0) (size : length (schema k) ≤ length vs) where
  made_limit : limit_of (request_of k vs) ≡ first_limit (schema k) vs
  unfolding limit_of
  made_limit = let m = made vs passes size in rw (m.kind_is, m.values_are) (limits_first (schema k) vs)

  made_written : written (request_of k vs) ≡ written_numbers k vs
  unfolding written written_numbers
  made_written = let m = made vs passes size in rw (m.kind_is, m.values_are) refl

  module _ (out : List ℕ) where
    writes : (writing_numbers k vs out ≡ writing_request (request_of k vs) out) × (numbers_written_to k vs out ≡ request_written_to (request_of k vs) out)
    unfolding writing_numbers numbers_written_to
    writes = let t = eq-eqb (kind_limit k) 0 passes in (simp t, simp t)

    pub value_past : {w : ℕ} → w ≡ first_limit (schema k) vs → (w ≡ 0 → ⊥) → (refused w ≡ written_answer (writing_numbers k vs out)) × (out ≡ numbers_written_to k vs out)
    value_past e n = rw (writes.0, writes.1) (past_limit (request_of k vs) out (e ∙ sym made_limit) n)

    module _ (z : first_limit (schema k) vs ≡ 0) where
      pub numbers_no_room : length out < length (written_numbers k vs) → (refused 1 ≡ written_answer (writing_numbers k vs out)) × (out ≡ numbers_written_to k vs out)
      numbers_no_room h = rw (writes.0, writes.1) (no_room (request_of k vs) out (sym made_limit) z (rw made_written h))

      pub numbers_all_written : {n : ℕ} {after : List ℕ} → n ≡ length (written_numbers k vs) → length (written_numbers k vs) ≤ length out → after ≡ put out 0 (written_numbers k vs)
          → (done (n ∷ []) ≡ written_answer (writing_numbers k vs out)) × (after ≡ numbers_written_to k vs out)
      numbers_all_written m h f = rw (writes.0, writes.1) (all_written (request_of k vs) out (sym made_limit) z (rw made_written m) (rw made_written h) (rw made_written f))

-- the numbers of a request, with the zeros behind them, make it again, and so are written as it is
held_again : {q : Request} {k : ℕ} {vs : List ℕ} → Holds q k vs → request_of k vs ≡ q
held_again {q} h = rw (h.kind_is, h.values_are) (filled_request (kind_of q) (values_of q) ∙ request_again q)

pub held_writes : {q : Request} {k : ℕ} {vs : List ℕ} → Holds q k vs → (out : List ℕ)
    → (writing_numbers k vs out ≡ writing_request q out) × (numbers_written_to k vs out ≡ request_written_to q out)
unfolding writing_numbers numbers_written_to
held_writes {q} {k} h out =
    let passes : kind_limit k ≡ 0 = ap kind_limit h.kind_is ∙ kind_passes_lem q in
    let t = eq-eqb (kind_limit k) 0 passes in
    (simp t (ap (λ (p : Request). writing_request p out) (held_again h)), simp t (ap (λ (p : Request). request_written_to p out) (held_again h)))

-- and the zeros count for nothing: its first limit is theirs, and so are the bytes that it is written in
without_zeros : (q : Request) → take (length (schema (kind_of q))) (filled 9 (values_of q)) ≡ values_of q
unfolding filled schema
without_zeros (Register c f) = refl
without_zeros (Record c j f h) = refl
without_zeros (CheckOut c j) = refl
without_zeros (CheckIn j f) = refl
without_zeros (MoveOut j h f) = refl
without_zeros (MoveIn c j h) = refl
without_zeros (Delete j f) = refl

module _ {q : Request} {k : ℕ} {vs : List ℕ} (h : Holds q k vs) where
  pub held_limit : first_limit (schema k) vs ≡ limit_of q
  unfolding limit_of
  held_limit =
      rw (h.kind_is, h.values_are)
      (sym (limits_first (schema (kind_of q)) (filled 9 (values_of q))) ∙ ap (first_limit (schema (kind_of q))) (without_zeros q))

  pub held_written : written_numbers k vs ≡ written q
  unfolding written_numbers written
  held_written = rw (h.kind_is, h.values_are) (ap (λ (ws : List ℕ). numbers (kind_of q ∷ ws)) (without_zeros q))

-- reading a request into places for its numbers and then making it of them is reading it
pub made_from : {n k : ℕ} {vs : List ℕ} (k₀ : ℕ) (vs₀ : List ℕ) (r : RequestRead) → done (n ∷ []) ≡ length_answer r → k ≡ kind_after r k₀ → vs ≡ values_after r vs₀
    → done (n ∷ kind_of (request_of k vs) ∷ values_of (request_of k vs)) ≡ request_answer r
made_from {n} {k} {vs} k₀ vs₀ (Read q m) e f g =
    let z : n ∷ [] ≡ m ∷ [] = ap (λ (a : Answer). a.values) e in
    let held : Holds q k vs = record { kind_is = f; values_are = g } in
    let count : n ≡ m = cc in
    rw (held_again held, count) refl
made_from k₀ vs₀ (Refused w) e f g = absurd (valued e)

pub refused_from : {w : ℕ} (r : RequestRead) → refused w ≡ length_answer r → refused w ≡ request_answer r
refused_from (Read q m) e = absurd (valued (sym e))
refused_from (Refused w) e = e
