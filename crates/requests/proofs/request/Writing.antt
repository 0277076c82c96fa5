-- The answers of writing a request, by the tests that lead to them, and that it leaves bytes.
-- Assumes nothing.
use Prim.Native.Nat.{ℕ, ◌≤◌, ◌<◌}
use mathlib.Core.Path.{◌≡◌, sym, ap, ◌∙◌}
use mathlib.Core.List.{List, [], ◌∷◌}
use lib.Dec.{eqb}
use borrow.Author.Tests.{eq-eqb, ne_eqb}
use lib.ListN.{length}
use Rattle.formats.specs.Answer.{done, refused}
use Rattle.formats.specs.Part.{put}
use Rattle.formats.specs.Bytes.{Bytes}
use Rattle.formats.proofs.Bytes.{Listed, none, bytes, listed, then}
use Rattle.requests.specs.Number.{groups, written_answer, written_to}
use Rattle.requests.specs.Request.{kind_of, values_of, numbers, written, limit_of, writing_request, request_written_to}
use Rattle.requests.specs.declared.request.Request.{Request}
use Rattle.requests.proofs.number.Laws.{groups_bytes, too_short, wrote, bytes_cond, writing_keeps_bytes}

module _ (q : Request) (out : List ℕ) where
  pub past_limit : {w : ℕ} → w ≡ limit_of q → (w ≡ 0 → ⊥) → (refused w ≡ written_answer (writing_request q out)) × (out ≡ request_written_to q out)
  unfolding writing_request request_written_to
  past_limit e n = let t = ne_eqb (limit_of q) 0 (λ z. n (e ∙ z)) in (simp t (ap refused e), simp t)

  module _ {w : ℕ} (e : w ≡ limit_of q) (z : w ≡ 0) where
    pub no_room : length out < length (written q) → (refused 1 ≡ written_answer (writing_request q out)) × (out ≡ request_written_to q out)
    unfolding writing_request request_written_to
    no_room h = let t = eq-eqb (limit_of q) 0 (sym e ∙ z) in let s = too_short (written q) out h in (simp t s.0, simp t s.1)

    pub all_written : {n : ℕ} {after : List ℕ} → n ≡ length (written q) → length (written q) ≤ length out → after ≡ put out 0 (written q)
        → (done (n ∷ []) ≡ written_answer (writing_request q out)) × (after ≡ request_written_to q out)
    unfolding writing_request request_written_to
    all_written m h f = let t = eq-eqb (limit_of q) 0 (sym e ∙ z) in let s = wrote (written q) out h m f in (simp t s.0, simp t s.1)

-- a written form has only bytes
numbers_listed : (vs : List ℕ) → Listed (numbers vs)
unfolding numbers
numbers_listed [] = none
numbers_listed (v ∷ vs) = then (listed (groups v) (groups_bytes v)) (numbers_listed vs)

pub written_bytes : (q : Request) → Bytes (written q)
unfolding written
written_bytes q = bytes (numbers_listed (kind_of q ∷ values_of q))

-- a request written into bytes, or refused, leaves bytes
pub writing_request_keeps_bytes : (q : Request) (out : List ℕ) → Bytes out → Bytes (request_written_to q out)
unfolding request_written_to
writing_request_keeps_bytes q out b =
    bytes_cond (eqb (limit_of q) 0) (written_to (written q) out) out (writing_keeps_bytes (written q) out (written_bytes q) b) b
