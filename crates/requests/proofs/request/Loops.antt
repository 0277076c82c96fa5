-- The loops over a request's arguments: its values, and the schema beside them.
-- Assumes nothing.
use Prim.Native.Nat.{ℕ, ◌+◌, ◌*◌, ◌≤◌, ◌<◌}
use mathlib.Core.Path.{◌≡◌, refl, sym, ap, ap₂, ◌∙◌}
use mathlib.Core.List.{List, [], ◌∷◌, ◌++◌}
use mathlib.Core.Logic.{◌⊎◌, inl, inr}
use mathlib.Core.Bool.{Bool, true, false, cond}
use native.Mathlib.Omega.{arith}
use native.Mathlib.Numerals.{add-one}
use borrow.Author.Tests.{eq-eqb, ne_eqb}
use lib.Dec.{eqb}
use lib.ListN.{length, take, drop, get_or, length-append, drop_of_length-le}
use lib.Seq.{drop-cons}
use Rattle.requests.specs.Number.{groups}
use Rattle.requests.specs.Request.{limit, schema, numbers, first_limit}
use Rattle.formats.specs.Refusal.{number_of}
use Rattle.formats.specs.declared.refusal.Refusal.{Refusal}
use Rattle.formats.proofs.refusal.Laws.{numbered}
use Rattle.requests.specs.Values.{written_numbers}
use Rattle.requests.specs.declared.request.Argument.{Argument}
use Rattle.formats.specs.Part.{put}
use Rattle.formats.proofs.Part.{put_length, put_next}
use Rattle.formats.proofs.Stores.{Storing, store_all, start, stored}

-- a schema has at most nine arguments
size_cond : (t : Bool) (a b : List Argument) → length a ≤ 9 → length b ≤ 9 → length (cond t a b) ≤ 9
size_cond true a b p q = p
size_cond false a b p q = q

pub schema_size : (kind : ℕ) → length (schema kind) ≤ 9
unfolding schema
schema_size k =
    size_cond (eqb k 1) _ _ (omega arith)
    (size_cond (eqb k 2) _ _ (omega arith)
    (size_cond (eqb k 3) _ _ (omega arith)
    (size_cond (eqb k 4) _ _ (omega arith)
    (size_cond (eqb k 5) _ _ (omega arith)
    (size_cond (eqb k 6) _ _ (omega arith) (size_cond (eqb k 7) _ _ (omega arith) (omega arith)))))))

-- the written form of a kind and its values begins with the kind
pub written_parts : (kind : ℕ) (vs : List ℕ) → written_numbers kind vs ≡ groups kind ++ numbers (take (length (schema kind)) vs)
unfolding written_numbers numbers
written_parts kind vs = refl

pub written_length : (kind : ℕ) (vs : List ℕ) → length (written_numbers kind vs) ≡ length (groups kind) + length (numbers (take (length (schema kind)) vs))
written_length kind vs = ap length (written_parts kind vs) ∙ length-append (groups kind) (numbers (take (length (schema kind)) vs))

-- the value at the next place
beside : (vs : List ℕ) (i : ℕ) → i < length vs → drop i vs ≡ get_or vs i 0 ∷ drop (i + 1) vs
beside vs i h = rw add-one (drop-cons vs i 0 h)

-- the numbers from the next one on
pub numbers_next : (vs : List ℕ) (i : ℕ) → i < length vs → numbers (drop i vs) ≡ groups (get_or vs i 0) ++ numbers (drop (i + 1) vs)
unfolding numbers
numbers_next vs i h = rw (beside vs i h) refl

-- what the loop of `written_len` keeps: the bytes counted and those of the numbers left make up all
pub record Counting (vs : List ℕ) (all n i : ℕ) : Type 0 where
  pub total : n + length (numbers (drop i vs)) ≡ all
  pub most : n ≤ 10 + 10 * i

pub count_next : {vs : List ℕ} {all n i : ℕ} (k : ℕ) → Counting vs all n i → i < length vs → k ≡ length (groups (get_or vs i 0)) → k ≤ 10 → Counting vs all (n + k) (i + 1)
count_next {vs} {i = i} k inv h e small =
    record { total = omega (arith, inv.total, simp length-append at (ap length (numbers_next vs i h))); most = omega (arith, inv.most) }

-- the kind comes before them
pub count_kind : (kind : ℕ) (vs : List ℕ) {n : ℕ} → n ≡ length (groups kind) → n ≤ 10 → Counting (take (length (schema kind)) vs) (length (written_numbers kind vs)) n 0
count_kind kind vs e small = record { total = omega (arith, e, written_length kind vs); most = omega arith }

pub count_done : {vs : List ℕ} {all n i : ℕ} → Counting vs all n i → length vs ≤ i → n ≡ all
unfolding numbers
count_done {vs} {i = i} inv h = omega (arith, inv.total, ap (λ (l : List ℕ). length (numbers l)) (drop_of_length-le vs h))

none_left : (sch : List Argument) (vs : List ℕ) → (sch ≡ []) ⊎ (vs ≡ []) → 0 ≡ first_limit sch vs
unfolding first_limit
none_left [] vs e = refl
none_left (a ∷ rest) [] e = refl
none_left (a ∷ rest) (v ∷ vs) (inl e) = cc
none_left (a ∷ rest) (v ∷ vs) (inr e) = cc

-- what the loop of `first_limit` keeps: the arguments left, with the values left, meet the limit n that all of them meet
module _ {sch : List Argument} {vs : List ℕ} {n : ℕ} (inv : first_limit sch vs ≡ n) where
  module _ {a : Argument} {rest : List Argument} {v : ℕ} {more : List ℕ} (next : (sch ≡ a ∷ rest) × (vs ≡ v ∷ more)) where
    pub limit_kept : 0 ≡ limit a v → first_limit rest more ≡ n
    unfolding first_limit
    limit_kept e = sym (ap₂ first_limit next.0 next.1 ∙ simp (eq-eqb (limit a v) 0 (sym e))) ∙ inv

    pub limit_met : (w : Refusal) → number_of w ≡ limit a v → number_of w ≡ n
    unfolding first_limit
    limit_met w e =
        e ∙ sym (ap₂ first_limit next.0 next.1 ∙ simp (ne_eqb (limit a v) 0 (λ z. omega (arith, (numbered w).from)))) ∙ inv

  pub limit_none : (sch ≡ []) ⊎ (vs ≡ []) → 0 ≡ n
  limit_none e = none_left sch vs e ∙ inv

-- what the loop of `store` keeps: the numbers before place i are stored, and there is room for the others
pub record Putting (vs out₀ : List ℕ) (a : ℕ) (out : List ℕ) (at i : ℕ) : Type 0 where
  pub storing : Storing (numbers vs) out₀ a out at (numbers (drop i vs))
  pub room : a + length (numbers vs) ≤ length out₀

module _ {vs out₀ : List ℕ} {a : ℕ} {out : List ℕ} {at i : ℕ} (inv : Putting vs out₀ a out at i) where
  module _ (h : i < length vs) where
    -- there is room for the next number
    pub room_next : at + length (groups (get_or vs i 0)) ≤ length out
    room_next = omega (arith, inv.storing.count, inv.storing.size, inv.room, simp length-append at (ap length (numbers_next vs i h)))

    pub put_number : {out' : List ℕ} {at' : ℕ} → at' ≡ at + length (groups (get_or vs i 0)) → out' ≡ put out at (groups (get_or vs i 0)) → Putting vs out₀ a out' at' (i + 1)
    put_number e f =
        record {
          storing = rw (e, f) (store_all (groups (get_or vs i 0)) (rw (numbers_next vs i h) at inv.storing) room_next);
          room = inv.room;
        }

  pub put_done : length vs ≤ i → (at ≡ a + length (numbers vs)) × (out ≡ put out₀ a (numbers vs))
  unfolding numbers
  put_done h = stored inv.storing (ap numbers (drop_of_length-le vs h))

-- a kind and then its values, put one after the other, are their written form, where there is room for it
module _ (kind : ℕ) (vs out : List ℕ) (room : length (written_numbers kind vs) ≤ length out) where
  pub room_kind : 0 + length (groups kind) ≤ length out
  room_kind = omega (arith, room, written_length kind vs)

  module _ {a : ℕ} {out₁ : List ℕ} (e : a ≡ 0 + length (groups kind)) (f : out₁ ≡ put out 0 (groups kind)) where
    pub put_kind : Putting (take (length (schema kind)) vs) out₁ a out₁ a 0
    put_kind =
        let same : length out₁ ≡ length out = ap length f ∙ put_length out (groups kind) 0 room_kind in
        record {
          storing = start (numbers (take (length (schema kind)) vs)) out₁ a;
          room = omega (arith, e, room, written_length kind vs, same);
        }

    pub put_written : {b : ℕ} {out₂ : List ℕ} → (b ≡ a + length (numbers (take (length (schema kind)) vs))) × (out₂ ≡ put out₁ a (numbers (take (length (schema kind)) vs)))
        → (b ≡ length (written_numbers kind vs)) × (out₂ ≡ put out 0 (written_numbers kind vs))
    put_written g = (
      omega (arith, e, g.0, written_length kind vs),
      g.1
          ∙ rw (f, e) (put_next out (groups kind) (numbers (take (length (schema kind)) vs)) 0 (omega (arith, room, written_length kind vs)))
          ∙ ap (put out 0) (sym (written_parts kind vs)),
    )
