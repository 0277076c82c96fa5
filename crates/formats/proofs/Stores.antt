-- A loop that stores the bytes w from place a of a slice on, one store a turn: what stands there, and what is left to store.
-- Assumes nothing.
use Prim.Native.Nat.{ℕ, ◌+◌, ◌≤◌, ◌<◌}
use mathlib.Core.Path.{◌≡◌, refl, sym, ap, ap₂, ◌∙◌}
use mathlib.Core.List.{List, [], ◌∷◌, ◌++◌, append-nil, append_assoc}
use native.Mathlib.Omega.{arith}
use native.Mathlib.Numerals.{add-one}
use lib.ListN.{length, take, drop, set, length-set, length-take, length-append, take-append-drop}
use lib.Seq.{take-suc-set, drop-set-lt, drop-drop, append_snoc, take_at, drop_at}
use Rattle.formats.specs.Part.{put}
use Rattle.formats.proofs.Part.{put_length}

-- out was out₀; of the bytes w, those before place i stand in it, from place a on, and those in `left` are still to be stored
pub record Storing (w out₀ : List ℕ) (a : ℕ) (out : List ℕ) (i : ℕ) (left : List ℕ) : Type 0 where
  pub all : take i out ++ left ≡ take a out₀ ++ w
  pub tail : drop i out ≡ drop i out₀
  pub size : length out ≡ length out₀
  pub from : a ≤ i
  pub count : i + length left ≡ a + length w

-- before the first store
pub start : (w out : List ℕ) (a : ℕ) → Storing w out a out a w
start w out a = record { all = refl; tail = refl; size = refl; from = omega arith; count = refl }

drop_more : (i : ℕ) (a b : List ℕ) → drop i a ≡ drop i b → drop (i + 1) a ≡ drop (i + 1) b
drop_more i a b e = sym (drop-drop 1 i a) ∙ ap (drop 1) e ∙ drop-drop 1 i b

-- a turn stores the next byte
pub store : {w out₀ : List ℕ} {a : ℕ} {out : List ℕ} {i b : ℕ} {left : List ℕ} → Storing w out₀ a out i (b ∷ left) → i < length out → Storing w out₀ a (set out i b) (i + 1) left
store {w} {out₀} {a} {out} {i} {b} {left} r h =
    record {
      all = rw (add-one, take-suc-set, append_snoc) r.all;
      tail = drop-set-lt (i + 1) out i b (omega arith) ∙ drop_more i out out₀ r.tail;
      size = length-set out i b ∙ r.size;
      from = omega (arith, r.from);
      count = omega (arith, r.count);
    }

-- the same where the bytes that are left are p
pub store_next : {w out₀ : List ℕ} {a : ℕ} {out : List ℕ} {i : ℕ} (p : List ℕ) {b : ℕ} {left : List ℕ} → Storing w out₀ a out i p → p ≡ b ∷ left → i < length out
    → Storing w out₀ a (set out i b) (i + 1) left
store_next p r e h = store (rw e at r) h

-- or the next bytes at once
pub store_all : {w out₀ : List ℕ} {a : ℕ} {out : List ℕ} {i : ℕ} (p : List ℕ) {left : List ℕ} → Storing w out₀ a out i (p ++ left)
    → i + length p ≤ length out → Storing w out₀ a (put out i p) (i + length p) left
unfolding put
store_all {w} {out₀} {a} {out} {i} p {left} r h =
    let x : length (take i out ++ p) ≡ i + length p = simp (length-append, length-take) (omega arith) in
    let e : (take i out ++ p) ++ drop (i + length p) out ≡ take i out ++ (p ++ drop (i + length p) out) = append_assoc (take i out) p (drop (i + length p) out) in
    record {
      all =
          ap (λ (l : List ℕ). l ++ left) (ap (take (i + length p)) (sym e) ∙ take_at (take i out ++ p) (drop (i + length p) out) (i + length p) x)
          ∙ append_assoc (take i out) p left
          ∙ r.all;
      tail =
          ap (drop (i + length p)) (sym e)
          ∙ drop_at (take i out ++ p) (drop (i + length p) out) (i + length p) x
          ∙ sym (drop-drop (length p) i out)
          ∙ ap (drop (length p)) r.tail
          ∙ drop-drop (length p) i out₀;
      size = put_length out p i h ∙ r.size;
      from = omega (arith, r.from);
      count = omega (arith, r.count, length-append p left);
    }

-- once nothing is left, w stands in its place, and nothing else has changed
pub done : {w out₀ : List ℕ} {a : ℕ} {out : List ℕ} {i : ℕ} → Storing w out₀ a out i [] → out ≡ put out₀ a w
unfolding put
done {w} {out₀} {a} {out} {i} r =
    let n : i ≡ a + length w = omega (arith, r.count) in
    sym (take-append-drop i out)
    ∙ ap₂ ◌++◌ (sym (append-nil (take i out)) ∙ r.all) (r.tail ∙ ap (λ (k : ℕ). drop k out₀) n)
    ∙ append_assoc (take a out₀) w (drop (a + length w) out₀)

-- with the place after it
pub stored : {w out₀ : List ℕ} {a : ℕ} {out : List ℕ} {i : ℕ} {left : List ℕ} → Storing w out₀ a out i left → left ≡ [] → (i ≡ a + length w) × (out ≡ put out₀ a w)
stored r e = let s = rw e at r in (omega (arith, s.count), done s)
