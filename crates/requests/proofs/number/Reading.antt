-- What the loop of `read_groups` keeps: the bytes read so far, as a value and a place, and what is left to read.
-- Assumes nothing.
use Prim.Native.Nat.{ℕ, suc, ◌+◌, ◌-◌, ◌*◌, ◌%◌, ◌^◌, ◌≤◌, ◌<◌}
use mathlib.Core.Path.{◌≡◌, refl, sym, ap, ◌∙◌}
use mathlib.Core.List.{List, ◌∷◌}
use mathlib.Core.Bool.{true, false}
use native.Mathlib.Omega.{arith}
use borrow.Author.Tests.{eq-eqb, ne_eqb}
use native.Mathlib.Nat.{pow-succ', mul-le-mul_left, mul-add, mul_assoc}
use native.Mathlib.Numerals.{add-one}
use lib.Dec.{eqb}
use lib.ListN.{length, drop, get_or, drop_of_length-le}
use lib.Seq.{drop-cons}
use Rattle.requests.specs.Number.{NumberRead, Number, Refused, with_group, read_groups, exceeds, read_number}
use Rattle.requests.proofs.number.Laws.{same, group_only, group_last, group_zero, group_more, exceeds_none, exceeds_last, exceeds_more}

-- what reading found after i bytes whose value is a, where the next group's place is p
abbrev pub after : ℕ → ℕ → ℕ → NumberRead → NumberRead
after i p a (Number v k) = Number (a + p * v) (i + k)
after i p a (Refused w) = Refused w

-- nothing read yet changes nothing; a group read moves from what is left into the value
after_none : (r : NumberRead) → r ≡ after 0 1 0 r
after_none (Number v k) = same (omega arith) (omega arith)
after_none (Refused w) = refl

after_more : (i p a d : ℕ) (r : NumberRead) → after i p a (with_group d r) ≡ after (i + 1) (p * 128) (a + p * d) r
after_more i p a d (Number v k) = same (omega (arith, mul-add p d (128 * v), mul_assoc p 128 v)) (omega arith)
after_more i p a d (Refused w) = refl

-- i bytes of s are read, their value is a, and the next group's place is p
pub record Reading (s : List ℕ) (a p i : ℕ) : Type 0 where
  pub so_far : read_groups true s ≡ after i p a (read_groups (eqb i 0) (drop i s))
  pub limit : exceeds 9 s ≡ exceeds (9 - i) (drop i s)
  pub at : i ≤ 9
  pub place : p ≡ 128 ^ i
  pub low : a < p

-- before the first byte
pub start : (s : List ℕ) → Reading s 0 1 0
start s = record { so_far = after_none (read_groups true s); limit = refl; at = omega arith; place = refl; low = omega arith }

-- what a byte adds at its place: all of it where it is the last, and else what stands below its top bit
group_last_value : (b : ℕ) → b < 128 → b % 128 ≡ b
group_last_value b h = omega arith

group_more_value : (b : ℕ) → 128 ≤ b → b < 256 → b % 128 ≡ b - 128
group_more_value b h l = omega arith

-- a group at place p adds at most 127 times the place
pub group_fits : (p d : ℕ) → d < 128 → p * d ≤ p * 127
group_fits p d h = mul-le-mul_left p (omega arith)

module _ {s : List ℕ} {a p i : ℕ} (inv : Reading s a p i) where
  -- what is found in the bytes that are left is what read_number finds, unless they exceed
  done : {l : List ℕ} (r : NumberRead) → drop i s ≡ l → exceeds (9 - i) l ≡ false → read_groups (eqb i 0) l ≡ r → after i p a r ≡ read_number s
  unfolding read_number
  done r d e f = sym (simp (inv.limit ∙ ap (exceeds (9 - i)) d ∙ e) (inv.so_far ∙ ap (after i p a) (ap (read_groups (eqb i 0)) d ∙ f)))

  -- the bytes end inside the number
  pub end : length s ≤ i → Refused 1 ≡ read_number s
  end h = done (Refused 1) (drop_of_length-le s h) (exceeds_none (9 - i)) (unfold read_groups in refl)

  module _ (here : i < length s) where
    next_byte : drop i s ≡ get_or s i 0 ∷ drop (suc i) s
    next_byte = drop-cons s i 0 here

    -- before the tenth byte one more may follow
    one_less_lem : (i ≡ 9 → ⊥) → 9 - i ≡ suc (9 - (i + 1))
    one_less_lem n = omega (arith, inv.at)

    -- a group below 128 before the tenth byte ends the number within the limit
    ends : (i ≡ 9 → ⊥) → get_or s i 0 < 128 → exceeds (9 - i) (get_or s i 0 ∷ drop (suc i) s) ≡ false
    ends n small = rw (one_less_lem n) (exceeds_last (9 - (i + 1)) (get_or s i 0) (drop (suc i) s) small)

    -- the answers, a tenth byte first, then a last group
    pub tenth : i ≡ 9 → get_or s i 0 ≡ 1 → Number (a + p) 10 ≡ read_number s
    unfolding exceeds read_groups
    tenth e o = same (omega arith) (omega arith) ∙ done (Number 1 1) next_byte (rw (o, e)) (rw (o, e))

    pub tenth_not : i ≡ 9 → (get_or s i 0 ≡ 1 → ⊥) → Refused 2 ≡ read_number s
    unfolding read_number exceeds
    tenth_not e o =
        let none : 9 - i ≡ 0 = omega arith in
        let wrong : exceeds 9 s ≡ true = inv.limit ∙ ap (exceeds (9 - i)) next_byte ∙ rw none (simp (ne_eqb (get_or s i 0) 1 o)) in
        simp wrong

    pub last_zero : (i ≡ 9 → ⊥) → get_or s i 0 ≡ 0 → 0 < i → Refused 2 ≡ read_number s
    last_zero e z pos = done (Refused 2) next_byte (ends e (omega arith)) (rw (ne_eqb i 0 (λ w. omega arith)) (group_zero _ _ z))

    pub only : (i ≡ 9 → ⊥) → get_or s i 0 < 128 → i ≡ 0 → Number (a + p * (get_or s i 0 % 128)) (i + 1) ≡ read_number s
    only e small z = rw (group_last_value _ small) (done (Number (get_or s i 0) 1) next_byte (ends e small) (rw (eq-eqb i 0 z) (group_only _ _ small)))

    pub last : (i ≡ 9 → ⊥) → get_or s i 0 < 128 → (get_or s i 0 ≡ 0 → ⊥) → Number (a + p * (get_or s i 0 % 128)) (i + 1) ≡ read_number s
    last e small z = rw (group_last_value _ small) (done (Number (get_or s i 0) 1) next_byte (ends e small) (group_last _ _ (eqb i 0) small z))

    -- a group that is not the last one is read, and the loop goes on
    pub next : (i ≡ 9 → ⊥) → 128 ≤ get_or s i 0 → get_or s i 0 < 256 → Reading s (a + p * (get_or s i 0 % 128)) (p * 128) (i + 1)
    next e big byte =
        rw (group_more_value _ big byte)
        (record {
          so_far =
              inv.so_far
              ∙ ap (after i p a) (ap (read_groups (eqb i 0)) next_byte ∙ group_more _ _ (eqb i 0) big)
              ∙ after_more i p a (get_or s i 0 - 128) (read_groups false (drop (suc i) s))
              ∙ rw (ne_eqb (i + 1) 0 (λ z. omega arith), add-one);
          limit = inv.limit ∙ ap (exceeds (9 - i)) next_byte ∙ rw (one_less_lem e) (exceeds_more _ _ _ big ∙ rw add-one);
          at = omega (arith, inv.at);
          place = rw (add-one, pow-succ') (omega (arith, inv.place));
          low = omega (arith, inv.low, group_fits p (get_or s i 0 - 128) (omega arith));
        })
