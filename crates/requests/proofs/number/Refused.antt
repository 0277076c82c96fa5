-- Where a number is refused, and with which number: by the place of the first byte without the top bit.
-- Assumes nothing.
use Prim.Native.Nat.{ℕ, zero, suc, ◌-◌, ◌≤◌, ◌<◌}
use mathlib.Core.Path.{◌≡◌, refl, sym, ap, ◌∙◌}
use mathlib.Core.Logic.{◌⊎◌, inl, inr, ⊎_elim}
use mathlib.Core.List.{List, [], ◌∷◌}
use mathlib.Core.Bool.{Bool, true, false, cond, true≢false}
use native.Mathlib.Omega.{arith}
use native.Mathlib.Decide.{dec_lt, ℕ_discrete}
use borrow.Author.Tests.{ne_eqb}
use lib.ListN.{length, get_or}
use Rattle.requests.specs.Number.{NumberRead, Number, Refused, with_group, read_groups, exceeds, read_number}
use Rattle.requests.specs.Forms.{TopBits, EndsInside, NotShortest, TooLarge, IsRead}
use Rattle.requests.proofs.number.Laws.{group_only, group_last, group_zero, group_more, exceeds_none, exceeds_last, exceeds_more, refusals}

-- what reading finds in s where m bytes of it, with the top bit set, may stand before the tenth byte of the number
finds : ℕ → Bool → List ℕ → NumberRead
finds m only s = cond (exceeds m s) (Refused 2) (read_groups only s)

finds_none : (m : ℕ) (only : Bool) → finds m only [] ≡ Refused 1
unfolding finds read_groups
finds_none m only = simp (exceeds_none m)

through : (t : Bool) (low : ℕ) (r : NumberRead) → cond t (Refused 2) (with_group low r) ≡ with_group low (cond t (Refused 2) r)
through true low r = refl
through false low r = refl

finds_more : (m b : ℕ) (s : List ℕ) (only : Bool) → 128 ≤ b → finds (suc m) only (b ∷ s) ≡ with_group (b - 128) (finds m false s)
unfolding finds
finds_more m b s only h = rw (exceeds_more m b s h, group_more b s only h) (through (exceeds m s) (b - 128) (read_groups false s))

finds_last : (m b : ℕ) (s : List ℕ) (only : Bool) → b < 128 → finds (suc m) only (b ∷ s) ≡ read_groups only (b ∷ s)
unfolding finds
finds_last m b s only h = simp (exceeds_last m b s h)

tenth_wrong : (b : ℕ) (s : List ℕ) (only : Bool) → (b ≡ 1 → ⊥) → finds 0 only (b ∷ s) ≡ Refused 2
unfolding finds exceeds
tenth_wrong b s only n = simp (ne_eqb b 1 n)

tenth_one : (b : ℕ) (s : List ℕ) (only : Bool) → b ≡ 1 → finds 0 only (b ∷ s) ≡ Number b 1
unfolding finds exceeds
tenth_one b s only e = rw e (group_last 1 s only (omega arith) (λ z. omega arith))

-- THE CONDITIONS LEAD TO THE REFUSALS

-- the bytes after the first one
tops_after : (n b : ℕ) (s : List ℕ) → TopBits (suc n) (b ∷ s) → TopBits n s
tops_after n b s t i h = t (suc i) (omega arith)

ends_in : (s : List ℕ) (m : ℕ) (only : Bool) → length s ≤ m → TopBits (length s) s → finds m only s ≡ Refused 1
ends_in [] m only h t = finds_none m only
ends_in (b ∷ s) zero only h t = absurd (omega arith)
ends_in (b ∷ s) (suc m) only h t =
    finds_more m b s only (t 0 (omega arith)) ∙ ap (with_group (b - 128)) (ends_in s m false (omega arith) (tops_after (length s) b s t))

zero_in : (k : ℕ) (s : List ℕ) (m : ℕ) (only : Bool) → (k ≡ 0 → only ≡ false) → k < length s → TopBits k s → get_or s k 0 ≡ 0 → finds m only s ≡ Refused 2
zero_in zero [] m only o h t z = absurd (omega arith)
zero_in zero (b ∷ s) zero only o h t z = tenth_wrong b s only (λ e. omega arith)
zero_in zero (b ∷ s) (suc m) only o h t z = finds_last m b s only (omega arith) ∙ rw (o refl) (group_zero b s z)
zero_in (suc k) [] m only o h t z = absurd (omega arith)
zero_in (suc k) (b ∷ s) zero only o h t z = tenth_wrong b s only (λ e. omega (arith, t 0 (omega arith)))
zero_in (suc k) (b ∷ s) (suc m) only o h t z =
    finds_more m b s only (t 0 (omega arith)) ∙ ap (with_group (b - 128)) (zero_in k s m false (λ _. refl) (omega arith) (tops_after k b s t) z)

large_in : (m : ℕ) (s : List ℕ) (only : Bool) → m < length s → TopBits m s → (get_or s m 0 ≡ 1 → ⊥) → finds m only s ≡ Refused 2
large_in zero [] only h t n = absurd (omega arith)
large_in zero (b ∷ s) only h t n = tenth_wrong b s only n
large_in (suc m) [] only h t n = absurd (omega arith)
large_in (suc m) (b ∷ s) only h t n =
    finds_more m b s only (t 0 (omega arith)) ∙ ap (with_group (b - 128)) (large_in m s false (omega arith) (tops_after m b s t) n)

-- THE REFUSALS COME FROM THE CONDITIONS

-- the three conditions, of what is left of a number
record Ends (m : ℕ) (s : List ℕ) : Type 0 where
  few : length s ≤ m
  tops : TopBits (length s) s

record Short (only : Bool) (s : List ℕ) : Type 0 where
  last : ℕ
  behind : last ≡ 0 → only ≡ false
  there : last < length s
  tops : TopBits last s
  is_zero : get_or s last 0 ≡ 0

record Large (m : ℕ) (s : List ℕ) : Type 0 where
  there : m < length s
  tops : TopBits m s
  not_one : get_or s m 0 ≡ 1 → ⊥

-- what is known where a number was refused
abbrev Known : ℕ → Bool → List ℕ → NumberRead → Type 0
Known m only s (Number v k) = v ≡ v
Known m only s (Refused w) = ((w ≡ 1) × Ends m s) ⊎ ((w ≡ 2) × (Short only s ⊎ Large m s))

tops_more : (n b : ℕ) (s : List ℕ) → 128 ≤ b → TopBits n s → TopBits (suc n) (b ∷ s)
tops_more n b s h t zero l = h
tops_more n b s h t (suc i) l = t i (omega arith)

module _ (m b : ℕ) (s : List ℕ) (only : Bool) (h : 128 ≤ b) where
  ends_more : Ends m s → Ends (suc m) (b ∷ s)
  ends_more e = record { few = omega (arith, e.few); tops = tops_more (length s) b s h e.tops }

  short_more : Short false s → Short only (b ∷ s)
  short_more e =
      record {
        last = suc e.last;
        behind = λ z. absurd (omega arith);
        there = omega (arith, e.there);
        tops = tops_more e.last b s h e.tops;
        is_zero = e.is_zero;
      }

  large_more : Large m s → Large (suc m) (b ∷ s)
  large_more e = record { there = omega (arith, e.there); tops = tops_more m b s h e.tops; not_one = e.not_one }

  known_more : (r : NumberRead) → Known m false s r → Known (suc m) only (b ∷ s) (with_group (b - 128) r)
  known_more (Number v k) e = refl
  known_more (Refused w) (inl e) = inl (e.0, ends_more e.1)
  known_more (Refused w) (inr e) = inr (e.0, ⊎_elim (λ x. inl (short_more x)) (λ x. inr (large_more x)) e.1)

no_tops : (s : List ℕ) → TopBits 0 s
no_tops s i h = absurd (omega arith)

known_tenth : (b : ℕ) (s : List ℕ) (only : Bool) → Known 0 only (b ∷ s) (finds 0 only (b ∷ s))
known_tenth b s only =
    elim (ℕ_discrete b 1) [
      | yes e ↦ rw (tenth_one b s only e) refl
      | no n ↦ rw (tenth_wrong b s only n) (inr (refl, inr (record { there = omega arith; tops = no_tops (b ∷ s); not_one = n })))
    ]

known_last : (m b : ℕ) (s : List ℕ) (only : Bool) → b < 128 → Known (suc m) only (b ∷ s) (read_groups only (b ∷ s))
known_last m b s true h = rw (group_only b s h) refl
known_last m b s false h =
    elim (ℕ_discrete b 0) [
      | yes z ↦
          rw (group_zero b s z)
          (inr (refl, inl (record { last = 0; behind = λ _. refl; there = omega arith; tops = no_tops (b ∷ s); is_zero = z })))
      | no n ↦ rw (group_last b s false h n) refl
    ]

known : (s : List ℕ) (m : ℕ) (only : Bool) → Known m only s (finds m only s)
known [] m only = rw (finds_none m only) (inl (refl, record { few = omega arith; tops = no_tops [] }))
known (b ∷ s) zero only = known_tenth b s only
known (b ∷ s) (suc m) only =
    elim (dec_lt b 128) [
      | yes small ↦ rw (finds_last m b s only small) (known_last m b s only small)
      | no big ↦ rw (finds_more m b s only (omega arith)) (known_more m b s only (omega arith) (finds m false s) (known s m false))
    ]

-- AT THE FRONT OF A LIST
module _ (s : List ℕ) where
  whole : read_number s ≡ finds 9 true s
  unfolding read_number finds
  whole = refl

  refused_known : {w : ℕ} → read_number s ≡ Refused w → Known 9 true s (Refused w)
  refused_known e = rw (sym whole ∙ e) at (known s 9 true)

  pub ends_inside : EndsInside s → read_number s ≡ Refused 1
  ends_inside e = whole ∙ ends_in s 9 true (omega (arith, e.no_tenth)) e.all_before

  pub only_ends_inside : read_number s ≡ Refused 1 → EndsInside s
  only_ends_inside e =
      ⊎_elim (λ h. record { no_tenth = omega (arith, h.1.few); all_before = h.1.tops }) (λ h. absurd (omega (arith, h.0))) (refused_known e)

  pub not_shortest : NotShortest s → read_number s ≡ Refused 2
  not_shortest e = whole ∙ zero_in e.last s 9 true (λ z. absurd (omega (arith, e.not_only))) e.there e.all_before e.is_zero

  pub too_large : TooLarge s → read_number s ≡ Refused 2
  too_large e = whole ∙ large_in 9 s true e.there e.all_before e.not_one

  short_whole : Short true s → NotShortest s
  short_whole e =
      record {
        last = e.last;
        not_only = elim (ℕ_discrete e.last 0) [ yes z ↦ absurd (true≢false (e.behind z)) | no n ↦ omega arith ];
        there = e.there;
        all_before = e.tops;
        is_zero = e.is_zero;
      }

  large_whole : Large 9 s → TooLarge s
  large_whole e = record { there = e.there; all_before = e.tops; not_one = e.not_one }

  pub only_these : read_number s ≡ Refused 2 → NotShortest s ⊎ TooLarge s
  only_these e =
      ⊎_elim (λ h. absurd (omega (arith, h.0))) (λ h. ⊎_elim (λ x. inl (short_whole x)) (λ x. inr (large_whole x)) h.1) (refused_known e)

  module _ (more : EndsInside s → ⊥) (shortest : NotShortest s → ⊥) (fits : TooLarge s → ⊥) where
    read_by : (r : NumberRead) → read_number s ≡ r → IsRead s
    read_by (Number v k) e = record { value = v; count = k; is = e }
    read_by (Refused w) e =
        ⊎_elim
        (λ h. absurd (more (only_ends_inside (e ∙ ap Refused h))))
        (λ h. absurd (⊎_elim shortest fits (only_these (e ∙ ap Refused h))))
        (refusals s e)

    pub read_else : IsRead s
    read_else = read_by (read_number s) refl
