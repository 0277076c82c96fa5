-- The laws of numbers in groups of seven bits: of any count of groups, then of the ten bytes that a number may have. Reading undoes writing,
-- only the written form is read, and nothing after a number counts.
-- Assumes nothing.
use Prim.Native.Nat.{ℕ, zero, suc, ◌+◌, ◌-◌, ◌*◌, ◌/◌, ◌%◌, ◌^◌, ◌≤◌, ◌<◌}
use mathlib.Core.Path.{◌≡◌, refl, sym, ap, ap₂, ◌∙◌}
use mathlib.Core.Logic.{◌⊎◌, inl, inr, ⊎_elim}
use mathlib.Core.List.{List, [], ◌∷◌, ◌++◌}
use mathlib.Core.Bool.{Bool, true, false, cond, not, true≢false}
use native.Mathlib.Omega.{arith}
use native.Mathlib.Nat.{pow-succ', one-le-pow}
use native.Mathlib.Numerals.{add-one}
use native.Mathlib.Decide.{dec_lt, ℕ_discrete}
use borrow.Author.Tests.{ltb-false, leb-true, eqb-true, not-false, lt-ltb, le-ltb, lt-leb, le-leb, ne_eqb}
use lib.ListN.{length, take}
use lib.Dec.{leb, ltb, eqb}
use Rattle.formats.specs.Answer.{Answer, done, refused}
use Rattle.formats.specs.Part.{put}
use Rattle.formats.specs.Bytes.{Bytes}
use Rattle.formats.proofs.Bytes.{Listed, none, more, bytes, listed, bytes_put}
use Rattle.formats.proofs.Tests.{and_false, same_test}
use Rattle.requests.specs.Number.{NumberRead, Number, Refused, Written, Wrote, NotWritten, groups_in, groups, with_group, read_groups, exceeds, read_number, number_answer, written_answer, writing, written_to}

-- the count of groups allowed does not matter, once it is enough
enough : (k m : ℕ) (b : Bool) (n : ℕ) → ltb n 128 ≡ b → n ≤ k → n ≤ m → groups_in k b n ≡ groups_in m b n
unfolding groups_in
enough zero zero b n e h g = refl
enough zero (suc m) true n e h g = refl
enough zero (suc m) false n e h g = absurd (omega (arith, ltb-false n 128 e))
enough (suc k) zero true n e h g = refl
enough (suc k) zero false n e h g = absurd (omega (arith, ltb-false n 128 e))
enough (suc k) (suc m) true n e h g = refl
enough (suc k) (suc m) false n e h g =
    ap (λ (l : List ℕ). (128 + n % 128) ∷ l)
    (enough k m (ltb (n / 128) 128) (n / 128) refl (omega (arith, ltb-false n 128 e)) (omega (arith, ltb-false n 128 e)))

-- the written form of a number below 128 is the number itself, and else its low group stands before the groups of the rest
groups_in_last : (k m : ℕ) → groups_in k true m ≡ m ∷ []
unfolding groups_in
groups_in_last zero m = refl
groups_in_last (suc k) m = refl

pub groups_last : (n : ℕ) → n < 128 → groups n ≡ n ∷ []
unfolding groups
groups_last n h = rw (lt-ltb n 128 h) (groups_in_last n n)

groups_in_more : (k n : ℕ) → n ≡ k → 128 ≤ n → groups_in k false n ≡ (128 + n % 128) ∷ groups (n / 128)
unfolding groups_in groups
groups_in_more zero n e h = absurd (omega arith)
groups_in_more (suc k) n e h =
    ap (λ (l : List ℕ). (128 + n % 128) ∷ l) (enough k (n / 128) (ltb (n / 128) 128) (n / 128) refl (omega arith) (omega arith))

pub groups_more : (n : ℕ) → 128 ≤ n → groups n ≡ (128 + n % 128) ∷ groups (n / 128)
groups_more n h = unfold groups in (ap (λ (b : Bool). groups_in n b n) (le-ltb n 128 h) ∙ groups_in_more n n refl h)

-- induction along the groups of a number
by_groups_in : (P : ℕ → Type 0) → ((n : ℕ) → n < 128 → P n) → ((n : ℕ) → 128 ≤ n → P (n / 128) → P n) → (k n : ℕ) → n ≤ k → P n
by_groups_in P one step zero n h = one n (omega arith)
by_groups_in P one step (suc k) n h =
    elim (dec_lt n 128) [
      | yes s ↦ one n s
      | no s ↦ step n (omega arith) (by_groups_in P one step k (n / 128) (omega arith))
    ]

by_groups : (P : ℕ → Type 0) → ((n : ℕ) → n < 128 → P n) → ((n : ℕ) → 128 ≤ n → P (n / 128) → P n) → (n : ℕ) → P n
by_groups P one step n = by_groups_in P one step n n (omega arith)

-- a written form has only bytes
groups_listed : (n : ℕ) → Listed (groups n)
groups_listed =
    by_groups (λ n. Listed (groups n)) (λ n h. rw (groups_last n h) (more n (omega arith) none)) (λ n h ih. rw (groups_more n h) (more (128 + n % 128) (omega arith) ih))

pub groups_bytes : (n : ℕ) → Bytes (groups n)
groups_bytes n = bytes (groups_listed n)

-- READING GROUPS, however many there are

-- a group that is the only one; the last one and not 0; 0 behind others; not the last one
module _ (b : ℕ) (s : List ℕ) where
  pub group_only : b < 128 → read_groups true (b ∷ s) ≡ Number b 1
  unfolding read_groups
  group_only h = simp (lt-ltb b 128 h)

  pub group_last : (only : Bool) → b < 128 → (b ≡ 0 → ⊥) → read_groups only (b ∷ s) ≡ Number b 1
  unfolding read_groups
  group_last only h n = simp (lt-ltb b 128 h, ne_eqb b 0 n, and_false (not only))

  pub group_zero : b ≡ 0 → read_groups false (b ∷ s) ≡ Refused 2
  unfolding read_groups
  group_zero z = rw z

  pub group_more : (only : Bool) → 128 ≤ b → read_groups only (b ∷ s) ≡ with_group (b - 128) (read_groups false s)
  unfolding read_groups
  group_more only h = simp (le-ltb b 128 h)

-- the same number in the same count of bytes
pub same : {v w k l : ℕ} → v ≡ w → k ≡ l → Number v k ≡ Number w l
same p q = cc

-- reading what is written, whether or not a group stands before it
Undone : ℕ → Type 0
Undone n = (only : Bool) (s : List ℕ) → 0 < n → read_groups only (groups n ++ s) ≡ Number n (length (groups n))

undone_last : (n : ℕ) → n < 128 → Undone n
unfolding Undone
undone_last n small only s pos = rw (groups_last n small) (group_last n s only small (λ z. omega arith))

undone_more : (n : ℕ) → 128 ≤ n → Undone (n / 128) → Undone n
unfolding Undone
undone_more n big ih only s pos =
    rw (groups_more n big)
    (group_more (128 + n % 128) (groups (n / 128) ++ s) only (omega arith) ∙ rw (ih false s (omega arith)) (same (omega arith) (omega arith)))

-- what is written is read as what it was, whatever follows it
pub groups_read : (n : ℕ) (s : List ℕ) → read_groups true (groups n ++ s) ≡ Number n (length (groups n))
unfolding Undone
groups_read n s =
    elim (dec_lt n 128) [
      | yes small ↦ rw (groups_last n small) (group_only n s small)
      | no big ↦ by_groups Undone undone_last undone_more n true s (omega arith)
    ]

-- THE LIMIT OF TEN BYTES

-- no number that ends before the tenth byte exceeds, and a group with more after it leaves one byte less
pub exceeds_none : (k : ℕ) → exceeds k [] ≡ false
unfolding exceeds
exceeds_none zero = refl
exceeds_none (suc k) = refl

pub exceeds_last : (k b : ℕ) (s : List ℕ) → b < 128 → exceeds (suc k) (b ∷ s) ≡ false
unfolding exceeds
exceeds_last k b s h = simp (lt-leb 128 b h)

pub exceeds_more : (k b : ℕ) (s : List ℕ) → 128 ≤ b → exceeds (suc k) (b ∷ s) ≡ exceeds k s
unfolding exceeds
exceeds_more k b s h = simp (le-leb 128 b h)

-- a number whose first group is its last
pub read_one : (b : ℕ) (s : List ℕ) → b < 128 → read_number (b ∷ s) ≡ Number b 1
unfolding read_number
read_one b s h = simp (exceeds_last 8 b s h) (group_only b s h)

-- what is below this has room in k bytes with the top bit set and 01h after them
cap : ℕ → ℕ
cap k = 2 * 128 ^ k

cap_none : cap 0 ≡ 2
unfolding cap
cap_none = refl

cap_more : (k : ℕ) → (cap (suc k) ≡ 128 * cap k) × (0 < cap k)
unfolding cap
cap_more k = (rw pow-succ' (omega arith), omega (arith, one-le-pow k 128 (omega arith)))

-- the written form of a number exceeds exactly where the number is not below it
Limited : ℕ → Type 0
Limited n = (k : ℕ) (s : List ℕ) → 0 < n → exceeds k (groups n ++ s) ≡ leb (cap k) n

limited_last : (n : ℕ) → n < 128 → Limited n
unfolding Limited exceeds cap
limited_last n small zero s pos =
    rw (groups_last n small)
    (elim (ℕ_discrete n 1) [
      | yes e ↦ rw e
      | no e ↦ simp (ne_eqb n 1 e, le-leb 2 n (omega arith))
    ])
limited_last n small (suc k) s pos =
    rw (groups_last n small) (exceeds_last k n s small ∙ sym (lt-leb (cap (suc k)) n (omega (arith, cap_more k))))

limited_more : (n : ℕ) → 128 ≤ n → Limited (n / 128) → Limited n
unfolding Limited exceeds cap
limited_more n big ih zero s pos =
    rw (groups_more n big) (simp (ne_eqb (128 + n % 128) 1 (λ e. omega arith), le-leb 2 n (omega arith)))
limited_more n big ih (suc k) s pos =
    rw (groups_more n big)
    (exceeds_more k (128 + n % 128) (groups (n / 128) ++ s) (omega arith) ∙ ih k s (omega arith)
    ∙ same_test
    (λ e. le-leb (cap (suc k)) n (omega (arith, cap_more k, leb-true (cap k) (n / 128) e)))
    (λ e. le-leb (cap k) (n / 128) (omega (arith, cap_more k, leb-true (cap (suc k)) n e))))

limited : (n : ℕ) (s : List ℕ) → exceeds 9 (groups n ++ s) ≡ leb (2 ^ 64) n
unfolding Limited cap
limited n s =
    elim (dec_lt n 128) [
      | yes small ↦ rw (groups_last n small) (exceeds_last 8 n s small ∙ sym (lt-leb (2 ^ 64) n (omega arith)))
      | no big ↦ by_groups Limited limited_last limited_more n 9 s (omega arith)
    ]

-- what is written of a number below 2 ^ 64 is read as what it was, whatever follows it
pub reading_undoes_writing : (n : ℕ) (s : List ℕ) → n < 2 ^ 64 → read_number (groups n ++ s) ≡ Number n (length (groups n))
unfolding read_number
reading_undoes_writing n s h = simp (limited n s, lt-leb (2 ^ 64) n h) (groups_read n s)

-- and of any other is refused with 2
pub above_refused : (n : ℕ) (s : List ℕ) → 2 ^ 64 ≤ n → read_number (groups n ++ s) ≡ Refused 2
unfolding read_number
above_refused n s h = simp (limited n s, le-leb (2 ^ 64) n h)

-- WHAT IS READ

-- what is known where reading found the number v in k bytes of s
record Form (only : Bool) (s : List ℕ) (v k : ℕ) : Type 0 where
  some : 0 < k
  within : k ≤ length s
  positive : only ≡ false → 0 < v
  form : Bytes s → take k s ≡ groups v
  room : Bytes s → (m : ℕ) → exceeds m s ≡ false → v < cap m

room_last : (b : ℕ) (s : List ℕ) → b < 128 → (m : ℕ) → exceeds m (b ∷ s) ≡ false → b < cap m
unfolding exceeds
room_last b s small zero e = omega (arith, cap_none, eqb-true b 1 (not-false (eqb b 1) e))
room_last b s small (suc m) e = omega (arith, cap_more m)

room_more : (b : ℕ) (s : List ℕ) (v : ℕ) → 128 ≤ b → b < 256 → ((m : ℕ) → exceeds m s ≡ false → v < cap m)
    → (m : ℕ) → exceeds m (b ∷ s) ≡ false → b - 128 + 128 * v < cap m
unfolding exceeds
room_more b s v big byte ih zero e = absurd (omega (arith, eqb-true b 1 (not-false (eqb b 1) e)))
room_more b s v big byte ih (suc m) e = omega (arith, cap_more m, ih m (sym (exceeds_more m b s big) ∙ e))

form_last : (only : Bool) (b : ℕ) (s : List ℕ) → b < 128 → (only ≡ false → 0 < b) → Form only (b ∷ s) b 1
form_last only b s small pos =
    record {
      some = omega arith;
      within = omega arith;
      positive = pos;
      form = λ _. sym (groups_last b small);
      room = λ _. room_last b s small;
    }

form_more : (only : Bool) (b : ℕ) (s : List ℕ) (v k : ℕ) → 128 ≤ b → Form false s v k → Form only (b ∷ s) (b - 128 + 128 * v) (k + 1)
form_more only b s v k big f =
    let w = b - 128 + 128 * v in
    let p : 0 < v = f.positive refl in
    record {
      some = omega arith;
      within = omega arith;
      positive = λ _. omega arith;
      form =
          λ bytes.
          let byte = bytes 0 in
          let low : 128 + w % 128 ≡ b = omega arith in
          let high : w / 128 ≡ v = omega arith in
          rw add-one
          (ap₂ (λ (x : ℕ) (l : List ℕ). x ∷ l) (sym low) (f.form (λ j. bytes (suc j)) ∙ ap groups (sym high)) ∙ sym (groups_more w (omega arith)));
      room = λ bytes. room_more b s v big (bytes 0) (f.room (λ j. bytes (suc j)));
    }

-- what is known of what reading finds in s; nothing but 1 and 2 is refused with
abbrev Good : Bool → List ℕ → NumberRead → Type 0
Good only s (Number v k) = Form only s v k
Good only s (Refused w) = (w ≡ 1) ⊎ (w ≡ 2)

good_last : (only : Bool) (b : ℕ) (s : List ℕ) → b < 128 → Good only (b ∷ s) (read_groups only (b ∷ s))
good_last true b s small = rw (group_only b s small) (form_last true b s small (λ e. absurd (true≢false e)))
good_last false b s small =
    elim (ℕ_discrete b 0) [
      | yes z ↦ rw (group_zero b s z) (inr refl)
      | no n ↦ rw (group_last b s false small n) (form_last false b s small (λ _. omega arith))
    ]

good_more : (only : Bool) (b : ℕ) (s : List ℕ) → 128 ≤ b → (r : NumberRead) → Good false s r → Good only (b ∷ s) (with_group (b - 128) r)
good_more only b s big (Number v k) f = form_more only b s v k big f
good_more only b s big (Refused w) h = h

good : (s : List ℕ) (only : Bool) → Good only s (read_groups only s)
unfolding read_groups
good [] only = inl refl
good (b ∷ s) only =
    elim (dec_lt b 128) [
      | yes small ↦ good_last only b s small
      | no big ↦ rw (group_more b s only (omega arith)) (good_more only b s (omega arith) (read_groups false s) (good s false))
    ]

-- only the written form is read, however many groups it has
pub only_groups : (s : List ℕ) {v k : ℕ} → Bytes s → read_groups true s ≡ Number v k → take k s ≡ groups v
only_groups s bytes h = (rw h at (good s true)).form bytes

-- a number that was read does not exceed, and is what its groups are read as
number_read : (t : Bool) (r : NumberRead) {v k : ℕ} → cond t (Refused 2) r ≡ Number v k → (t ≡ false) × (r ≡ Number v k)
number_read true r h = absurd (let z : ◌≡◌ {A = ℕ} 0 1 = cc in omega arith)
number_read false r h = (refl, h)

module _ (s : List ℕ) {v k : ℕ} (h : read_number s ≡ Number v k) where
  apart : (exceeds 9 s ≡ false) × (read_groups true s ≡ Number v k)
  unfolding read_number
  apart = number_read (exceeds 9 s) (read_groups true s) h

  read_form : Form true s v k
  read_form = rw apart.1 at (good s true)

  -- what is read takes at least one byte and lies within the list, whose elements need not be bytes
  pub read_positive : 0 < k
  read_positive = read_form.some

  pub read_within : k ≤ length s
  read_within = read_form.within

-- only the written form is read
pub only_written : (s : List ℕ) {v k : ℕ} → Bytes s → read_number s ≡ Number v k → take k s ≡ groups v
only_written s bytes h = only_groups s bytes (apart s h).1

-- what is read is below 2 ^ 64
pub read_below : (s : List ℕ) {v k : ℕ} → Bytes s → read_number s ≡ Number v k → v < 2 ^ 64
unfolding cap
read_below s bytes h = (read_form s h).room bytes 9 (apart s h).0

-- nothing but 1 and 2 is refused with
refusals_by : (t : Bool) (s : List ℕ) {w : ℕ} → cond t (Refused 2) (read_groups true s) ≡ Refused w → (w ≡ 1) ⊎ (w ≡ 2)
refusals_by true s h = inr cc
refusals_by false s h = rw h at (good s true)

pub refusals : (s : List ℕ) {w : ℕ} → read_number s ≡ Refused w → (w ≡ 1) ⊎ (w ≡ 2)
unfolding read_number
refusals s h = refusals_by (exceeds 9 s) s h

-- WHAT FOLLOWS A NUMBER

-- nothing after a number counts: only where the bytes ended inside it, more bytes may change the answer from r to q
abbrev Kept : NumberRead → NumberRead → Type 0
Kept r q = (r ≡ Refused 1) ⊎ (q ≡ r)

kept_cond : (t : Bool) (a : NumberRead) {r q : NumberRead} → Kept r q → Kept (cond t a r) (cond t a q)
kept_cond true a p = inr refl
kept_cond false a p = p

kept_more : (low : ℕ) {r q : NumberRead} → Kept r q → Kept (with_group low r) (with_group low q)
kept_more low (inl e) = inl (ap (with_group low) e)
kept_more low (inr e) = inr (ap (with_group low) e)

kept_groups : (s t : List ℕ) (only : Bool) → Kept (read_groups only s) (read_groups only (s ++ t))
unfolding read_groups
kept_groups [] t only = inl refl
kept_groups (b ∷ s) t only = kept_cond (ltb b 128) _ (kept_more (b - 128) (kept_groups s t false))

-- nor does it count for the limit
kept_limit : (k : ℕ) (s t : List ℕ) (only : Bool) → ((exceeds k s ≡ false) × (read_groups only s ≡ Refused 1)) ⊎ (exceeds k (s ++ t) ≡ exceeds k s)
unfolding exceeds read_groups
kept_limit zero [] t only = inl (refl, refl)
kept_limit zero (b ∷ s) t only = inr refl
kept_limit (suc k) [] t only = inl (refl, refl)
kept_limit (suc k) (b ∷ s) t only =
    elim (dec_lt b 128) [
      | yes small ↦ inr (exceeds_last k b (s ++ t) small ∙ sym (exceeds_last k b s small))
      | no big ↦
          let here = exceeds_more k b s (omega arith) in
          ⊎_elim
          (λ h. inl (here ∙ h.0, group_more b s only (omega arith) ∙ ap (with_group (b - 128)) h.1))
          (λ h. inr (exceeds_more k b (s ++ t) (omega arith) ∙ h ∙ sym here))
          (kept_limit k s t false)
    ]

kept : (s t : List ℕ) → Kept (read_number s) (read_number (s ++ t))
unfolding read_number
kept s t =
    elim (kept_limit 9 s t true) [
      | inl h ↦ inl (simp h.0 h.1)
      | inr h ↦ simp h (kept_cond (exceeds 9 s) (Refused 2) (kept_groups s t true))
    ]

-- what was read stays read, and what was refused with 2 stays refused, whatever follows
pub read_stays : (s t : List ℕ) {v k : ℕ} → read_number s ≡ Number v k → read_number (s ++ t) ≡ Number v k
read_stays s t h = elim (kept s t) [ inl e ↦ let z : ◌≡◌ {A = ℕ} 0 1 = cc in absurd (omega arith) | inr e ↦ e ∙ h ]

pub refused_stays : (s t : List ℕ) → read_number s ≡ Refused 2 → read_number (s ++ t) ≡ Refused 2
refused_stays s t h = elim (kept s t) [ inl e ↦ let z : ◌≡◌ {A = ℕ} 1 2 = cc in absurd (omega arith) | inr e ↦ e ∙ h ]

-- ANSWERS

-- an answer with a value is no refusal
pub valued : {v w : ℕ} {vs : List ℕ} → done (v ∷ vs) ≡ refused w → ⊥
valued e = omega (arith, ap (λ (a : Answer). length a.values) e)

-- readings, and writings, whose numbers and values are the same are the same
pub same_number : {r q : NumberRead} → number_answer r ≡ number_answer q → r ≡ q
same_number {r = Number v k} {q = Number w l} e = let z : v ∷ k ∷ [] ≡ w ∷ l ∷ [] = ap (λ (a : Answer). a.values) e in cc
same_number {r = Number v k} {q = Refused w} e = absurd (valued e)
same_number {r = Refused w} {q = Number v k} e = absurd (valued (sym e))
same_number {r = Refused w} {q = Refused x} e = ap Refused (ap (λ (a : Answer). a.number) e)

pub same_written : {r q : Written} → written_answer r ≡ written_answer q → r ≡ q
same_written {r = Wrote n} {q = Wrote m} e = let z : n ∷ [] ≡ m ∷ [] = ap (λ (a : Answer). a.values) e in cc
same_written {r = Wrote n} {q = NotWritten w} e = absurd (valued e)
same_written {r = NotWritten w} {q = Wrote n} e = absurd (valued (sym e))
same_written {r = NotWritten w} {q = NotWritten x} e = ap NotWritten (ap (λ (a : Answer). a.number) e)

-- writing any bytes w at the front of a buffer, where there is no room for them, and where there is
pub too_short : (w out : List ℕ) → length out < length w → (refused 1 ≡ written_answer (writing w out)) × (out ≡ written_to w out)
unfolding writing written_to
too_short w out h = (simp (lt-ltb (length out) (length w) h), simp (lt-ltb (length out) (length w) h))

pub wrote : (w out : List ℕ) {n : ℕ} {after : List ℕ} → length w ≤ length out → n ≡ length w → after ≡ put out 0 w
    → (done (n ∷ []) ≡ written_answer (writing w out)) × (after ≡ written_to w out)
unfolding writing written_to
wrote w out h count bytes =
    let fits : ltb (length out) (length w) ≡ false = le-ltb (length out) (length w) h in
    (simp (fits, count), simp fits bytes)

-- bytes written into bytes leave bytes, whether or not there is room for them
pub bytes_cond : (t : Bool) (a b : List ℕ) → Bytes a → Bytes b → Bytes (cond t a b)
bytes_cond true a b p q = p
bytes_cond false a b p q = q

pub writing_keeps_bytes : (w out : List ℕ) → Bytes w → Bytes out → Bytes (written_to w out)
unfolding written_to
writing_keeps_bytes w out p q = bytes_cond (ltb (length out) (length w)) out (put out 0 w) q (bytes_put out 0 q (listed w p))
