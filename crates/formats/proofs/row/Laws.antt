-- What the tests of a row say, and the laws of rows.
-- Assumes nothing.
use Prim.Native.Nat.{ℕ, ◌+◌, ◌*◌, ◌/◌, ◌%◌, ◌≤◌, ◌<◌, ◌^◌}
use mathlib.Core.Path.{◌≡◌, refl, sym, ap, subst, ◌∙◌}
use mathlib.Core.List.{List, [], ◌∷◌, ◌++◌, append_assoc}
use mathlib.Core.Bool.{Bool, true, false, cond}
use native.Mathlib.Omega.{arith}
use native.Mathlib.Nat.{mod-eq_of_lt}
use lib.ListN.{length, get_or, replicate}
use lib.Dec.{eqb}
use lib.Bits.{bit_and, bit_or, or_shifted}
use lib.Pow.{pow-add, shl_exact, shl_lt}
use borrow.Author.Tests.{ne_eqb, eqb-true}
use borrow.Rule.Slice.PartMut.{put_mid}
use Rattle.formats.specs.Answer.{Answer, case}
use Rattle.formats.specs.Part.{part, put, replaced}
use Rattle.formats.specs.Field.{number, bytes_of}
use Rattle.formats.specs.Facts.{fact_values, in_range}
use Rattle.formats.specs.Row.{facts_of, state_of, here_row, plain_row, with_permits}
use Rattle.formats.specs.declared.row.RowState.{RowState}
use Rattle.formats.specs.declared.row.RowState.TheVariants.{Empty, Here, Away, Gone, NoState}
use Rattle.formats.specs.declared.facts.Facts.{Facts}
use Rattle.formats.proofs.field.Laws.{number_whole, number_below, number_last}
use Rattle.formats.proofs.field.Joined.{low_bytes, joined_bytes}
use Rattle.formats.proofs.Bits.{low_eight}
use Rattle.formats.proofs.Part.{put_length, put_whole, replaced_whole}
use Rattle.formats.proofs.Writes.{wrote_start, wrote_field}
use Rattle.formats.specs.Bytes.{Bytes}
use Rattle.formats.proofs.Bytes.{none, more, bytes, then, zeros, field, bytes_put}
use Rattle.formats.proofs.Cells.{cells, of_cells}
use Rattle.formats.proofs.facts.Laws.{Ranges, ranges, in_range_lem, facts_same, permitting}

-- "byte 0 state (0 empty, 1 here, 2 away on the card, 3 gone)", with the facts of a row that is here; 4 for bytes that are no
-- state
unfoldable pub state_answer : RowState → Answer
state_answer Empty = case 0 []
state_answer (Here f) = case 1 (fact_values f)
state_answer Away = case 2 []
state_answer Gone = case 3 []
state_answer NoState = case 4 []

-- a state back from its number and values
facts_from : List ℕ → Facts
facts_from vs =
    record { cci = get_or vs 0 0; trigger = get_or vs 1 0; rights = get_or vs 2 0; permits = get_or vs 3 0; title_key = get_or vs 4 0; sti_key = get_or vs 5 0 }

state_from : Answer → RowState
state_from a =
    cond (eqb a.number 0) Empty
    (cond (eqb a.number 1) (Here (facts_from a.values)) (cond (eqb a.number 2) Away (cond (eqb a.number 3) Gone NoState)))

state_back : (s : RowState) → state_from (state_answer s) ≡ s
unfolding state_answer facts_from state_from
state_back Empty = refl
state_back (Here f) = refl
state_back Away = refl
state_back Gone = refl
state_back NoState = refl

-- states with the same answer are the same
pub same_state : {x y : RowState} → state_answer x ≡ state_answer y → x ≡ y
same_state {x} {y} e = sym (state_back x) ∙ ap state_from e ∙ state_back y

-- bytes that are no state are none, whatever their length
either_way : (b : Bool) → cond b NoState NoState ≡ NoState
either_way true = refl
either_way false = refl

-- the state of 24 bytes, by byte 0
module _ (row : List ℕ) (size : length row ≡ 24) where
  -- 0
  pub is_empty_lem : get_or row 0 0 ≡ 0 → state_of row ≡ Empty
  unfolding state_of
  is_empty_lem e = simp (size, e)

  -- 1, with facts in their ranges
  pub is_here_lem : get_or row 0 0 ≡ 1 → in_range (facts_of row) ≡ true → state_of row ≡ Here (facts_of row)
  unfolding state_of
  is_here_lem e r = simp (size, e, r)

  -- 2
  pub is_away_lem : get_or row 0 0 ≡ 2 → state_of row ≡ Away
  unfolding state_of
  is_away_lem e = simp (size, e)

  -- 3
  pub is_gone : get_or row 0 0 ≡ 3 → state_of row ≡ Gone
  unfolding state_of
  is_gone e = simp (size, e)

-- the state of any bytes whose byte 0 is 1, with other facts
pub is_torn : (row : List ℕ) → get_or row 0 0 ≡ 1 → in_range (facts_of row) ≡ false → state_of row ≡ NoState
unfolding state_of
is_torn row e r = simp (e, r) (either_way (eqb (length row) 24))

-- and of those whose byte 0 is above 3
pub is_none : (row : List ℕ) → 3 < get_or row 0 0 → state_of row ≡ NoState
unfolding state_of
is_none row h =
    let e = ne_eqb (get_or row 0 0) in
    simp (e 0 (λ i. omega arith), e 1 (λ i. omega arith), e 2 (λ i. omega arith), e 3 (λ i. omega arith)) (either_way (eqb (length row) 24))

-- a byte set under those that a word already has
next_byte : (k a b : ℕ) → 8 + k ≤ 64 → bit_or (a * 2 ^ (8 + k)) ((bit_and b 255 * 2 ^ k) % 2 ^ 64) ≡ (a * 256 + b % 256) * 2 ^ k
next_byte k a b fits =
    let small : b % 256 < 256 = omega arith in
    let moved : (bit_and b 255 * 2 ^ k) % 2 ^ 64 ≡ b % 256 * 2 ^ k =
    ap (λ (x : ℕ). (x * 2 ^ k) % 2 ^ 64) (low_eight b) ∙ shl_exact 8 k 64 small fits in
    let power : 2 ^ (8 + k) ≡ 256 * 2 ^ k = pow-add 2 8 k in
    ap (bit_or (a * 2 ^ (8 + k))) moved
    ∙ or_shifted a (8 + k) (b % 256 * 2 ^ k) (shl_lt 8 k small)
    ∙ rw power (omega arith)

-- the first five bytes of a row in a word, each above the next
pub first_bytes : (a b c d : ℕ)
    → bit_or (bit_or (bit_or (bit_or (2 ^ 56) ((bit_and a 255 * 2 ^ 48) % 2 ^ 64)) ((bit_and b 255 * 2 ^ 40) % 2 ^ 64)) ((bit_and c 255 * 2 ^ 32) % 2 ^ 64)) ((bit_and d 255 * 2 ^ 24) % 2 ^ 64)
    ≡ 2 ^ 56 + a % 256 * 2 ^ 48 + b % 256 * 2 ^ 40 + c % 256 * 2 ^ 32 + d % 256 * 2 ^ 24
first_bytes a b c d =
    let p = 1 * 256 + a % 256 in
    let q = p * 256 + b % 256 in
    let r = q * 256 + c % 256 in
    ap (λ (x : ℕ). bit_or (bit_or (bit_or x ((bit_and b 255 * 2 ^ 40) % 2 ^ 64)) ((bit_and c 255 * 2 ^ 32) % 2 ^ 64)) ((bit_and d 255 * 2 ^ 24) % 2 ^ 64)) (next_byte 48 1 a (omega arith))
    ∙ ap (λ (x : ℕ). bit_or (bit_or x ((bit_and c 255 * 2 ^ 32) % 2 ^ 64)) ((bit_and d 255 * 2 ^ 24) % 2 ^ 64)) (next_byte 40 p b (omega arith))
    ∙ ap (λ (x : ℕ). bit_or x ((bit_and d 255 * 2 ^ 24) % 2 ^ 64)) (next_byte 32 q c (omega arith))
    ∙ next_byte 24 r d (omega arith)
    ∙ omega arith

-- bytes 0 to 7 of a row that is here, written as one field
first_field : (a b c d : ℕ) → a < 256 → b < 256 → c < 256 → d < 256
    → bytes_of 8 (2 ^ 56 + a * 2 ^ 48 + b * 2 ^ 40 + c * 2 ^ 32 + d * 2 ^ 24) ≡ 1 ∷ a ∷ b ∷ c ∷ d ∷ 0 ∷ 0 ∷ 0 ∷ []
unfolding bytes_of
first_field a b c d ha hb hc hd =
    let x = 2 ^ 56 + a * 2 ^ 48 + b * 2 ^ 40 + c * 2 ^ 32 + d * 2 ^ 24 in
    let byte_0 : x / 2 ^ 56 % 256 ≡ 1 = omega arith in
    let byte_1 : x / 2 ^ 48 % 256 ≡ a = omega arith in
    let byte_2 : x / 2 ^ 40 % 256 ≡ b = omega arith in
    let byte_3 : x / 2 ^ 32 % 256 ≡ c = omega arith in
    let byte_4 : x / 2 ^ 24 % 256 ≡ d = omega arith in
    let byte-5 : x / 2 ^ 16 % 256 ≡ 0 = omega arith in
    let byte-6 : x / 2 ^ 8 % 256 ≡ 0 = omega arith in
    let byte-7 : x / 2 ^ 0 % 256 ≡ 0 = omega arith in
    cc

-- a key and a zero byte after it, written as one field
key_field : (key : ℕ) → bytes_of 8 ((key * 2 ^ 8) % 2 ^ 64) ≡ bytes_of 7 key ++ (0 ∷ [])
unfolding bytes_of
key_field key = low_bytes 8 ((key * 2 ^ 8) % 2 ^ 64) (key * 2 ^ 8 + 0) (omega arith) ∙ joined_bytes 7 1 key 0 (omega arith)

-- the three fields of a row that is here, one after the other
pub here_fields : (f : Facts) {x : ℕ} → x ≡ 2 ^ 56 + f.cci % 256 * 2 ^ 48 + f.trigger % 256 * 2 ^ 40 + f.rights % 256 * 2 ^ 32 + f.permits % 256 * 2 ^ 24
    → (bytes_of 8 x ++ bytes_of 8 ((f.title_key * 2 ^ 8) % 2 ^ 64)) ++ bytes_of 8 ((f.sti_key * 2 ^ 8) % 2 ^ 64) ≡ here_row f
unfolding here_row
here_fields f {x} e =
    let t = f.title_key in
    let s = f.sti_key in
    rw
    (e, first_field (f.cci % 256) (f.trigger % 256) (f.rights % 256) (f.permits % 256) (omega arith) (omega arith) (omega arith) (omega arith), key_field t, key_field s)
    (ap (λ (l : List ℕ). 1 ∷ f.cci % 256 ∷ f.trigger % 256 ∷ f.rights % 256 ∷ f.permits % 256 ∷ 0 ∷ 0 ∷ 0 ∷ l) (append_assoc (bytes_of 7 t) (0 ∷ []) (bytes_of 7 s ++ (0 ∷ []))))

-- and those of a row in another state
pub plain_fields : (state : ℕ) → state < 256 → (bytes_of 8 ((state * 2 ^ 56) % 2 ^ 64) ++ bytes_of 8 0) ++ bytes_of 8 0 ≡ plain_row state
unfolding plain_row bytes_of
plain_fields state small =
    let x = (state * 2 ^ 56) % 2 ^ 64 in
    let byte_0 : x / 2 ^ 56 % 256 ≡ state = omega arith in
    let byte_1 : x / 2 ^ 48 % 256 ≡ 0 = omega arith in
    let byte_2 : x / 2 ^ 40 % 256 ≡ 0 = omega arith in
    let byte_3 : x / 2 ^ 32 % 256 ≡ 0 = omega arith in
    let byte_4 : x / 2 ^ 24 % 256 ≡ 0 = omega arith in
    let byte-5 : x / 2 ^ 16 % 256 ≡ 0 = omega arith in
    let byte-6 : x / 2 ^ 8 % 256 ≡ 0 = omega arith in
    let byte-7 : x / 2 ^ 0 % 256 ≡ 0 = omega arith in
    cc

-- three fields that were lent from a row of 24 bytes, one after the other, are all of it
pub three_fields : {new p q r : List ℕ} (x y z : ℕ) (row : List ℕ) → length row ≡ 24 → length new ≡ 24 → (bytes_of 8 x ++ bytes_of 8 y) ++ bytes_of 8 z ≡ new
    → p ≡ bytes_of (length (part row 0 8)) x
    → q ≡ bytes_of (length (part (put_mid 0 8 row p) 8 8)) y
    → r ≡ bytes_of (length (part (put_mid 8 8 (put_mid 0 8 row p) q) 16 8)) z
    → put_mid 16 8 (put_mid 8 8 (put_mid 0 8 row p) q) r ≡ replaced 24 new row
three_fields {new} x y z row size whole fields a b c =
    let first = wrote_field 8 x (wrote_start 0 row (omega arith)) (omega arith) a in
    let second = wrote_field 8 y first (omega arith) b in
    (wrote_field 8 z second (omega arith) c).is
    ∙ ap (put row 0) fields
    ∙ put_whole row new (whole ∙ sym size)
    ∙ sym (replaced_whole 24 new row size)

-- a key is the field of its eight bytes without the last
pub key_of_eight : (a : ℕ) (row : List ℕ) → Bytes row → a + 8 ≤ length row → number (part row a 8) / 2 ^ 8 ≡ number (part row a 7)
key_of_eight a row byte within = omega (arith, number_last 7 a row within, byte (a + 7))

-- a row that is here has 24 bytes
pub here_length : (f : Facts) → length (here_row f) ≡ 24
unfolding here_row bytes_of
here_length f = refl

-- so has a row in another state
pub plain_length : (state : ℕ) → length (plain_row state) ≡ 24
unfolding plain_row
plain_length state = refl

-- and so has one with other permits
pub permits_length : (row : List ℕ) (p : ℕ) → length row ≡ 24 → length (with_permits row p) ≡ 24
unfolding with_permits
permits_length row p e = put_length row (p % 256 ∷ []) 4 (omega arith) ∙ e

-- the facts that were written are read back
facts_back : (f : Facts) → Ranges f → f.title_key < 2 ^ 56 → f.sti_key < 2 ^ 56 → facts_of (here_row f) ≡ f
unfolding facts_of here_row bytes_of
facts_back f r t s =
    facts_same (mod-eq_of_lt (omega arith)) (mod-eq_of_lt (omega arith)) (mod-eq_of_lt (omega arith)) (mod-eq_of_lt (omega arith)) (number_whole 7 t) (number_whole 7 s)

-- a row that is written here reads back
pub state_here : (f : Facts) → in_range f ≡ true → f.title_key < 2 ^ 56 → f.sti_key < 2 ^ 56 → state_of (here_row f) ≡ Here f
unfolding here_row
state_here f r t s =
    let e : facts_of (here_row f) ≡ f = facts_back f (ranges r) t s in
    is_here_lem (here_row f) (here_length f) refl (ap in_range e ∙ r) ∙ ap Here e

-- a row written away reads back
pub state_plain_away : state_of (plain_row 2) ≡ Away
unfolding plain_row
state_plain_away = is_away_lem (plain_row 2) (plain_length 2) refl

-- a row written gone reads back
pub state_plain_gone : state_of (plain_row 3) ≡ Gone
unfolding plain_row
state_plain_gone = is_gone (plain_row 3) (plain_length 3) refl

-- a row of zeros is empty
pub state_zeros : state_of (replicate 24 0) ≡ Empty
state_zeros = is_empty_lem (replicate 24 0) refl refl

-- what a row that is here holds
pub record HereFacts (row : List ℕ) (f : Facts) : Type 0 where
  pub facts : f ≡ facts_of row
  pub passes : in_range f ≡ true
  pub first : get_or row 0 0 ≡ 1

-- the same, of any state
abbrev Reads : List ℕ → RowState → Type 0
Reads row (Here f) = HereFacts row f
Reads row Empty = Unit
Reads row Away = Unit
Reads row Gone = Unit
Reads row NoState = Unit

-- a row that is here holds its facts
pub here_facts_lem : (row : List ℕ) {f : Facts} → state_of row ≡ Here f → HereFacts row f
unfolding state_of
here_facts_lem row h = subst (Reads row) h (reads (eqb (length row) 24) (eqb (get_or row 0 0) 0) (eqb (get_or row 0 0) 1) (in_range (facts_of row)) (eqb (get_or row 0 0) 2) (eqb (get_or row 0 0) 3) refl refl)
  where
    reads : (n a b r c d : Bool) → eqb (get_or row 0 0) 1 ≡ b → in_range (facts_of row) ≡ r
        → Reads row (cond n (cond a Empty (cond b (cond r (Here (facts_of row)) NoState) (cond c Away (cond d Gone NoState)))) NoState)
    reads false a b r c d e p = tt
    reads true true b r c d e p = tt
    reads true false true true c d e p = record { facts = refl; passes = p; first = eqb-true _ _ e }
    reads true false true false c d e p = tt
    reads true false false r true d e p = tt
    reads true false false r false true e p = tt
    reads true false false r false false e p = tt

-- its keys are seven bytes each
pub here_keys : (row : List ℕ) {f : Facts} → state_of row ≡ Here f → length row ≡ 24 → Bytes row
    → (f.title_key < 2 ^ 56) × (f.sti_key < 2 ^ 56)
unfolding facts_of
here_keys row h e bytes = rw (here_facts_lem row h).facts (number_below 7 8 row bytes (omega arith), number_below 7 16 row bytes (omega arith))

-- what is read of a row whose permits are changed
permits_read : (row : List ℕ) (p : ℕ) → length row ≡ 24 → p ≤ 15 → (get_or (with_permits row p) 0 0 ≡ get_or row 0 0) × (facts_of (with_permits row p) ≡ permitting (facts_of row) p)
unfolding with_permits put facts_of
permits_read row p e small =
    let m : p % 256 ≡ p = mod-eq_of_lt (omega arith) in
    of_cells (λ x. (get_or (with_permits x p) 0 0 ≡ get_or x 0 0) × (facts_of (with_permits x p) ≡ permitting (facts_of x) p)) 24 row e
    (refl, ap (permitting (facts_of (cells 24 row 0))) m)

-- a row whose permits are changed is here with the other facts as they were
pub state_permits : (row : List ℕ) {f : Facts} (p : ℕ) → length row ≡ 24 → state_of row ≡ Here f → p ≤ 15 → state_of (with_permits row p) ≡ Here (permitting f p)
state_permits row {f} p e h small =
    let change = permits_read row p e small in
    let g = here_facts_lem row h in
    let r = ranges g.passes in
    let k : facts_of (with_permits row p) ≡ permitting f p = change.1 ∙ ap (λ (x : Facts). permitting x p) (sym g.facts) in
    let q : in_range (permitting f p) ≡ true = in_range_lem (record { cci = r.cci; kind = r.kind; trigger = r.trigger; rights = r.rights; permits = small }) in
    is_here_lem (with_permits row p) (permits_length row p e) (change.0 ∙ g.first) (ap in_range k ∙ q) ∙ ap Here k

-- written rows hold bytes
pub here_bytes : (f : Facts) → Bytes (here_row f)
unfolding here_row
here_bytes f =
    bytes
    (more 1 (omega arith)
    (more (f.cci % 256) (omega arith)
    (more (f.trigger % 256) (omega arith)
    (more (f.rights % 256) (omega arith)
    (more (f.permits % 256) (omega arith)
    (then (zeros 3) (then (field 7 f.title_key) (more 0 (omega arith) (then (field 7 f.sti_key) (zeros 1))))))))))

pub plain_bytes : (state : ℕ) → state < 256 → Bytes (plain_row state)
unfolding plain_row
plain_bytes state small = bytes (more state small (zeros 23))

pub permits_bytes : (row : List ℕ) (p : ℕ) → Bytes row → Bytes (with_permits row p)
unfolding with_permits
permits_bytes row p b = bytes_put row 4 b (more (p % 256) (omega arith) none)
