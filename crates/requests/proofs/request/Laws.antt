-- The laws of requests: each has one written form, reading it back yields the request and exactly its bytes, and nothing past the
-- first fault counts. Those of arguments are proved once, over any schema.
-- Assumes nothing.
use Prim.Native.Nat.{ℕ, zero, suc, ◌+◌, ◌^◌, ◌≤◌, ◌<◌}
use mathlib.Core.Path.{◌≡◌, refl, sym, ap, ap₂, ◌∙◌}
use mathlib.Core.List.{List, [], ◌∷◌, ◌++◌, append_assoc}
use mathlib.Core.Bool.{◌&&◌}
use mathlib.Core.Logic.{◌⊎◌, inl, inr, ⊎_elim}
use native.Mathlib.Omega.{arith}
use native.Mathlib.Decide.{ℕ_discrete}
use borrow.Author.Tests.{eq-eqb, ne_eqb, leb-true}
use lib.Dec.{leb}
use lib.ListN.{length, take, drop, length-append, length-drop}
use lib.Seq.{take-add, take_all, drop-append_seam, drop-append-le}
use Rattle.formats.specs.Answer.{Answer, case}
use Rattle.requests.specs.Number.{NumberRead, Number, Refused as NoNumber, groups, read_number}
use Rattle.requests.specs.Forms.{Below}
use Rattle.requests.specs.Request.{ArgumentsRead, Values, Fault, RequestRead, Read, Refused, limit, kind_limit, schema, kind_of, values_of, request_of, numbers, written, first_limit, limit_of, with_value, read_arguments, as_request, read_request, request_values, request_answer, reading_of}
use Rattle.requests.specs.declared.request.Argument.{Argument}
use Rattle.requests.specs.declared.request.Request.{Request}
use Rattle.requests.specs.declared.request.Request.TheVariants.{Register, Record, CheckOut, CheckIn, MoveOut, MoveIn, Delete}
use Rattle.formats.specs.Bytes.{Bytes}
use Rattle.formats.specs.Refusal.{answer_of}
use Rattle.formats.specs.declared.refusal.Refusal.{Refusal}
use Rattle.requests.specs.declared.read.Read.{Read as Found}
use Rattle.std.specs.Prelude.{Result, Ok, Err}
use Rattle.formats.proofs.Bytes.{bytes_drop}
use Rattle.formats.proofs.Cells.{part_cells}
use Rattle.formats.proofs.Tests.{split, passed}
use Rattle.requests.proofs.number.Laws.{reading_undoes_writing, only_written, read_below, read_within, read_positive, refusals, read_stays, refused_stays, valued}
use Rattle.requests.proofs.request.Cases.{argument_refused, argument_limit, argument_value, kind_refused, kind_limit_lem, kind_value}

below_cons : {v : ℕ} (vs : List ℕ) → v < 2 ^ 64 → Below vs → Below (v ∷ vs)
below_cons vs h b zero = h
below_cons vs h b (suc j) = b j

-- no limit is met by a list of values where none is met by the first and none by the others
limits_cons : (a : Argument) (rest : List Argument) (v : ℕ) (vs : List ℕ) → limit a v ≡ 0 → first_limit rest vs ≡ 0 → first_limit (a ∷ rest) (v ∷ vs) ≡ 0
unfolding first_limit
limits_cons a rest v vs z e = simp (eq-eqb (limit a v) 0 z) e

pub limits_split : (a : Argument) (rest : List Argument) (v : ℕ) (vs : List ℕ) → first_limit (a ∷ rest) (v ∷ vs) ≡ 0 → (limit a v ≡ 0) × (first_limit rest vs ≡ 0)
unfolding first_limit
limits_split a rest v vs e =
    elim (ℕ_discrete (limit a v) 0) [
      | yes z ↦ (z, simp (eq-eqb (limit a v) 0 z) at e)
      | no n ↦ absurd (n (simp (ne_eqb (limit a v) 0 n) at e))
    ]

-- what is known of values that were read in n bytes of s
record Form (sch : List Argument) (s vs : List ℕ) (n : ℕ) : Type 0 where
  within : n ≤ length s
  size : length vs ≡ length sch
  limits : first_limit sch vs ≡ 0
  form : Bytes s → take n s ≡ numbers vs
  below : Bytes s → Below vs

-- what is known of what reading arguments finds
Good : List Argument → List ℕ → ArgumentsRead → Type 0
Good sch s (Values vs n) = Form sch s vs n
Good sch s (Fault w) = 0 < w

form_none : (s : List ℕ) → Form [] s [] 0
unfolding first_limit numbers
form_none s = record { within = omega arith; size = refl; limits = refl; form = λ _. refl; below = λ _ j. omega arith }

module _ (a : Argument) (rest : List Argument) (s : List ℕ) {v k : ℕ} (e : read_number s ≡ Number v k) (z : limit a v ≡ 0) where
  form_more : {vs : List ℕ} {n : ℕ} → Form rest (drop k s) vs n → Form (a ∷ rest) s (v ∷ vs) (k + n)
  unfolding numbers
  form_more {vs} {n} f =
      record {
        within = omega (arith, f.within, read_within s e, length-drop k s);
        size = ap suc f.size;
        limits = limits_cons a rest v vs z f.limits;
        form = λ b. take-add k n s ∙ ap₂ ◌++◌ (only_written s b e) (f.form (bytes_drop k s b));
        below = λ b. below_cons vs (read_below s b e) (f.below (bytes_drop k s b));
      }

  good_more : (r : ArgumentsRead) → Good rest (drop k s) r → Good (a ∷ rest) s (with_value v k r)
  unfolding Good
  good_more (Values vs n) f = form_more f
  good_more (Fault w) h = h

refusal_positive : (s : List ℕ) {w : ℕ} → read_number s ≡ NoNumber w → 0 < w
refusal_positive s e = ⊎_elim (λ h. omega arith) (λ h. omega arith) (refusals s e)

good_next : (a : Argument) (rest : List Argument) (s : List ℕ) (x : NumberRead) → read_number s ≡ x → ((k : ℕ) → Good rest (drop k s) (read_arguments rest (drop k s)))
    → Good (a ∷ rest) s (read_arguments (a ∷ rest) s)
unfolding Good
good_next a rest s (NoNumber w) e ih = rw (argument_refused a rest s e) (refusal_positive s e)
good_next a rest s (Number v k) e ih =
    elim (ℕ_discrete (limit a v) 0) [
      | yes z ↦ rw (argument_value a rest s e z) (good_more a rest s e z (read_arguments rest (drop k s)) (ih k))
      | no n ↦ rw (argument_limit a rest s e n) (omega arith)
    ]

good : (sch : List Argument) (s : List ℕ) → Good sch s (read_arguments sch s)
unfolding Good read_arguments
good [] s = form_none s
good (a ∷ rest) s = good_next a rest s (read_number s) refl (λ k. good rest (drop k s))

-- reading written values, with anything after them, yields them and exactly their bytes
reading_undoes_writing_arguments : (sch : List Argument) (vs t : List ℕ) → length vs ≡ length sch → first_limit sch vs ≡ 0 → Below vs
    → read_arguments sch (numbers vs ++ t) ≡ Values vs (length (numbers vs))
unfolding read_arguments numbers
reading_undoes_writing_arguments [] [] t e z b = refl
reading_undoes_writing_arguments [] (v ∷ vs) t e z b = absurd (omega arith)
reading_undoes_writing_arguments (a ∷ rest) [] t e z b = absurd (omega arith)
reading_undoes_writing_arguments (a ∷ rest) (v ∷ vs) t e z b =
    let l = limits_split a rest v vs z in
    let whole : (groups v ++ numbers vs) ++ t ≡ groups v ++ (numbers vs ++ t) = append_assoc (groups v) (numbers vs) t in
    ap (read_arguments (a ∷ rest)) whole
    ∙ argument_value a rest (groups v ++ (numbers vs ++ t)) (reading_undoes_writing v (numbers vs ++ t) (b 0)) l.0
    ∙ ap (λ (s : List ℕ). with_value v (length (groups v)) (read_arguments rest s)) (drop-append_seam (groups v) (numbers vs ++ t))
    ∙ ap (with_value v (length (groups v))) (reading_undoes_writing_arguments rest vs t (omega arith) l.1 (λ j. b (suc j)))
    ∙ ap (Values (v ∷ vs)) (sym (length-append (groups v) (numbers vs)))

-- a request, its kind and its values
pub kind_passes_lem : (q : Request) → kind_limit (kind_of q) ≡ 0
kind_passes_lem (Register c f) = refl
kind_passes_lem (Record c j f h) = refl
kind_passes_lem (CheckOut c j) = refl
kind_passes_lem (CheckIn j f) = refl
kind_passes_lem (MoveOut j h f) = refl
kind_passes_lem (MoveIn c j h) = refl
kind_passes_lem (Delete j f) = refl

kind_small : (q : Request) → kind_of q < 2 ^ 64
kind_small (Register c f) = omega arith
kind_small (Record c j f h) = omega arith
kind_small (CheckOut c j) = omega arith
kind_small (CheckIn j f) = omega arith
kind_small (MoveOut j h f) = omega arith
kind_small (MoveIn c j h) = omega arith
kind_small (Delete j f) = omega arith

pub values_size : (q : Request) → length (values_of q) ≡ length (schema (kind_of q))
unfolding schema
values_size (Register c f) = refl
values_size (Record c j f h) = refl
values_size (CheckOut c j) = refl
values_size (CheckIn j f) = refl
values_size (MoveOut j h f) = refl
values_size (MoveIn c j h) = refl
values_size (Delete j f) = refl

pub request_again : (q : Request) → request_of (kind_of q) (values_of q) ≡ q
unfolding request_of
request_again (Register c f) = refl
request_again (Record c j f h) = refl
request_again (CheckOut c j) = refl
request_again (CheckIn j f) = refl
request_again (MoveOut j h f) = refl
request_again (MoveIn c j h) = refl
request_again (Delete j f) = refl

-- the kind and the values make the request
same_values : {q p : Request} → kind_of q ≡ kind_of p → values_of q ≡ values_of p → q ≡ p
same_values {q} {p} k v = sym (request_again q) ∙ ap₂ request_of k v ∙ request_again p

-- the paper's number and values of each case of a request: its kind and its arguments
unfoldable pub call_answer : Request → Answer
call_answer q = case (kind_of q) (values_of q)

-- requests whose numbers and values are the same are the same
pub same_call : {q p : Request} → call_answer q ≡ call_answer p → q ≡ p
unfolding call_answer
same_call e = same_values (ap (λ (a : Answer). a.number) e) (ap (λ (a : Answer). a.values) e)

-- readings whose numbers and values are the same are the same
pub same_request : {r q : RequestRead} → request_answer r ≡ request_answer q → r ≡ q
same_request {r = Read q k} {q = Read p l} e =
    let z : k ∷ kind_of q ∷ values_of q ≡ l ∷ kind_of p ∷ values_of p = ap (λ (a : Answer). a.values) e in
    ap₂ Read (same_values (cc) (cc)) (cc)
same_request {r = Read q k} {q = Refused w} e = absurd (valued e)
same_request {r = Refused w} {q = Read q k} e = absurd (valued (sym e))
same_request {r = Refused w} {q = Refused x} e = ap Refused (ap (λ (a : Answer). a.number) e)

-- what the code's answer says was found is what was found, where numbers and values are the same
pub same_reading : (r : Result (Found Request) Refusal) {q : RequestRead} → answer_of request_values r ≡ request_answer q → reading_of r ≡ q
same_reading (Ok r) e = same_request e
same_reading (Err w) e = same_request e

-- reading the written form of a request that passes 3 to 6, with anything after it, yields the request and exactly its bytes
pub reading_undoes_writing_request : (q : Request) (t : List ℕ) → limit_of q ≡ 0 → Below (values_of q) → read_request (written q ++ t) ≡ Read q (length (written q))
unfolding written numbers limit_of
reading_undoes_writing_request q t z b =
    let g = groups (kind_of q) in
    let vs = numbers (values_of q) in
    ap read_request (append_assoc g vs t)
    ∙ kind_value (g ++ (vs ++ t)) (reading_undoes_writing (kind_of q) (vs ++ t) (kind_small q)) (kind_passes_lem q)
    ∙ ap (λ (s : List ℕ). as_request (kind_of q) (length g) (read_arguments (schema (kind_of q)) s)) (drop-append_seam g (vs ++ t))
    ∙ ap (as_request (kind_of q) (length g)) (reading_undoes_writing_arguments (schema (kind_of q)) (values_of q) t (values_size q) z b)
    ∙ ap₂ Read (request_again q) (sym (length-append g vs))

-- what holds of the kinds 1 to 7 holds of every kind that passes
by_kind : (P : ℕ → Type 0) → P 1 → P 2 → P 3 → P 4 → P 5 → P 6 → P 7 → (k : ℕ) → kind_limit k ≡ 0 → P k
by_kind P a b c d e f g k z =
    let h = split (leb 1 k) (leb k 7) (passed (leb 1 k && leb k 7) 3 (omega arith) z) in
    let low = leb-true 1 k h.0 in
    let high = leb-true k 7 h.1 in
    elim (ℕ_discrete k 1) [
      | yes x ↦ rw x a
      | no x₁ ↦
          elim (ℕ_discrete k 2) [
            | yes x ↦ rw x b
            | no x₂ ↦
                elim (ℕ_discrete k 3) [
                  | yes x ↦ rw x c
                  | no x₃ ↦
                      elim (ℕ_discrete k 4) [
                        | yes x ↦ rw x d
                        | no x₄ ↦
                            elim (ℕ_discrete k 5) [
                              | yes x ↦ rw x e
                              | no x₅ ↦ elim (ℕ_discrete k 6) [ yes x ↦ rw x f | no x₆ ↦ let x : k ≡ 7 = omega arith in rw x g ]
                            ]
                      ]
                ]
          ]
    ]

-- the request of a kind with at least as many values as its schema has arguments has that kind and the first of those values
pub record Made (k : ℕ) (vs : List ℕ) : Type 0 where
  pub kind_is : kind_of (request_of k vs) ≡ k
  pub values_are : values_of (request_of k vs) ≡ take (length (schema k)) vs

Makes : ℕ → Type 0
Makes k = (vs : List ℕ) → length (schema k) ≤ length vs → Made k vs

makes : (k : ℕ) → kind_limit k ≡ 0 → Makes k
unfolding Makes request_of schema
makes =
    by_kind Makes
    (λ vs h. record { kind_is = refl; values_are = sym (part_cells 7 0 vs h) })
    (λ vs h. record { kind_is = refl; values_are = sym (part_cells 9 0 vs h) })
    (λ vs h. record { kind_is = refl; values_are = sym (part_cells 2 0 vs h) })
    (λ vs h. record { kind_is = refl; values_are = sym (part_cells 2 0 vs h) })
    (λ vs h. record { kind_is = refl; values_are = sym (part_cells 6 0 vs h) })
    (λ vs h. record { kind_is = refl; values_are = sym (part_cells 3 0 vs h) })
    (λ vs h. record { kind_is = refl; values_are = sym (part_cells 5 0 vs h) })

pub made : {k : ℕ} (vs : List ℕ) → kind_limit k ≡ 0 → length (schema k) ≤ length vs → Made k vs
unfolding Makes
made {k} vs z h = makes k z vs h

-- and all of them where they are as many
pub record MadeOf (k : ℕ) (vs : List ℕ) : Type 0 where
  pub kind_is : kind_of (request_of k vs) ≡ k
  pub values_are : values_of (request_of k vs) ≡ vs

pub made_of : {k : ℕ} (vs : List ℕ) → kind_limit k ≡ 0 → length vs ≡ length (schema k) → MadeOf k vs
made_of {k} vs z e =
    let few : length (schema k) ≤ length vs = omega (arith, e) in
    let m = made vs z few in
    record { kind_is = m.kind_is; values_are = m.values_are ∙ take_all (length (schema k)) vs (omega arith) }

-- what is known of a request that was read in k bytes of s
pub record ReadForm (s : List ℕ) (q : Request) (k : ℕ) : Type 0 where
  pub within : k ≤ length s
  pub positive : 0 < k
  pub passes : limit_of q ≡ 0
  pub form : Bytes s → take k s ≡ written q
  pub below : Bytes s → Below (values_of q)

GoodRequest : List ℕ → RequestRead → Type 0
GoodRequest s (Read q k) = ReadForm s q k
GoodRequest s (Refused w) = 0 < w

good_as : (s : List ℕ) (v k : ℕ) → read_number s ≡ Number v k → kind_limit v ≡ 0 → (r : ArgumentsRead) → Good (schema v) (drop k s) r → GoodRequest s (as_request v k r)
unfolding Good GoodRequest limit_of written numbers
good_as s v k e z (Values vs n) f =
    let m = made_of vs z f.size in
    record {
      within = omega (arith, f.within, read_within s e, length-drop k s);
      positive = omega (arith, read_positive s e);
      passes = rw (m.kind_is, m.values_are) f.limits;
      form = λ b. rw (m.kind_is, m.values_are) (take-add k n s ∙ ap₂ ◌++◌ (only_written s b e) (f.form (bytes_drop k s b)));
      below = λ b. rw m.values_are (f.below (bytes_drop k s b));
    }
good_as s v k e z (Fault w) h = h

good_request : (s : List ℕ) (x : NumberRead) → read_number s ≡ x → GoodRequest s (read_request s)
unfolding GoodRequest
good_request s (NoNumber w) e = rw (kind_refused s e) (refusal_positive s e)
good_request s (Number v k) e =
    elim (ℕ_discrete (kind_limit v) 0) [
      | yes z ↦ rw (kind_value s e z) (good_as s v k e z (read_arguments (schema v) (drop k s)) (good (schema v) (drop k s)))
      | no n ↦ rw (kind_limit_lem s e n) (omega arith)
    ]

-- whatever is read, from bytes, is the written form of what was read, which passes 3 to 6
pub request_form : (s : List ℕ) {q : Request} {k : ℕ} → read_request s ≡ Read q k → ReadForm s q k
unfolding GoodRequest
request_form s e = rw e at (good_request s (read_number s) refl)

-- what reading found, and what it finds where more bytes follow: the same, unless the bytes ended inside the request
abbrev Kept : ArgumentsRead → ArgumentsRead → Type 0
Kept r r' = (r ≡ Fault 1) ⊎ (r' ≡ r)

kept_value : (v k : ℕ) {r r' : ArgumentsRead} → Kept r r' → Kept (with_value v k r) (with_value v k r')
kept_value v k (inl e) = inl (ap (with_value v k) e)
kept_value v k (inr e) = inr (ap (with_value v k) e)

-- a number that was refused is refused again, unless the bytes ended inside it
refused_again : (s t : List ℕ) {w : ℕ} → read_number s ≡ NoNumber w → (read_number s ≡ NoNumber 1) ⊎ (read_number (s ++ t) ≡ NoNumber w)
refused_again s t {w} e =
    ⊎_elim (λ h. inl (e ∙ ap NoNumber h)) (λ h. inr (refused_stays s t (e ∙ ap NoNumber h) ∙ ap NoNumber (sym h))) (refusals s e)

kept_next : (a : Argument) (rest : List Argument) (s t : List ℕ) (x : NumberRead) → read_number s ≡ x
    → ((k : ℕ) → Kept (read_arguments rest (drop k s)) (read_arguments rest (drop k s ++ t)))
    → Kept (read_arguments (a ∷ rest) s) (read_arguments (a ∷ rest) (s ++ t))
kept_next a rest s t (NoNumber w) e ih =
    ⊎_elim (λ h. inl (argument_refused a rest s h)) (λ h. inr (argument_refused a rest (s ++ t) h ∙ sym (argument_refused a rest s e))) (refused_again s t e)
kept_next a rest s t (Number v k) e ih =
    elim (ℕ_discrete (limit a v) 0) [
      | yes z ↦
          let h = kept_value v k (ih k) in
          let back = argument_value a rest s e z in
          let more =
          argument_value a rest (s ++ t) (read_stays s t e) z
          ∙ ap (λ (l : List ℕ). with_value v k (read_arguments rest l)) (drop-append-le k s t (read_within s e)) in
          ⊎_elim (λ y. inl (back ∙ y)) (λ y. inr (more ∙ y ∙ sym back)) h
      | no n ↦ inr (argument_limit a rest (s ++ t) (read_stays s t e) n ∙ sym (argument_limit a rest s e n))
    ]

kept : (sch : List Argument) (s t : List ℕ) → Kept (read_arguments sch s) (read_arguments sch (s ++ t))
unfolding read_arguments
kept [] s t = inr refl
kept (a ∷ rest) s t = kept_next a rest s t (read_number s) refl (λ k. kept rest (drop k s) t)

kept_request : (s t : List ℕ) (x : NumberRead) → read_number s ≡ x → (read_request s ≡ Refused 1) ⊎ (read_request (s ++ t) ≡ read_request s)
kept_request s t (NoNumber w) e =
    ⊎_elim (λ h. inl (kind_refused s h)) (λ h. inr (kind_refused (s ++ t) h ∙ sym (kind_refused s e))) (refused_again s t e)
kept_request s t (Number v k) e =
    elim (ℕ_discrete (kind_limit v) 0) [
      | yes z ↦
          let back = kind_value s e z in
          let more =
          kind_value (s ++ t) (read_stays s t e) z
          ∙ ap (λ (l : List ℕ). as_request v k (read_arguments (schema v) l)) (drop-append-le k s t (read_within s e)) in
          ⊎_elim (λ y. inl (back ∙ ap (as_request v k) y)) (λ y. inr (more ∙ ap (as_request v k) y ∙ sym back)) (kept (schema v) (drop k s) t)
      | no n ↦ inr (kind_limit_lem (s ++ t) (read_stays s t e) n ∙ sym (kind_limit_lem s e n))
    ]

-- a request that was read is read whatever follows it
pub read_request_stays : (s t : List ℕ) {q : Request} {k : ℕ} → read_request s ≡ Read q k → read_request (s ++ t) ≡ Read q k
read_request_stays s t e =
    ⊎_elim (λ h. let z : ◌≡◌ {A = ℕ} 0 1 = cc in absurd (omega arith)) (λ h. h ∙ e) (kept_request s t (read_number s) refl)

-- a refusal other than 1 stays whatever follows: nothing past the first fault counts
pub refused_request_stays : (s t : List ℕ) {w : ℕ} → read_request s ≡ Refused w → (w ≡ 1 → ⊥) → read_request (s ++ t) ≡ Refused w
refused_request_stays s t {w} e n =
    ⊎_elim (λ h. let y : w ≡ 1 = cc in absurd (n y)) (λ h. h ∙ e) (kept_request s t (read_number s) refl)
