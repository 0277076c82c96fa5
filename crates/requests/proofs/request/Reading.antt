-- What the loop of `read_numbers` keeps: the values read so far, and what is left to read.
-- Assumes nothing.
use Prim.Native.Nat.{ℕ, suc, ◌+◌, ◌-◌, ◌≤◌, ◌<◌}
use mathlib.Core.Path.{◌≡◌, refl, sym, ap, ap₂, ◌∙◌}
use mathlib.Core.List.{List, [], ◌∷◌, ◌++◌, append-nil}
use native.Mathlib.Omega.{arith}
use native.Mathlib.Numerals.{add-one}
use lib.ListN.{length, take, drop, get_or, set, replicate, drop_of_length-le, length-set, length-drop, take-append-drop}
use lib.Seq.{drop-cons, drop-drop, drop-set-lt, take-suc-set, append_snoc, length-take-le, take_all}
use Rattle.requests.specs.Number.{NumberRead, Number, Refused, read_number, number_answer}
use Rattle.requests.specs.Request.{ArgumentsRead, Values, Fault, RequestRead, Read, Refused as RequestRefused, limit, kind_limit, schema, request_of, with_value, read_arguments, as_request, read_request}
use Rattle.requests.specs.Values.{filled, length_answer, kind_after, values_after}
use Rattle.requests.specs.declared.request.Argument.{Argument}
use Rattle.requests.specs.declared.request.Argument.TheVariants.{Content}
use Rattle.formats.specs.Answer.{Answer, done, refused}
use Rattle.formats.specs.Refusal.{number_of}
use Rattle.formats.specs.declared.refusal.Refusal.{Refusal}
use Rattle.formats.proofs.refusal.Laws.{numbered}
use Rattle.formats.proofs.Zeros.{zeros_behind}
use Rattle.requests.proofs.number.Laws.{read_within, same_number}
use Rattle.requests.proofs.request.Cases.{argument_refused, argument_limit, argument_value, kind_value}
use Rattle.requests.proofs.request.Laws.{made_of}

-- what was read after the values vs, which took n bytes
abbrev pub after : List ℕ → ℕ → ArgumentsRead → ArgumentsRead
after vs n (Values ws m) = Values (vs ++ ws) (n + m)
after vs n (Fault w) = Fault w

after_value : (vs : List ℕ) (n v k : ℕ) (r : ArgumentsRead) → after vs n (with_value v k r) ≡ after (vs ++ (v ∷ [])) (n + k) r
after_value vs n v k (Values ws m) = cc (append_snoc vs v ws, add_one_more)
  where
    add_one_more : n + (k + m) ≡ n + k + m
    add_one_more = omega arith
after_value vs n v k (Fault w) = refl

-- of the arguments of a kind that passes, those before place i are read, in the bytes used
pub record Taking (kind : ℕ) (s values : List ℕ) (i used : ℕ) : Type 0 where
  pub passes : kind_limit kind ≡ 0
  pub so_far : read_request s ≡ as_request kind 0 (after (take i values) used (read_arguments (drop i (schema kind)) (drop used s)))
  pub zeros : drop i values ≡ replicate (9 - i) 0
  pub size : length values ≡ 9
  pub within : used ≤ length s

-- once the kind is read
as_more : (kind n : ℕ) (r : ArgumentsRead) → as_request kind n r ≡ as_request kind 0 (after [] n r)
as_more kind n (Values vs m) = ap (Read (request_of kind vs)) (let z : n + m ≡ 0 + (n + m) = omega arith in z)
as_more kind n (Fault w) = refl

pub kind_taken : {kind n : ℕ} (s : List ℕ) → number_answer (Number kind n) ≡ number_answer (read_number s) → 0 ≡ kind_limit kind → Taking kind s (replicate 9 0) 0 n
kind_taken {kind} {n} s e z =
    let number = sym (same_number e) in
    record {
      passes = sym z;
      so_far = kind_value s number (sym z) ∙ as_more kind n (read_arguments (schema kind) (drop n s));
      zeros = refl;
      size = refl;
      within = read_within s number;
    }

-- what is lent as `&s[k..]`
lent_rest : (s : List ℕ) (k : ℕ) → k ≤ length s → take (length s - k) (drop k s) ≡ drop k s
lent_rest s k h = take_all (length s - k) (drop k s) (omega (arith, length-drop k s))

-- what the reader of numbers found in the bytes after those used, which it is lent as `&s[used..]`
pub found : {r : NumberRead} (s : List ℕ) (used : ℕ) → used ≤ length s → number_answer r ≡ number_answer (read_number (take (length s - used) (drop used s))) → read_number (drop used s) ≡ r
found s used h p = ap read_number (sym (lent_rest s used h)) ∙ sym (same_number p)

module _ {kind : ℕ} {s values : List ℕ} {i used : ℕ} (inv : Taking kind s values i used) (here : i < length (schema kind)) where
  -- what the next argument comes to
  goes : {r : ArgumentsRead} → read_arguments (get_or (schema kind) i Content ∷ drop (i + 1) (schema kind)) (drop used s) ≡ r
      → read_request s ≡ as_request kind 0 (after (take i values) used r)
  goes e =
      inv.so_far
      ∙ ap (λ (r : ArgumentsRead). as_request kind 0 (after (take i values) used r))
      (ap (λ (l : List Argument). read_arguments l (drop used s)) (rw add-one (drop-cons (schema kind) i Content here)) ∙ e)

  pub no_number : {w : ℕ} → read_number (drop used s) ≡ Refused w → RequestRefused w ≡ read_request s
  no_number e = sym (goes (argument_refused _ _ (drop used s) e))

  module _ {v k : ℕ} (e : read_number (drop used s) ≡ Number v k) where
    pub past_limit : (w : Refusal) → number_of w ≡ limit (get_or (schema kind) i Content) v → RequestRefused (number_of w) ≡ read_request s
    past_limit w l = ap RequestRefused l ∙ sym (goes (argument_limit _ _ (drop used s) e (λ z. omega (arith, (numbered w).from))))

    pub taken : length (schema kind) ≤ 9 → 0 ≡ limit (get_or (schema kind) i Content) v → Taking kind s (set values i v) (i + 1) (used + k)
    taken few l =
        let fits : i < length values = omega (arith, inv.size) in
        let m : 9 - i ≡ suc (9 - (i + 1)) = omega arith in
        record {
          passes = inv.passes;
          so_far =
              goes (argument_value _ _ (drop used s) e (sym l))
              ∙ ap (as_request kind 0) (after_value (take i values) used v k (read_arguments (drop (i + 1) (schema kind)) (drop k (drop used s))))
              ∙ rw (drop-drop k used s, add-one, take-suc-set values i v fits);
          zeros =
              drop-set-lt (i + 1) values i v (omega arith)
              ∙ sym (drop-drop 1 i values)
              ∙ ap (drop 1) inv.zeros
              ∙ rw m;
          size = length-set values i v ∙ inv.size;
          within = omega (arith, inv.within, read_within (drop used s) e, length-drop used s);
        }

-- what reading leaves in the places for a kind and for values, and what it answers
pub record Told (r : RequestRead) (answer : Answer) (kind₀ kind : ℕ) (values₀ values : List ℕ) : Type 0 where
  pub answer_is : answer ≡ length_answer r
  pub kind_is : kind ≡ kind_after r kind₀
  pub values_are : values ≡ values_after r values₀

pub told_refused : {r : RequestRead} {w : ℕ} {kind₀ : ℕ} {values₀ : List ℕ} → RequestRefused w ≡ r → Told r (refused w) kind₀ kind₀ values₀ values₀
told_refused e = rw (sym e) (record { answer_is = refl; kind_is = refl; values_are = refl })

-- where no argument is left, all of them are read
pub all_read : {kind kind₀ : ℕ} {s values values₀ : List ℕ} {i used : ℕ} → Taking kind s values i used → length (schema kind) ≤ 9 → i ≡ length (schema kind)
    → Told (read_request s) (done (used ∷ [])) kind₀ kind values₀ values
unfolding read_arguments filled
all_read {kind} {s = s} {values = values} {i = i} {used = used} inv few end =
    let size : length (take i values) ≡ i = length-take-le i values (omega (arith, inv.size)) in
    let e : read_request s ≡ Read (request_of kind (take i values)) used =
    inv.so_far
    ∙ ap (λ (l : List Argument). as_request kind 0 (after (take i values) used (read_arguments l (drop used s)))) (drop_of_length-le (schema kind) (omega (arith, end)))
    ∙ ap₂ (λ (vs : List ℕ) (n : ℕ). Read (request_of kind vs) n) (append-nil (take i values)) (let z : 0 + (used + 0) ≡ used = omega arith in z) in
    let q = made_of {k = kind} (take i values) inv.passes (size ∙ end) in
    let f : filled 9 (take i values) ≡ values = rw size (ap (λ (l : List ℕ). take i values ++ l) (sym inv.zeros) ∙ take-append-drop i values) in
    rw e
    (record {
      answer_is = refl;
      kind_is = sym q.kind_is;
      values_are = sym (ap (filled 9) q.values_are ∙ f);
    })

get_or_filled : (vs : List ℕ) (i : ℕ) → get_or (filled 9 vs) i 0 ≡ get_or vs i 0
unfolding filled
get_or_filled vs i = zeros_behind vs (9 - length vs) i

-- the values in nine places make the same request
pub filled_request : (kind : ℕ) (vs : List ℕ) → request_of kind (filled 9 vs) ≡ request_of kind vs
unfolding request_of
filled_request kind vs = simp (get_or_filled vs)
