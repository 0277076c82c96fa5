-- Every call answers and leaves what it did with four kinds of entry.
-- Assumes nothing.
use Prim.Native.Nat.{ℕ}
use mathlib.Core.Path.{◌≡◌, refl, sym, ap, ap₂, ◌∙◌}
use mathlib.Core.List.{List}
use mathlib.Core.Bool.{Bool, true, false, ◌&&◌, cond}
use lib.Dec.{eqb}
use Rattle.formats.specs.Half.{id_of, usable_of, names_spent}
use Rattle.formats.specs.Entry.{kind_by, kind_of, is_copy, is_full}
use Rattle.formats.specs.declared.head.Pair.{Pair}
use Rattle.formats.specs.declared.entry.EntryKind.{EntryKind}
use Rattle.formats.specs.declared.entry.EntryKind.TheVariants.{Free, Copy, Full, Torn, Spent}
use Rattle.requests.specs.declared.request.Request.{Request}
use Rattle.requests.specs.declared.request.Request.TheVariants.{Register, Record, CheckOut, CheckIn, MoveOut, MoveIn, Delete}
use Rattle.formats.proofs.entry.Laws.{vacant_lem}
use Rattle.calls.specs.Buffers.{Buffers, title_at, rule_at, one, copies, copy_of, full_with}
use Rattle.calls.specs.Refusal.{Condition, first}
use Rattle.calls.specs.Conditions.{conditions}
use Rattle.calls.specs.Effect.{effect}
use Rattle.calls.specs.Perform.{refusal, perform}
use Rattle.calls.proofs.History.Totals.{total_same}
use Rattle.calls.specs.FourKinds.{one_of_four, four_kinds, kind_then, copy_then, full_then, copies_then, conditions_then, effect_then, perform_then, AsWithFourKinds}

-- THE KINDS: what is spent was free, and every other kind is as it was
by_halves : (torn a b same named : Bool) → cond torn Torn (one_of_four a b same) ≡ kind_then (cond torn Torn (kind_by a b same named))
by_halves true a b same named = refl
by_halves false false false same true = refl
by_halves false false false same false = refl
by_halves false true false same named = refl
by_halves false true true true named = refl
by_halves false true true false named = refl
by_halves false false true same named = refl

kinds : (t r : List ℕ) → four_kinds t r ≡ kind_then (kind_of t r)
unfolding four_kinds kind_of
kinds t r = by_halves _ (usable_of t) (usable_of r) (eqb (id_of t) (id_of r)) (names_spent t)

-- A COPY AND A FULL ENTRY are what they were
copy_kind : (k : EntryKind) → is_copy k ≡ is_copy (kind_then k)
copy_kind Free = refl
copy_kind Copy = refl
copy_kind Full = refl
copy_kind Torn = refl
copy_kind Spent = refl

full_kind : (k : EntryKind) → is_full k ≡ is_full (kind_then k)
full_kind Free = refl
full_kind Copy = refl
full_kind Full = refl
full_kind Torn = refl
full_kind Spent = refl

module _ (t r : List ℕ) where
  is_copy_then : is_copy (kind_of t r) ≡ is_copy (four_kinds t r)
  is_copy_then = copy_kind (kind_of t r) ∙ ap is_copy (sym (kinds t r))

  is_full_then : is_full (kind_of t r) ≡ is_full (four_kinds t r)
  is_full_then = full_kind (kind_of t r) ∙ ap is_full (sym (kinds t r))

same_copy : (c : ℕ) (t r : List ℕ) → copy_of c t r ≡ copy_then c t r
same_copy c t r = ap (λ (x : Bool). x && eqb (id_of t) c) (is_copy_then t r)

same_full : (c : ℕ) (t r : List ℕ) → full_with c t r ≡ full_then c t r
same_full c t r = ap (λ (x : Bool). x && eqb (id_of t) c) (is_full_then t r)

same_copies : (c : ℕ) (b : Buffers) → copies c b.titles b.rules ≡ copies_then c b
unfolding copies copies_then
same_copies c b = total_same 999 _ _ (λ j l. ap one (same_copy c (title_at b.titles j) (rule_at b.rules j)))

-- SO THE CALLS are what they were
module _ (b : Buffers) (j : ℕ) where
  abbrev t : List ℕ
  t = title_at b.titles j

  abbrev r : List ℕ
  r = rule_at b.rules j

same_conditions : (pair : Pair) (k : Request) (b : Buffers) → conditions pair k b ≡ conditions_then pair k b
unfolding conditions
same_conditions pair (Register c f) b = refl
same_conditions pair (Record c j f h) b = rw (vacant_lem (t b j.0) (r b j.0)) refl
same_conditions pair (CheckOut c j) b = rw (vacant_lem (t b j.0) (r b j.0)) refl
same_conditions pair (CheckIn j f1) b = rw (is_copy_then (t b j.0) (r b j.0)) refl
same_conditions pair (MoveOut j h f) b = rw (is_full_then (t b j.0) (r b j.0)) refl
same_conditions pair (MoveIn c j h) b = rw (vacant_lem (t b j.0) (r b j.0), same_copies c.0 b) refl
same_conditions pair (Delete j f) b = rw (is_copy_then (t b j.0) (r b j.0), is_full_then (t b j.0) (r b j.0)) refl

same_effect : (k : Request) (b : Buffers) → effect k b ≡ effect_then k b
unfolding effect
same_effect (Register c f) b = refl
same_effect (Record c j f h) b = refl
same_effect (CheckOut c j) b = refl
same_effect (CheckIn j f1) b = refl
same_effect (MoveOut j h f) b = refl
same_effect (MoveIn c j h) b = refl
same_effect (Delete j f) b = rw (is_full_then (t b j.0) (r b j.0)) refl

calls : (pair : Pair) (k : Request) (b : Buffers) → perform pair k b ≡ perform_then pair k b
unfolding perform refusal perform_then
calls pair k b =
    ap₂ (λ (cs : List Condition) (made : Buffers). record { answer = first cs; buffers = cond (eqb (first cs) 0) made b }) (same_conditions pair k b)
    (same_effect k b)

pub as_with_four_kinds : AsWithFourKinds
as_with_four_kinds = record { calls = calls; kinds = kinds; copies = same_copy; full = same_full }
