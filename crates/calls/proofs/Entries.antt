-- What each entry is after a list of calls, call by call.
-- Assumes nothing.
use Prim.Native.Nat.{ℕ}
use mathlib.Core.Path.{◌≡◌, refl, sym, ap, ap₂, ◌∙◌}
use mathlib.Core.Logic.{◌≢◌}
use mathlib.Core.List.{List, [], ◌∷◌}
use mathlib.Core.Bool.{Bool, true, false}
use native.Mathlib.Omega.{arith}
use native.Mathlib.Decide.{ℕ_discrete}
use borrow.Author.Tests.{eq-eqb, ne_eqb}
use Rattle.std.specs.Prelude.{Some}
use Rattle.formats.specs.Half.{id_of}
use Rattle.formats.specs.Entry.{kind_of}
use Rattle.formats.specs.declared.head.Pair.{Pair}
use Rattle.formats.specs.declared.entry.EntryKind.{EntryKind}
use Rattle.formats.specs.declared.entry.EntryKind.TheVariants.{Free, Copy, Full, Spent}
use Rattle.requests.specs.declared.request.Request.{Request}
use Rattle.requests.specs.declared.request.Request.TheVariants.{Register, Record, CheckOut, CheckIn, MoveOut, MoveIn, Delete}
use Rattle.calls.specs.Buffers.{Buffers, title_at, rule_at, kind_at, content_at, Within}
use Rattle.calls.specs.Perform.{perform, AreBytes}
use Rattle.calls.specs.History.{LastPut, nothing, a_copy, the_holder, puts, last_at, title_of, Run, next, start, run}
use Rattle.calls.specs.Untouched.{title_written}
use Rattle.calls.specs.Work.{EntrySpent, Left}
use Rattle.calls.specs.Entries.{takes, taken_from, kind_told, EntriesTell}
use Rattle.calls.proofs.Refusals.{unchanged}
use Rattle.calls.proofs.Named.{Named, deletes_copy, deletes_holder, unnamed}
use Rattle.calls.proofs.Passed.{needs_met, OnCard, on_card}
use Rattle.calls.proofs.Untouched.{untouched, rule_with_title}
use Rattle.calls.proofs.InBounds.{in_bounds}
use Rattle.calls.proofs.Views.{same_title, kind_else}
use Rattle.calls.proofs.Done.{work_is_done}
use Rattle.calls.proofs.Fresh.{fresh_free, fresh_content, fresh_bytes}

-- what an entry is and has, where `put` was last put there, and taken away or not
pub record Told (b : Buffers) (j : ℕ) (put : LastPut) (taken : Bool) : Type 0 where
  pub kind : kind_at b j ≡ kind_told put taken
  pub title : content_at b j ≡ title_of put
  pub never : put ≡ nothing → taken ≡ false

-- WHAT IS TAKEN from an entry where something was put leaves it spent
taken_lem : (put : LastPut) (taken : Bool) → kind_told put taken ≢ Free → (kind_told put true ≡ Spent) × (put ≢ nothing)
taken_lem nothing taken other = absurd (other refl)
taken_lem (a_copy c) taken other = (refl, λ e. let z : ◌≡◌ {A = ℕ} 0 1 = cc in omega arith)
taken_lem (the_holder c) taken other = (refl, λ e. let z : ◌≡◌ {A = ℕ} 0 1 = cc in omega arith)

-- ONE CALL
module _ (pair : Pair) (b : Buffers) (are_bytes : AreBytes b) (j : ℕ) (in_table : Within 999 j) {put : LastPut} {taken : Bool} (t : Told b j put taken) where
  abbrev after : Request → Buffers
  after k = (perform pair k b).buffers

  -- at its own entry, or at another, which stays as it was
  at : (k : Request) (i : ℕ) → title_written k ≡ Some i → OnCard b i → (j ≡ i → Told (after k) j (puts k j put) (takes k j taken))
      → (j ≢ i → (puts k j put ≡ put) × (takes k j taken ≡ taken)) → Told (after k) j (puts k j put) (takes k j taken)
  at k i written o here elsewhere =
      elim (ℕ_discrete j i) [
        | yes e ↦ here e
        | no ne ↦
            let other : title_written k ≢ Some j = λ e. let number : ◌≡◌ {A = ℕ} i j = cc in ne (sym number) in
            let u = untouched pair k b in
            let rules = rule_with_title k b j other in
            let (same_put, same_taken) = elsewhere ne in
            rw (same_put, same_taken)
            record {
              kind = kind_else b (after k) u.titles u.rules o.titles_long o.rules_long j in_table other rules ∙ t.kind;
              title = ap id_of (same_title b (after k) u.titles u.rules o.titles_long o.rules_long j in_table other rules) ∙ t.title;
              never = t.never;
            }
      ]

  -- an entry that was of a kind other than free is spent with the ID that it had
  spent : (i : ℕ) (after : Buffers) {k : EntryKind} → EntrySpent i b after → kind_at b i ≡ k → k ≢ Free → j ≡ i → Told after j put true
  spent i after l was other e =
      let (is, put_there) = taken_lem put taken (λ free. other (sym was ∙ ap (kind_at b) (sym e) ∙ t.kind ∙ free)) in
      record {
        kind = ap (kind_at after) e ∙ l.spent ∙ sym is;
        title = ap (content_at after) e ∙ l.id ∙ ap (content_at b) (sym e) ∙ t.title;
        never = λ z. absurd (put_there z);
      }

  left : (k : Request) → Named pair k b → Left pair k b (after k)
  left k n = (work_is_done pair k b).leaves are_bytes (unnamed pair k b n)

  copy_not_free : Copy ≢ Free
  copy_not_free e = let z : ◌≡◌ {A = ℕ} 0 1 = cc in omega arith

  full_not_free : Full ≢ Free
  full_not_free e = let z : ◌≡◌ {A = ℕ} 0 1 = cc in omega arith

  told_next : (k : Request) → Named pair k b → Told (after k) j (puts k j put) (takes k j taken)
  told_next (Register c f) n =
      let l = left (Register c f) n in
      record {
        kind = ap₂ (λ (x y : List ℕ). kind_of (title_at x j) (rule_at y j)) l.titles l.rules ∙ t.kind;
        title = ap (λ (x : List ℕ). id_of (title_at x j)) l.titles ∙ t.title;
        never = t.never;
      }
  told_next (Record c i f h) n =
      let k = Record c i f h in
      let l = left k n in
      at k i.0 refl (on_card pair k b n)
      (λ e. rw (eq-eqb j i.0 e) (rw e record { kind = l.entry.full; title = l.entry.id; never = λ z. refl }))
      (λ ne. rw (ne_eqb j i.0 ne) (refl, refl))
  told_next (CheckOut c i) n =
      let k = CheckOut c i in
      let l = left k n in
      at k i.0 refl (on_card pair k b n)
      (λ e. rw (eq-eqb j i.0 e) (rw e record { kind = l.copy; title = l.id; never = λ z. refl }))
      (λ ne. rw (ne_eqb j i.0 ne) (refl, refl))
  told_next (CheckIn i f1) n =
      let k = CheckIn i f1 in
      let l = left k n in
      at k i.0 refl (on_card pair k b n)
      (λ e. rw (eq-eqb j i.0 e) (spent i.0 _ l.entry n.copy copy_not_free e))
      (λ ne. rw (ne_eqb j i.0 ne) (refl, refl))
  told_next (MoveOut i h f) n =
      let k = MoveOut i h f in
      let l = left k n in
      at k i.0 refl (on_card pair k b n)
      (λ e. rw (eq-eqb j i.0 e) (spent i.0 _ l.entry n.full full_not_free e))
      (λ ne. rw (ne_eqb j i.0 ne) (refl, refl))
  told_next (MoveIn c i h) n =
      let k = MoveIn c i h in
      let l = left k n in
      at k i.0 refl (on_card pair k b n)
      (λ e. rw (eq-eqb j i.0 e) (rw e record { kind = l.entry.full; title = l.entry.id; never = λ z. refl }))
      (λ ne. rw (ne_eqb j i.0 ne) (refl, refl))
  told_next (Delete i f) n =
      let k = Delete i f in
      let l = left k n in
      at k i.0 refl (on_card pair k b n)
      (λ e.
      rw (eq-eqb j i.0 e)
      elim n.deletable [
        | deletes_copy copy ↦ spent i.0 _ (l.of_copy copy).entry copy copy_not_free e
        | deletes_holder full away key ↦ spent i.0 _ (l.of_full full).entry full full_not_free e
      ])
      (λ ne. rw (ne_eqb j i.0 ne) (refl, refl))

-- THE LIST
record ToldIn (w : Run) (j : ℕ) : Type 0 where
  bytes : AreBytes w.buffers
  told : Told w.buffers j (last_at j w.log) (taken_from j w.log)

goes_on : (pair : Pair) (k : Request) (w : Run) (j : ℕ) → Within 999 j → ToldIn w j → ToldIn (next pair k w) j
unfolding last_at taken_from
goes_on pair k w j in_table s =
    record { bytes = (in_bounds pair k w.buffers).stay_bytes s.bytes; told = by (ℕ_discrete (perform pair k w.buffers).answer 0) }
  where
    by : Dec ((perform pair k w.buffers).answer ≡ 0) → Told (perform pair k w.buffers).buffers j (last_at j (next pair k w).log) (taken_from j (next pair k w).log)
    by (yes zero) = rw (eq-eqb (perform pair k w.buffers).answer 0 zero) (told_next pair w.buffers s.bytes j in_table s.told k (needs_met pair k w.buffers zero))
    by (no refused) = rw (ne_eqb (perform pair k w.buffers).answer 0 refused) (rw (unchanged pair k w.buffers refused) s.told)

always : (pair : Pair) (ks : List Request) (w : Run) (j : ℕ) → Within 999 j → ToldIn w j → ToldIn (run pair ks w) j
unfolding run
always pair [] w j in_table s = s
always pair (k ∷ ks) w j in_table s = always pair ks (next pair k w) j in_table (goes_on pair k w j in_table s)

module _ (pair : Pair) (rows application card_application : ℕ) (ks : List Request) (j : ℕ) (in_table : Within 999 j) where
  begins : ToldIn (start pair rows application card_application) j
  unfolding last_at taken_from
  begins =
      record {
        bytes = fresh_bytes pair rows application card_application;
        told =
            record {
              kind = fresh_free pair rows application card_application j in_table;
              title = fresh_content pair rows application card_application j in_table;
              never = λ z. refl;
            };
      }

  pub told : Told (run pair ks (start pair rows application card_application)).buffers j
      (last_at j (run pair ks (start pair rows application card_application)).log) (taken_from j (run pair ks (start pair rows application card_application)).log)
  told = (always pair ks (start pair rows application card_application) j in_table begins).told

pub entries_tell : EntriesTell
entries_tell pair rows application card_application low high ks j in_table =
    let t = told pair rows application card_application ks j in_table in
    record { kind = t.kind; title = t.title }
