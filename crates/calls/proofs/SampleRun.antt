-- The paper's sample run, and one in which each of the seven calls is done, call by call: what each call needs is what the one
-- before it left.
-- Assumes nothing.
use Prim.Native.Nat.{ℕ, ◌≤◌}
use mathlib.Core.Path.{◌≡◌, refl, sym, ap, ap₂, ◌∙◌}
use mathlib.Core.Logic.{◌≢◌, ◌⊎◌, inl, inr, ⊎_elim}
use mathlib.Core.List.{List, [], ◌∷◌}
use native.Mathlib.Omega.{arith}
use native.Mathlib.Decide.{ℕ_discrete}
use Rattle.std.specs.Prelude.{Some}
use Rattle.formats.specs.declared.head.Pair.{Pair}
use Rattle.formats.specs.Entry.{kind_of, entry_facts}
use Rattle.formats.specs.Row.{here_row}
use Rattle.formats.specs.declared.facts.Facts.{Facts}
use Rattle.formats.specs.declared.entry.EntryKind.TheVariants.{Copy, Full}
use Rattle.formats.specs.declared.row.RowState.TheVariants.{Empty, Here, Away}
use Rattle.requests.specs.declared.request.Request.{Request}
use Rattle.calls.specs.Buffers.{Buffers, title_at, rule_at, state_at, row_facts, here_facts, kind_at, content_at, facts_at, title_key_at, sti_key_at, fresh, Within}
use Rattle.calls.specs.Count.{one_less, one_more}
use Rattle.calls.specs.Perform.{perform, AreBytes}
use Rattle.calls.specs.History.{run, in_order, answers}
use Rattle.calls.specs.Needs.{FactsInRange, MayMove, Vacant, Needs}
use Rattle.calls.specs.Untouched.{title_written}
use Rattle.calls.specs.Work.{RowIs, Recounted, PermitsBecome, FullEntry}
use Rattle.calls.specs.Examples.{check_out}
use Rattle.calls.specs.SampleRun.{sample_facts, two_moves, registration, check_in, move_in, recording, move_out, deletion, SampleRun, EveryCallDone}
use Rattle.calls.proofs.Refusals.{unchanged}
use Rattle.calls.proofs.Named.{HeadsPass, deletes_copy, deletes_holder, unnamed}
use Rattle.calls.proofs.Passed.{found}
use Rattle.calls.proofs.Views.{row_else, kind_else}
use Rattle.calls.proofs.Untouched.{untouched, rule_with_title, heads_kept}
use Rattle.calls.proofs.InBounds.{in_bounds}
use Rattle.calls.proofs.InTurn.{answers_next}
use Rattle.calls.proofs.Done.{work_is_done}
use Rattle.calls.proofs.Fresh.{fresh_empty, fresh_free, fresh_bytes, fresh_heads}

-- WHAT THE CALLS FIND

-- tables that are right, and no entry in use but 7
record Open (pair : Pair) (b : Buffers) : Type 0 where
  bytes : AreBytes b
  heads : HeadsPass pair b
  vacant : (i : ℕ) → Within 999 i → i ≢ 7 → Vacant b i

-- title 1 has these facts, with one move right and so many permits
record Title1 (f : Facts) (permits : ℕ) : Type 0 where
  cci : f.cci ≡ 2
  trigger : f.trigger ≡ 0
  rights : f.rights ≡ 1
  permits_are : f.permits ≡ permits
  title_key : f.title_key ≡ 5
  sti_key : f.sti_key ≡ 6

-- title 1 is in its row
record Standing (pair : Pair) (b : Buffers) (permits : ℕ) : Type 0 where
  tables : Open pair b
  here : state_at b 1 ≡ Here (row_facts b 1)
  facts : Title1 (row_facts b 1) permits

-- no entry is in use
record Home (pair : Pair) (b : Buffers) (permits : ℕ) : Type 0 where
  standing : Standing pair b permits
  vacant_7 : Vacant b 7

-- or entry 7 has its copy
record Lent (pair : Pair) (b : Buffers) : Type 0 where
  standing : Standing pair b 0
  copy : kind_at b 7 ≡ Copy
  id : content_at b 7 ≡ 1
  key : title_key_at b 7 ≡ 5

-- or the title is on the card, in entry 7 as it was recorded, or in entry 9
record AtSeven (pair : Pair) (b : Buffers) : Type 0 where
  tables : Open pair b
  away : state_at b 1 ≡ Away
  entry : FullEntry b 7 1 two_moves 3

record AtNine (pair : Pair) (b : Buffers) : Type 0 where
  heads : HeadsPass pair b
  away : state_at b 1 ≡ Away
  full : kind_at b 9 ≡ Full
  id : content_at b 9 ≡ 1
  title_key : title_key_at b 9 ≡ 5
  sti_key : sti_key_at b 9 ≡ 6

one : Within 999 1
one = record { from = omega arith; to = omega arith }

seven : Within 999 7
seven = record { from = omega arith; to = omega arith }

eight : Within 999 8
eight = record { from = omega arith; to = omega arith }

nine : Within 999 9
nine = record { from = omega arith; to = omega arith }

-- an entry that is free or spent is no copy
no_copy_at : (b : Buffers) (i : ℕ) → Vacant b i → kind_at b i ≢ Copy
no_copy_at b i =
    ⊎_elim (λ free copy. let z : ◌≡◌ {A = ℕ} 0 1 = cc in omega arith) (λ spent copy. let z : ◌≡◌ {A = ℕ} 0 1 = cc in omega arith)

-- the tables stay right, and entries other than 7 vacant, where entry 7 is written
open_after : (pair : Pair) (k : Request) (b : Buffers) → title_written k ≡ Some 7 → Open pair b → Open pair (perform pair k b).buffers
open_after pair k b written o =
    record { bytes = (in_bounds pair k b).stay_bytes o.bytes; heads = heads_kept pair k b o.heads; vacant = λ i l ne. rw (same i l ne) (o.vacant i l ne) }
  where
    same : (i : ℕ) → Within 999 i → i ≢ 7 → kind_at (perform pair k b).buffers i ≡ kind_at b i
    same i l ne =
        let c = found b i l o.heads in
        let u = untouched pair k b in
        let other : title_written k ≢ Some i = λ e. let number : ◌≡◌ {A = ℕ} 7 i = cc in ne (sym number) in
        kind_else b (perform pair k b).buffers u.titles u.rules c.titles_long c.rules_long i l other (rule_with_title k b i other)

-- title 1 with other permits
with_permits_lem : {f g : Facts} {p q r : ℕ} → Title1 f p → Recounted f f.rights r g → r ≡ q → Title1 g q
with_permits_lem f c e =
    record {
      cci = c.cci ∙ f.cci;
      trigger = c.trigger ∙ f.trigger;
      rights = c.rights_are ∙ f.rights;
      permits_are = c.permits_are ∙ e;
      title_key = c.title_key ∙ f.title_key;
      sti_key = c.sti_key ∙ f.sti_key;
    }

-- it may move
may_move_1 : {f : Facts} {p : ℕ} → Title1 f p → MayMove f
may_move_1 f = record { not_triggered = λ e. omega (arith, f.trigger); right_left = λ e. omega (arith, f.rights) }

-- the keys of a full entry are in its halves
keys_in : (b : Buffers) (j : ℕ) → (title_key_at b j ≡ (facts_at b j).title_key) × (sti_key_at b j ≡ (facts_at b j).sti_key)
unfolding entry_facts
keys_in b j = (refl, refl)

-- EACH CALL

-- the call is done, and leaves what the next one finds
record Goes (pair : Pair) (k : Request) (b : Buffers) (P : Buffers → Type 0) : Type 0 where
  done : (perform pair k b).answer ≡ 0
  after : P (perform pair k b).buffers

-- the call is done, and so are those after it
on : (pair : Pair) (k : Request) (ks : List Request) (b : Buffers) {P : Buffers → Type 0} {ns : List ℕ} → Goes pair k b P → ((c : Buffers) → P c → answers pair ks c ≡ ns) → answers pair (k ∷ ks) b ≡ 0 ∷ ns
on pair k ks b g rest = answers_next pair k ks b ∙ ap₂ (λ (x : ℕ) (l : List ℕ). x ∷ l) g.done (rest (perform pair k b).buffers g.after)

-- a refused call leaves what it found
on_refused : (pair : Pair) (k : Request) (ks : List Request) (b : Buffers) {n : ℕ} {ns : List ℕ} → (perform pair k b).answer ≡ n → n ≢ 0 → answers pair ks b ≡ ns → answers pair (k ∷ ks) b ≡ n ∷ ns
on_refused pair k ks b e other rest = answers_next pair k ks b ∙ ap₂ (λ (x : ℕ) (l : List ℕ). x ∷ l) e (ap (answers pair ks) (unchanged pair k b (λ z. other (sym e ∙ z))) ∙ rest)

last : (pair : Pair) (k : Request) (b : Buffers) → (perform pair k b).answer ≡ 0 → answers pair (k ∷ []) b ≡ 0 ∷ []
unfolding run in_order
last pair k b e = ap (λ (x : ℕ). x ∷ []) e

-- 1 register, on a fresh ledger and card: its row is here, other rows are empty, and no entry is in use
record Registered (pair : Pair) (c : ℕ) (f : Facts) (b : Buffers) : Type 0 where
  bytes : AreBytes b
  heads : HeadsPass pair b
  row : state_at b c ≡ Here f
  others : (d : ℕ) → Within 64 d → d ≢ c → state_at b d ≡ Empty
  vacant : (i : ℕ) → Within 999 i → Vacant b i

registered : (pair : Pair) (c : ℕ) (f : Facts) → Within 64 c → FactsInRange f → Goes pair (registration c f) (fresh pair 64 0 0) (Registered pair c f)
registered pair c f is in_range_lem =
    let b = fresh pair 64 0 0 in
    let k = registration c f in
    let p = fresh_heads pair 64 0 (omega arith) (omega arith) (omega arith) in
    let n : Needs pair k b =
    unnamed pair k b
    (record {
      content = record { from = is.from; to = omega (arith, is.to) };
      facts = in_range_lem;
      ledger = p.ledger;
      empty = fresh_empty pair 64 0 0 (omega arith) c is;
    }) in
    let w = work_is_done pair k b in
    let l = w.leaves (fresh_bytes pair 64 0 0) n in
    record {
      done = w.answered.done n;
      after =
          record {
            bytes = (in_bounds pair k b).stay_bytes (fresh_bytes pair 64 0 0);
            heads = heads_kept pair k b p;
            row = l.row.reads;
            others = λ d there ne.
                row_else w.untouched.rows p.ledger d (λ e. let same : ◌≡◌ {A = ℕ} c d = cc in ne (sym same))
                ∙ fresh_empty pair 64 0 0 (omega arith) d there;
            vacant = λ i m. inl (ap₂ (λ (t r : List ℕ). kind_of (title_at t i) (rule_at r i)) l.titles l.rules ∙ fresh_free pair 64 0 0 i m);
          };
    }

-- facts that the two runs register and record
in_range_lem : (rights : ℕ) → rights ≤ 2 → FactsInRange (record { cci = 2; trigger = 0; rights = rights; permits = 1; title_key = 5; sti_key = 6 })
in_range_lem rights few =
    record {
      cci = omega arith;
      not_reserved = λ e. omega arith;
      trigger = omega arith;
      rights = omega arith;
      permits = omega arith;
      title_key = omega arith;
      sti_key = omega arith;
    }

-- 2 record, to entry 7
recorded : (pair : Pair) (b : Buffers) → Registered pair 2 sample_facts b → Goes pair recording b (AtSeven pair)
recorded pair b s =
    let o : Open pair b = record { bytes = s.bytes; heads = s.heads; vacant = λ i l ne. s.vacant i l } in
    let n : Needs pair recording b =
    unnamed pair recording b
    (record {
      content = one;
      entry = seven;
      facts = in_range_lem 2 (omega arith);
      heads = s.heads;
      vacant = s.vacant 7 seven;
      empty = s.others 1 (record { from = omega arith; to = omega arith }) (λ e. omega arith);
    }) in
    let w = work_is_done pair recording b in
    let l = w.leaves s.bytes n in
    record { done = w.answered.done n; after = record { tables = open_after pair recording b refl o; away = l.row.reads; entry = l.entry } }

-- 5 move out
moved_out : (pair : Pair) (b : Buffers) → AtSeven pair b → Goes pair move_out b (λ c. Home pair c 1)
unfolding one_less
moved_out pair b s =
    let e = s.entry in
    let n : Needs pair move_out b =
    unnamed pair move_out b
    (record {
      entry = seven;
      heads = s.tables.heads;
      full = e.full;
      away = rw e.id s.away;
      may_move = rw e.facts record { not_triggered = λ z. omega arith; right_left = λ z. omega arith };
      hash = sym (e.hash (omega arith));
      title_key = λ z. let x : ◌≡◌ {A = ℕ} 9 5 = z ∙ (keys_in b 7).0 ∙ ap (λ (f : Facts). f.title_key) e.facts in omega arith;
      sti_key = λ audio z. let x : ◌≡◌ {A = ℕ} 9 6 = z ∙ (keys_in b 7).1 ∙ ap (λ (f : Facts). f.sti_key) e.facts in omega arith;
    }) in
    let w = work_is_done pair move_out b in
    let l = w.leaves s.tables.bytes n in
    let row : RowIs (perform pair move_out b).buffers 1 (Here (row_facts (perform pair move_out b).buffers 1)) (here_row (row_facts (perform pair move_out b).buffers 1)) = rw e.id at l.row in
    let facts : Recounted two_moves 1 1 (row_facts (perform pair move_out b).buffers 1) = rw (e.id, e.facts) at l.facts in
    record {
      done = w.answered.done n;
      after =
          record {
            standing =
                record {
                  tables = open_after pair move_out b refl s.tables;
                  here = row.reads;
                  facts =
                      record {
                        cci = facts.cci;
                        trigger = facts.trigger;
                        rights = facts.rights_are;
                        permits_are = facts.permits_are;
                        title_key = facts.title_key;
                        sti_key = facts.sti_key;
                      };
                };
            vacant_7 = inr l.entry.spent;
          };
    }

-- 3 check-out to entry 7
lent_out : (pair : Pair) (b : Buffers) → Home pair b 1 → Goes pair (check_out 1 7) b (Lent pair)
unfolding one_less
lent_out pair b h =
    let k = check_out 1 7 in
    let s = h.standing in
    let o = s.tables in
    let n : Needs pair k b =
    unnamed pair k b
    (record { content = one; entry = seven; heads = o.heads; vacant = h.vacant_7; here = s.here; permit_left = λ e. omega (arith, s.facts.permits_are) }) in
    let w = work_is_done pair k b in
    let l = w.leaves o.bytes n in
    record {
      done = w.answered.done n;
      after =
          record {
            standing =
                record {
                  tables = open_after pair k b refl o;
                  here = l.row.here;
                  facts = with_permits_lem s.facts l.row.facts (ap one_less s.facts.permits_are);
                };
            copy = l.copy;
            id = l.id;
            key = l.title_key ∙ s.facts.title_key;
          };
    }

-- 4 check-in of entry 7
checked_in_lem : (pair : Pair) (b : Buffers) → Lent pair b → Goes pair check_in b (λ c. Home pair c 1)
unfolding one_more
checked_in_lem pair b s =
    let i = s.standing in
    let n : Needs pair check_in b =
    unnamed pair check_in b
    (record {
      entry = seven;
      heads = i.tables.heads;
      copy = s.copy;
      here = rw s.id i.here;
      not_14 = rw s.id (λ e. omega (arith, i.facts.permits_are));
      title_key = λ e. let z : ◌≡◌ {A = ℕ} 9 5 = e ∙ s.key in omega arith;
    }) in
    let w = work_is_done pair check_in b in
    let l = w.leaves i.tables.bytes n in
    let row : PermitsBecome b (perform pair check_in b).buffers 1 (one_more (row_facts b 1).permits) = rw s.id at l.row in
    record {
      done = w.answered.done n;
      after =
          record {
            standing =
                record {
                  tables = open_after pair check_in b refl i.tables;
                  here = row.here;
                  facts = with_permits_lem i.facts row.facts (ap one_more i.facts.permits_are);
                };
            vacant_7 = inr l.entry.spent;
          };
    }

-- 7 delete, of the copy in entry 7
copy_deleted_lem : (pair : Pair) (b : Buffers) → Lent pair b → Goes pair (deletion 7) b (λ c. Home pair c 0)
copy_deleted_lem pair b s =
    let k = deletion 7 in
    let i = s.standing in
    let n : Needs pair k b =
    unnamed pair k b
    (record { entry = seven; heads = i.tables.heads; deletable = deletes_copy s.copy; title_key = λ e. let z : ◌≡◌ {A = ℕ} 9 5 = e ∙ s.key in omega arith }) in
    let w = work_is_done pair k b in
    let l = (w.leaves i.tables.bytes n).of_copy s.copy in
    record {
      done = w.answered.done n;
      after =
          record {
            standing = record { tables = open_after pair k b refl i.tables; here = rw l.ledger i.here; facts = rw l.ledger i.facts };
            vacant_7 = inr l.entry.spent;
          };
    }

-- 6 move in to entry 9, with no copy out
moved_in : (pair : Pair) (b : Buffers) (permits : ℕ) → Home pair b permits → Goes pair move_in b (AtNine pair)
moved_in pair b permits h =
    let s = h.standing in
    let o = s.tables in
    let all-vacant : (i : ℕ) → Within 999 i → Vacant b i = λ i l. elim (ℕ_discrete i 7) [ yes e ↦ rw e h.vacant_7 | no ne ↦ o.vacant i l ne ] in
    let n : Needs pair move_in b =
    unnamed pair move_in b
    (record {
      content = one;
      entry = nine;
      heads = o.heads;
      vacant = all-vacant 9 nine;
      here = s.here;
      may_move = may_move_1 s.facts;
      no_copy = λ i l copy. absurd (no_copy_at b i (all-vacant i l) copy);
    }) in
    let w = work_is_done pair move_in b in
    let l = w.leaves o.bytes n in
    let after = (perform pair move_in b).buffers in
    record {
      done = w.answered.done n;
      after =
          record {
            heads = heads_kept pair move_in b o.heads;
            away = l.row.reads;
            full = l.entry.full;
            id = l.entry.id;
            title_key = (keys_in after 9).0 ∙ l.facts.title_key ∙ s.facts.title_key;
            sti_key = (keys_in after 9).1 ∙ l.facts.sti_key ∙ s.facts.sti_key;
          };
    }

-- 7 delete, of the title in entry 9
holder_deleted_lem : (pair : Pair) (b : Buffers) → AtNine pair b → (perform pair (deletion 9) b).answer ≡ 0
holder_deleted_lem pair b s =
    (work_is_done pair (deletion 9) b).answered.done
    (unnamed pair (deletion 9) b
    (record {
      entry = nine;
      heads = s.heads;
      deletable = deletes_holder s.full (rw s.id s.away) (λ audio e. let z : ◌≡◌ {A = ℕ} 9 6 = e ∙ s.sti_key in omega arith);
      title_key = λ e. let z : ◌≡◌ {A = ℕ} 9 5 = e ∙ s.title_key in omega arith;
    }))

-- REFUSED

-- a need that is met, and then another; the one that is not met
infixr 20 ◌met_then◌
◌met_then◌ : {A B C : Type 0} → A → B → C ⊎ (A × B)
p met_then rest = inr (p, rest)

unmet : {A C : Type 0} {n : ℕ} → (A → ⊥) → ((A → ⊥) × (n ≡ n)) ⊎ C
unmet h = inl (h, refl)

-- 6 move in, while the copy is out
move_in_refused : (pair : Pair) (b : Buffers) → Lent pair b → (perform pair move_in b).answer ≡ 14
move_in_refused pair b s =
    let i = s.standing in
    let p = i.tables.heads in
    (work_is_done pair move_in b).answered.refused 14
    (one met_then nine met_then p.ledger met_then p.titles met_then p.rules met_then i.tables.vacant 9 nine (λ e. omega arith)
    met_then i.here met_then may_move_1 i.facts met_then unmet (λ none. none 7 seven s.copy s.id))

-- 3 check-out, with no permit left
check_out_refused : (pair : Pair) (b : Buffers) → Lent pair b → (perform pair (check_out 1 8) b).answer ≡ 12
check_out_refused pair b s =
    let i = s.standing in
    let p = i.tables.heads in
    (work_is_done pair (check_out 1 8) b).answered.refused 12
    (one met_then eight met_then p.ledger met_then p.titles met_then p.rules met_then i.tables.vacant 8 eight (λ e. omega arith)
    met_then i.here met_then unmet (λ left. left i.facts.permits_are))

-- THE RUNS

-- the title that was registered is at home
at_home : (pair : Pair) (b : Buffers) → Registered pair 1 sample_facts b → Home pair b 1
at_home pair b s =
    let facts = ap here_facts s.row in
    record {
      standing =
          record {
            tables = record { bytes = s.bytes; heads = s.heads; vacant = λ i l ne. s.vacant i l };
            here = s.row ∙ ap Here (sym facts);
            facts = rw facts record { cci = refl; trigger = refl; rights = refl; permits_are = refl; title_key = refl; sti_key = refl };
          };
      vacant_7 = s.vacant 7 seven;
    }

in_ledger : (c : ℕ) → 1 ≤ c → c ≤ 64 → Within 64 c
in_ledger c low high = record { from = low; to = high }

pub sample_run : SampleRun
sample_run pair =
    on pair (registration 1 sample_facts) _ (fresh pair 64 0 0) (registered pair 1 sample_facts (in_ledger 1 (omega arith) (omega arith)) (in_range_lem 1 (omega arith))) (λ b s.
    on pair (check_out 1 7) _ b (lent_out pair b (at_home pair b s)) (λ c l.
    on_refused pair (check_out 1 8) _ c (check_out_refused pair c l) (λ e. omega arith)
    (on_refused pair move_in _ c (move_in_refused pair c l) (λ e. omega arith)
    (on pair check_in _ c (checked_in_lem pair c l) (λ d h. last pair move_in d (moved_in pair d 1 h).done)))))

pub every_call_done : EveryCallDone
every_call_done pair =
    on pair (registration 2 sample_facts) _ (fresh pair 64 0 0) (registered pair 2 sample_facts (in_ledger 2 (omega arith) (omega arith)) (in_range_lem 1 (omega arith))) (λ b s.
    on pair recording _ b (recorded pair b s) (λ c at.
    on pair move_out _ c (moved_out pair c at) (λ d h.
    on pair (check_out 1 7) _ d (lent_out pair d h) (λ e l.
    on pair check_in _ e (checked_in_lem pair e l) (λ f i.
    on pair (check_out 1 7) _ f (lent_out pair f i) (λ g m.
    on pair (deletion 7) _ g (copy_deleted_lem pair g m) (λ o j.
    on pair move_in _ o (moved_in pair o 0 j) (λ q x. last pair (deletion 9) q (holder_deleted_lem pair q x)))))))))
