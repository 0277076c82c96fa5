-- Each of the seven calls, where it is done, is a change of one title at one place.
-- Assumes nothing.
use Prim.Native.Nat.{ℕ}
use mathlib.Core.Path.{◌≡◌, refl, sym, ap, ap₂, subst, ◌∙◌}
use mathlib.Core.Logic.{◌≢◌, inl, inr}
use mathlib.Core.List.{List}
use mathlib.Core.Bool.{Bool, true, false, cond}
use native.Mathlib.Omega.{arith}
use borrow.Author.Tests.{ne_eqb}
use Rattle.std.specs.Prelude.{None, Some}
use Rattle.formats.specs.Entry.{is_full}
use Rattle.formats.specs.declared.head.Pair.{Pair}
use Rattle.formats.specs.Head.{LedgerHead}
use Rattle.formats.specs.declared.facts.Facts.{Facts}
use Rattle.requests.specs.declared.request.Request.{Request}
use Rattle.requests.specs.declared.request.Request.TheVariants.{Register, Record, CheckOut, CheckIn, MoveOut, MoveIn, Delete}
use Rattle.formats.specs.declared.entry.EntryKind.TheVariants.{Copy, Full}
use Rattle.formats.specs.declared.row.RowState.{RowState}
use Rattle.formats.specs.declared.row.RowState.TheVariants.{Here}
use Rattle.formats.proofs.facts.Laws.{facts_same, permitting}
use Rattle.calls.specs.Count.{one_less}
use Rattle.calls.specs.Buffers.{Buffers, title_at, rule_at, state_at, kind_at, content_at, facts_at, Within}
use Rattle.calls.specs.Effect.{after_move}
use Rattle.calls.specs.Perform.{perform, AreBytes}
use Rattle.calls.specs.Untouched.{row_written, title_written}
use Rattle.calls.specs.Work.{Recounted, Left}
use Rattle.calls.specs.History.{Log, a_copy, the_holder, puts, last_at, Action, granted, checked_out, checked_in, moved, copy_deleted, holder_deleted, event}
use Rattle.calls.proofs.Counts.{copy_cci_lem}
use Rattle.calls.proofs.Named.{deletes_copy, deletes_holder, Named, unnamed}
use Rattle.calls.proofs.Passed.{none_counts, OnCard, on_card}
use Rattle.calls.proofs.Views.{place_by, place_of, place_is, nothing_at, copy_is, view, row_else, place_else, copies_seen}
use Rattle.calls.proofs.Untouched.{untouched, rule_with_title}
use Rattle.calls.proofs.Done.{work_is_done}
use Rattle.calls.proofs.History.Titles.{Place, copy, eqb_self, TitleStep, step_register, step_record, step_check_out, step_check_in, step_move_out, step_move_in, step_delete_copy, step_delete_holder, step_at}
use Rattle.calls.proofs.History.Step.{Agree, At, Invariant, Change, copies_in}

-- facts with other permits, and facts after a move
same_permits : {f g : Facts} {p : ℕ} → Recounted f f.rights p g → g ≡ permitting f p
same_permits r = facts_same r.cci r.trigger r.rights_are r.permits_are r.title_key r.sti_key

same_moved : {f g : Facts} → Recounted f (one_less f.rights) f.permits g → g ≡ after_move f
same_moved r = facts_same r.cci r.trigger r.rights_are r.permits_are r.title_key r.sti_key

-- another row or entry than the one written
other_than : {c d : ℕ} → d ≢ c → Some c ≢ Some d
other_than {c} {d} ne e = let same : c ≡ d = cc in ne (sym same)

other_deleted : (x : Bool) {c d : ℕ} → d ≢ c → cond x (Some c) None ≢ Some d
other_deleted true ne = other_than ne
other_deleted false ne = λ e. let z : ◌≡◌ {A = ℕ} 0 1 = cc in omega arith

module _ (pair : Pair) (log : Log) (b : Buffers) (inv : Invariant 999 log (view b)) (are_bytes : AreBytes b) where
  -- what a call leaves, and the rows and places that it does not write
  module _ (k : Request) where
    abbrev after : Buffers
    after = (perform pair k b).buffers

    left : Named pair k b → Left pair k b after
    left n = (work_is_done pair k b).leaves are_bytes (unnamed pair k b n)

    rows_else : LedgerHead b.ledger → (c : ℕ) → ((d : ℕ) → d ≢ c → row_written k b ≢ Some d) → (d : ℕ) → d ≢ c → state_at after d ≡ state_at b d
    rows_else head c other d ne = row_else (untouched pair k b).rows head d (other d ne)

    -- from there to a change
    wrote : {c j : ℕ} {r : RowState} {q : Place} (a : Action) → OnCard b j → state_at after c ≡ r → (view after).places j ≡ q
        → ((d : ℕ) → d ≢ c → row_written k b ≢ Some d) → title_written k ≡ Some j
        → event k log ≡ record { title = c; action = a }
        → TitleStep c (copies_in 999 c (view b)) (At 999 (view b)) a (state_at b c) ((view b).places j) r q
        → Agree q (puts k j (last_at j log)) → ((i : ℕ) → i ≢ j → puts k i (last_at i log) ≡ last_at i log)
        → Change 999 k log (view b) (view after)
    wrote {c} {j} a o row place other written e t here elsewhere =
        let others : (i : ℕ) → i ≢ j → title_written k ≢ Some i = λ i ne. subst (λ x. x ≢ Some i) (sym written) (other_than ne) in
        record {
          title = c;
          place = j;
          action = a;
          event_is = e;
          step = step_at t refl refl row place;
          rows_else = rows_else o.head c other;
          places_else = λ i l ne.
              place_else b after (untouched pair k b).titles (untouched pair k b).rules o.titles_long o.rules_long i l (others i ne) (rule_with_title k b i (others i ne));
          touched = inl o.entry;
          agree_here = λ m. rw place here;
          agree_else = elsewhere;
        }

  -- an entry has what the log says was put there last
  placed_copy : (j : ℕ) → Within 999 j → kind_at b j ≡ Copy → last_at j log ≡ a_copy (content_at b j)
  placed_copy j in_table e = subst (λ k. Agree (place_by k (content_at b j) (facts_at b j)) (last_at j log)) e (inv.agree j in_table)

  placed_full : (j : ℕ) → Within 999 j → kind_at b j ≡ Full → last_at j log ≡ the_holder (content_at b j)
  placed_full j in_table e = subst (λ k. Agree (place_by k (content_at b j) (facts_at b j)) (last_at j log)) e (inv.agree j in_table)

  -- EACH DONE CALL IS A CHANGE
  pub change : (k : Request) → Named pair k b → Change 999 k log (view b) (view (perform pair k b).buffers)
  change (Register c f) n =
      let k = Register c f in
      let l = left k n in
      let same : (i : ℕ) → (view (after k)).places i ≡ (view b).places i = λ i. ap₂ (λ (t r : List ℕ). place_of (title_at t i) (rule_at r i)) l.titles l.rules in
      record {
        title = c.0;
        place = 0;
        action = granted f;
        event_is = refl;
        step = step_at step_register n.empty refl l.row.reads (same 0);
        rows_else = rows_else k n.ledger c.0 (λ d ne. other_than ne);
        places_else = λ i m ne. same i;
        touched = inr (same 0);
        agree_here = λ m. rw (same 0) (inv.agree 0 m);
        agree_else = λ i ne. refl;
      }
  change (Record c j f h) n =
      let k = Record c j f h in
      let l = left k n in
      wrote k (granted f) (on_card pair k b n) l.row.reads (place_is (after k) j.0 l.entry.full ∙ rw (l.entry.id, l.entry.facts))
      (λ d ne. other_than ne) refl refl (step_at step_record n.empty (nothing_at b j.0 n.vacant) refl refl)
      (simp (eqb_self j.0)) (λ i ne. simp (ne_eqb i j.0 ne))
  change (CheckOut c j) n =
      let k = CheckOut c j in
      let l = left k n in
      wrote k checked_out (on_card pair k b n) (l.row.here ∙ ap Here (same_permits l.row.facts)) (copy_is (after k) j.0 c.0 l.copy l.id ∙ ap (copy c.0) (copy_cci_lem _ _ l.cci_of_2 l.cci_else))
      (λ d ne. other_than ne) refl refl (step_at (step_check_out n.permit_left) n.here (nothing_at b j.0 n.vacant) refl refl)
      (simp (eqb_self j.0)) (λ i ne. simp (ne_eqb i j.0 ne))
  change (CheckIn j f1) n =
      let k = CheckIn j f1 in
      let l = left k n in
      wrote k checked_in (on_card pair k b n) (l.row.here ∙ ap Here (same_permits l.row.facts)) (place_is (after k) j.0 l.entry.spent)
      (λ d ne. other_than ne) refl (rw (placed_copy j.0 n.entry n.copy)) (step_at step_check_in n.here (place_is b j.0 n.copy) refl refl)
      tt (λ i ne. refl)
  change (MoveOut j h f) n =
      let k = MoveOut j h f in
      let l = left k n in
      let here = place_is b j.0 n.full in
      wrote k moved (on_card pair k b n) (l.row.reads ∙ ap Here (same_moved l.facts)) (place_is (after k) j.0 l.entry.spent)
      (λ d ne. other_than ne) refl (rw (placed_full j.0 n.entry n.full))
      (step_at (step_move_out (j.0, n.entry, here) n.may_move.right_left) n.away here refl refl)
      tt (λ i ne. refl)
  change (MoveIn c j h) n =
      let k = MoveIn c j h in
      let l = left k n in
      wrote k moved (on_card pair k b n) l.row.reads (place_is (after k) j.0 l.entry.full ∙ rw (l.entry.id, same_moved l.facts))
      (λ d ne. other_than ne) refl refl
      (step_at (step_move_in (sym (copies_seen c.0 b) ∙ none_counts c.0 b n.no_copy) n.may_move.right_left) n.here (nothing_at b j.0 n.vacant) refl refl)
      (simp (eqb_self j.0)) (λ i ne. simp (ne_eqb i j.0 ne))
  change (Delete j f) n =
      let k = Delete j f in
      let l = left k n in
      let other : (d : ℕ) → d ≢ content_at b j.0 → row_written k b ≢ Some d = λ d ne. other_deleted (is_full (kind_at b j.0)) ne in
      elim n.deletable [
        | deletes_copy kind ↦
            let it = l.of_copy kind in
            wrote k copy_deleted (on_card pair k b n) (rw it.ledger) (place_is (after k) j.0 it.entry.spent) other refl (rw (placed_copy j.0 n.entry kind))
            (step_at step_delete_copy refl (place_is b j.0 kind) refl refl) tt (λ i ne. refl)
        | deletes_holder full away key ↦
            let it = l.of_full full in
            wrote k holder_deleted (on_card pair k b n) it.row.reads (place_is (after k) j.0 it.entry.spent) other refl (rw (placed_full j.0 n.entry full))
            (step_at step_delete_holder away (place_is b j.0 full) refl refl) tt (λ i ne. refl)
      ]
