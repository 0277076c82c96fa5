-- The history theorem: by induction over the list, and then read off the invariant.
-- Assumes nothing.
use Prim.Native.Nat.{ℕ, ◌+◌, ◌≤◌}
use mathlib.Core.Path.{◌≡◌, refl, ap, sym, subst, ◌∙◌}
use mathlib.Core.Logic.{◌≢◌}
use mathlib.Core.List.{List, [], ◌∷◌}
use mathlib.Core.Bool.{Bool, true, false, cond, ◌&&◌}
use native.Mathlib.Omega.{arith}
use native.Mathlib.Decide.{ℕ_discrete}
use lib.Dec.{leb}
use borrow.Author.Tests.{leb-true, ne_eqb}
use Rattle.std.specs.Prelude.{Some, None}
use Rattle.formats.specs.declared.head.Pair.{Pair}
use Rattle.formats.specs.Head.{rows_of}
use Rattle.formats.specs.Row.{state_of}
use Rattle.formats.specs.declared.facts.Facts.{Facts}
use Rattle.requests.specs.declared.request.Request.{Request}
use Rattle.formats.specs.declared.entry.EntryKind.{EntryKind}
use Rattle.formats.specs.declared.row.RowState.{RowState}
use Rattle.formats.specs.declared.row.RowState.TheVariants.{Empty, Here, Away, Gone, NoState}
use Rattle.formats.proofs.Tests.{split}
use Rattle.formats.proofs.row.Laws.{state_zeros}
use Rattle.formats.proofs.head.Laws.{fresh_rows, fresh_row}
use Rattle.calls.specs.Buffers.{Buffers, row_at, state_in, state_at, kind_at, content_at, facts_at, cci_at, is_here, one, fresh, Within, no_facts}
use Rattle.calls.specs.Effect.{copy_cci}
use Rattle.calls.specs.Perform.{perform, AreBytes}
use Rattle.calls.specs.History.{Answered, Log, last_at, Action, actions, times, grant, Run, next, start, run, holders, Holder, in_row, in_entry, TitleClaim, History, granted, checked_out, checked_in, moved, copy_deleted, holder_deleted, NoHolder, NoOthers}
use Rattle.calls.proofs.Refusals.{unchanged}
use Rattle.calls.proofs.Named.{Heads}
use Rattle.calls.proofs.Passed.{needs_met}
use Rattle.calls.proofs.Untouched.{each_head_kept}
use Rattle.calls.proofs.InBounds.{in_bounds}
use Rattle.calls.proofs.Fresh.{fresh_empty, fresh_free, fresh_bytes}
use Rattle.calls.proofs.Views.{place_by, copy_is, view, full_entry, copies_seen, fulls_seen}
use Rattle.calls.proofs.History.Totals.{total_none}
use Rattle.calls.proofs.History.Titles.{Place, no_title, copy, copy_in, full_in, TitleInvariant, Accounts, NotGranted, TitleStep, step_register, step_record, step_check_out, step_check_in, step_move_out, step_move_in, step_delete_copy, step_delete_holder}
use Rattle.calls.proofs.History.Step.{At, Invariant, kept, copies_in, fulls_in, copy_at_counts, holder_found}
use Rattle.calls.proofs.History.Calls.{change}

-- a row that is empty, or none
pub data Blank : RowState → Type 0 where
  empty : Blank Empty
  no_row : Blank NoState

-- THE START

module _ (pair : Pair) (rows application card_application : ℕ) (low : 1 ≤ rows) (high : rows ≤ 999) where
  abbrev b₀ : Buffers
  b₀ = fresh pair rows application card_application

  blank : (c : ℕ) → Blank (state_at b₀ c)
  unfolding state_in
  blank c = by (leb 1 c && leb c (rows_of b₀.ledger)) refl
    where
      by : (x : Bool) → (leb 1 c && leb c (rows_of b₀.ledger)) ≡ x → Blank (cond x (state_of (row_at b₀.ledger c)) NoState)
      by true e =
          let r : rows_of b₀.ledger ≡ rows = fresh_rows rows application (omega arith) in
          let (p, q) = split _ _ e in
          let inside = leb-true c (rows_of b₀.ledger) q in
          rw (fresh_row rows application c (leb-true 1 c p) (omega arith), state_zeros) empty
      by false e = no_row

  -- every place has nothing
  nothing_there : (j : ℕ) → Within 999 j → (view b₀).places j ≡ no_title
  nothing_there j l = ap (λ (k : EntryKind). place_by k (content_at b₀ j) (facts_at b₀ j)) (fresh_free pair rows application card_application j l)

  not_granted : (c : ℕ) → NotGranted (actions c []) (copies_in 999 c (view b₀)) (fulls_in 999 c (view b₀))
  unfolding actions times grant
  not_granted c =
      record {
        no_action = λ d. refl;
        no_grant = refl;
        no_copy = total_none 999 _ (λ j l. ap (copy_in c) (nothing_there j l));
        no_full = total_none 999 _ (λ j l. ap (full_in c) (nothing_there j l));
      }

  title_starts : (c : ℕ) {r : RowState} → Blank r → TitleInvariant c (actions c []) (copies_in 999 c (view b₀)) (fulls_in 999 c (view b₀)) (At 999 (view b₀)) r
  title_starts c empty = not_granted c
  title_starts c no_row = not_granted c

  begins : Invariant 999 [] (view b₀)
  begins = record { titles = λ c. title_starts c (blank c); agree = λ p l. rw (nothing_there p l) tt }

-- THE LIST

-- a refused call leaves a title's actions and what was put at an entry as they were
refused_actions : (c : ℕ) (a : Answered) (log : Log) → a.answer ≢ 0 → actions c (a ∷ log) ≡ actions c log
unfolding actions
refused_actions c a log refused = simp (ne_eqb a.answer 0 refused)

refused_last : (j : ℕ) (a : Answered) (log : Log) → a.answer ≢ 0 → last_at j (a ∷ log) ≡ last_at j log
unfolding last_at
refused_last j a log refused = simp (ne_eqb a.answer 0 refused)

-- what holds after each call
pub record Sound (w : Run) : Type 0 where
  pub inv : Invariant 999 w.log (view w.buffers)
  pub bytes : AreBytes w.buffers

goes_on : (pair : Pair) (k : Request) (w : Run) → Sound w → Sound (next pair k w)
goes_on pair k w s =
    let b = w.buffers in
    record { inv = by (ℕ_discrete (perform pair k b).answer 0); bytes = (in_bounds pair k b).stay_bytes s.bytes }
  where
    by : Dec ((perform pair k w.buffers).answer ≡ 0) → Invariant 999 (next pair k w).log (view (perform pair k w.buffers).buffers)
    by (yes zero) =
        let b = w.buffers in
        rw zero (kept 999 k w.log (view b) (view (perform pair k b).buffers) (change pair w.log b s.inv s.bytes k (needs_met pair k b zero)) s.inv)
    by (no refused) =
        let a : Answered = record { call = k; answer = (perform pair k w.buffers).answer } in
        rw (unchanged pair k w.buffers refused)
        record {
          titles = λ c. rw (refused_actions c a w.log refused) (s.inv.titles c);
          agree = λ p l. rw (refused_last p a w.log refused) (s.inv.agree p l);
        }

always : (pair : Pair) (ks : List Request) (w : Run) → Sound w → Sound (run pair ks w)
unfolding run
always pair [] w s = s
always pair (k ∷ ks) w s = always pair ks (next pair k w) (goes_on pair k w s)

-- A ROW IN A STATE STAYS IN ONE

-- a done call leaves its title's row here, away or gone
step_states : {d n : ℕ} {P : Place → Type 0} {a : Action} {r r' : RowState} {q q' : Place} → TitleStep d n P a r q r' q' → r ≢ NoState → r' ≢ NoState
step_states step_register in_one e = let z : ◌≡◌ {A = ℕ} 0 1 = cc in omega arith
step_states step_record in_one e = let z : ◌≡◌ {A = ℕ} 0 1 = cc in omega arith
step_states (step_check_out _) in_one e = let z : ◌≡◌ {A = ℕ} 0 1 = cc in omega arith
step_states step_check_in in_one e = let z : ◌≡◌ {A = ℕ} 0 1 = cc in omega arith
step_states (step_move_out _ _) in_one e = let z : ◌≡◌ {A = ℕ} 0 1 = cc in omega arith
step_states (step_move_in _ _) in_one e = let z : ◌≡◌ {A = ℕ} 0 1 = cc in omega arith
step_states step_delete_copy in_one e = in_one e
step_states step_delete_holder in_one e = let z : ◌≡◌ {A = ℕ} 0 1 = cc in omega arith

-- and every other as it was
row_stays : (pair : Pair) (k : Request) (w : Run) → Sound w → (c : ℕ) → state_at w.buffers c ≢ NoState → state_at (next pair k w).buffers c ≢ NoState
row_stays pair k w s c in_one = by (ℕ_discrete (perform pair k w.buffers).answer 0)
  where
    by : Dec ((perform pair k w.buffers).answer ≡ 0) → state_at (perform pair k w.buffers).buffers c ≢ NoState
    by (yes zero) =
        let b = w.buffers in
        let ch = change pair w.log b s.inv s.bytes k (needs_met pair k b zero) in
        elim (ℕ_discrete c ch.title) [
          | yes own ↦ subst (λ d. state_at (perform pair k b).buffers d ≢ NoState) (sym own) (step_states ch.step (subst (λ d. state_at b d ≢ NoState) own in_one))
          | no other ↦ λ e. in_one (sym (ch.rows_else c other) ∙ e)
        ]
    by (no refused) = rw (unchanged pair k w.buffers refused) in_one

rows_stay : (pair : Pair) (ks : List Request) (w : Run) → Sound w → (c : ℕ) → state_at w.buffers c ≢ NoState → state_at (run pair ks w).buffers c ≢ NoState
unfolding run
rows_stay pair [] w s c in_one = in_one
rows_stay pair (k ∷ ks) w s c in_one = rows_stay pair ks (next pair k w) (goes_on pair k w s) c (row_stays pair k w s c in_one)

-- THE HEADS STAY AS THEY WERE
pub heads_stay : (pair : Pair) (ks : List Request) (w : Run) {application card_application : ℕ} → Heads pair application card_application w.buffers
    → Heads pair application card_application (run pair ks w).buffers
unfolding run
heads_stay pair [] w h = h
heads_stay pair (k ∷ ks) w h = heads_stay pair ks (next pair k w) (each_head_kept pair k w.buffers h)

-- WHAT IT SAYS OF A TITLE

module _ (c : ℕ) (f : Facts) (acts : List Action) (b : Buffers) where
  from_accounts : (h : Facts) → Accounts acts h (copies_in 999 c (view b)) → ((x : ℕ) → At 999 (view b) (copy c x) → x ≡ copy_cci h.cci)
      → holders c b ≡ 1 → Holder c b h → grant acts ≡ Some f → TitleClaim c f acts b
  from_accounts h accounts cci_of_copies one_holder at e =
      let i : accounts.given ≡ f = cc in
      let n = copies_seen c b in
      record {
        granted_once = accounts.once f;
        unless_deleted = λ z.
            record {
              one_holder = one_holder;
              facts = h;
              holder = at;
              title_key = rw i at accounts.title_key;
              sti_key = rw i at accounts.sti_key;
              cci = rw i at accounts.cci;
              cci_of_copies = λ j l kind id. cci_of_copies (cci_at b j) (j, l, copy_is b j c kind id) ∙ ap copy_cci (rw i at accounts.cci);
              check_outs = rw n accounts.out;
              permits = rw (n, sym i) accounts.permits;
              rights = rw i at accounts.rights;
            };
        if_deleted = λ d. absurd (d accounts.not_deleted);
      }

  holder_count : (r : RowState) (m : ℕ) → state_at b c ≡ r → fulls_in 999 c (view b) ≡ m → holders c b ≡ one (is_here r) + m
  unfolding holders
  holder_count r m row fulls = rw (row, fulls_seen c b, fulls)

  title_claim : (r : RowState) → state_at b c ≡ r → TitleInvariant c acts (copies_in 999 c (view b)) (fulls_in 999 c (view b)) (At 999 (view b)) r → grant acts ≡ Some f → TitleClaim c f acts b
  title_claim Empty row st e = let z : ◌≡◌ {A = ℕ} 0 1 = cc in absurd (omega arith)
  title_claim (Here h) row st e = from_accounts h st.accounts st.cci_of_copies (holder_count (Here h) 0 row st.no_full) (in_row row) e
  title_claim Away row st e =
      let y = holder_found 999 c (view b) (omega (arith, st.one_full)) in
      let j = y.1.0 in
      let l = y.1.1 in
      let u = full_entry (kind_at b j) (content_at b j) (facts_at b j) c y.0 y.1.2 in
      from_accounts y.0 (rw st.no_copy (st.accounts y.0 y.1)) (λ x p. absurd (copy_at_counts 999 c (view b) x p st.no_copy)) (holder_count Away 1 row st.one_full) (in_entry j l.from l.to u.0 u.1 u.2) e
  title_claim Gone row st e =
      record {
        granted_once = st.once f;
        unless_deleted = λ z. absurd (st.deleted z);
        if_deleted = λ d. record { no_holder = holder_count Gone 0 row st.no_full; no_copy = copies_seen c b ∙ st.no_copy };
      }
  title_claim NoState row st e = let z : ◌≡◌ {A = ℕ} 0 1 = cc in absurd (omega arith)

-- WHAT IT SAYS OF A TITLE THAT WAS NOT GRANTED

grant_none : (acts : List Action) → grant acts ≡ None → (f : Facts) → times (granted f) acts ≡ 0
unfolding grant times
grant_none [] e f = refl
grant_none (granted g ∷ acts) e f = let z : ◌≡◌ {A = ℕ} 0 1 = cc in omega arith
grant_none (checked_out ∷ acts) e f = omega (arith, grant_none acts e f)
grant_none (checked_in ∷ acts) e f = omega (arith, grant_none acts e f)
grant_none (moved ∷ acts) e f = omega (arith, grant_none acts e f)
grant_none (copy_deleted ∷ acts) e f = omega (arith, grant_none acts e f)
grant_none (holder_deleted ∷ acts) e f = omega (arith, grant_none acts e f)

-- its row is blank, and nothing of it is on the card
pub record Unknown (c : ℕ) (b : Buffers) (r : RowState) : Type 0 where
  pub row : Blank r
  pub nothing : NoHolder c b

module _ (c : ℕ) (acts : List Action) (b : Buffers) where
  unheld : (r : RowState) → one (is_here r) ≡ 0 → state_at b c ≡ r → NotGranted acts (copies_in 999 c (view b)) (fulls_in 999 c (view b)) → NoHolder c b
  unheld r not_here row st =
      let n : holders c b ≡ one (is_here r) + 0 = holder_count c no_facts acts b r 0 row st.no_full in
      record { no_holder = omega arith; no_copy = copies_seen c b ∙ st.no_copy }

  pub unknown : grant acts ≡ None → (r : RowState) → state_at b c ≡ r
      → TitleInvariant c acts (copies_in 999 c (view b)) (fulls_in 999 c (view b)) (At 999 (view b)) r → Unknown c b r
  unknown e Empty row st = record { row = empty; nothing = unheld Empty refl row st }
  unknown e (Here h) row st = let i = st.accounts.is_grant in let z : ◌≡◌ {A = ℕ} 0 1 = cc in absurd (omega arith)
  unknown e Away row st =
      let y = holder_found 999 c (view b) (omega (arith, st.one_full)) in
      let i = (st.accounts y.0 y.1).is_grant in
      let z : ◌≡◌ {A = ℕ} 0 1 = cc in
      absurd (omega arith)
  unknown e Gone row st = absurd (omega (arith, st.once no_facts, grant_none acts e no_facts))
  unknown e NoState row st = record { row = no_row; nothing = unheld NoState refl row st }

-- after every list
pub sound : (pair : Pair) (rows application card_application : ℕ) → 1 ≤ rows → rows ≤ 999 → (ks : List Request) → Sound (run pair ks (start pair rows application card_application))
sound pair rows application card_application low high ks =
    always pair ks (start pair rows application card_application)
    (record { inv = begins pair rows application card_application low high; bytes = fresh_bytes pair rows application card_application })

-- and each of the ledger's rows is in a state
pub in_a_state : (pair : Pair) (rows application card_application : ℕ) → 1 ≤ rows → rows ≤ 999 → (ks : List Request) (c : ℕ) → Within rows c
    → state_at (run pair ks (start pair rows application card_application)).buffers c ≢ NoState
in_a_state pair rows application card_application low high ks c l =
    rows_stay pair ks (start pair rows application card_application)
    (record { inv = begins pair rows application card_application low high; bytes = fresh_bytes pair rows application card_application }) c
    (λ e. let z : ◌≡◌ {A = ℕ} 0 1 = let f = fresh_empty pair rows application card_application high c l in cc in omega arith)

-- DEMAND 3
pub history : History
history pair rows application card_application low high ks c f e =
    let w = run pair ks (start pair rows application card_application) in
    let s = sound pair rows application card_application low high ks in
    title_claim c f (actions c w.log) w.buffers (state_at w.buffers c) refl (s.inv.titles c) e

pub no_others : NoOthers
no_others pair rows application card_application low high ks c e =
    let w = run pair ks (start pair rows application card_application) in
    let s = sound pair rows application card_application low high ks in
    (unknown c (actions c w.log) w.buffers e (state_at w.buffers c) refl (s.inv.titles c)).nothing
