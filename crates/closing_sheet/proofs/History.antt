-- What a manager can check by the sheet, from the invariant of demand 3.
-- Assumes nothing.
use Prim.Native.Nat.{ℕ, zero, suc, ◌-◌}
use mathlib.Core.Path.{◌≡◌, refl, sym, ap, ap₂, ◌∙◌}
use mathlib.Core.Logic.{◌≢◌, ◌⊎◌, inl, inr}
use mathlib.Core.List.{List, [], ◌++◌, append-nil, append_assoc}
use mathlib.Core.Bool.{Bool, true, false, true≢false}
use native.Mathlib.Omega.{arith}
use native.Mathlib.Decide.{ℕ_discrete}
use borrow.Author.Tests.{ne_eqb}
use Rattle.std.specs.Prelude.{Some}
use Rattle.formats.specs.Head.{rows_of}
use Rattle.formats.specs.declared.facts.Facts.{Facts}
use Rattle.formats.specs.declared.row.RowState.{RowState}
use Rattle.formats.specs.declared.row.RowState.TheVariants.{Empty, Here, Away, Gone, NoState}
use Rattle.formats.specs.declared.entry.EntryKind.{EntryKind}
use Rattle.formats.specs.Entry.{entry_facts, is_spent}
use Rattle.calls.specs.Buffers.{Buffers, state_at, kind_at, content_at, facts_at, is_empty, one, Within, title_at, rule_at, full_with}
use Rattle.calls.specs.History.{LastPut, nothing, a_copy, the_holder, Action, actions, grant, start, run}
use Rattle.calls.specs.Entries.{kind_told}
use Rattle.calls.proofs.Entries.{Told, told}
use Rattle.calls.proofs.First.{first_none, first_holds}
use Rattle.calls.proofs.Views.{inside, view, place_by, full_entry, copies_seen}
use Rattle.calls.proofs.History.Totals.{total_same}
use Rattle.calls.proofs.History.Titles.{full, Accounts, TitleInvariant}
use Rattle.calls.proofs.History.Step.{At, copies_in, fulls_in, holder_found}
use Rattle.calls.proofs.History.Always.{Blank, empty, no_row, sound, unknown, in_a_state}
use Rattle.tables.specs.ByTitle.{first_full, spent_entries}
use Rattle.closing_sheet.specs.declared.line.Line.{Line}
use Rattle.closing_sheet.specs.Sheet.{state_shown, line_with, line_of, line_text, row_text, rows_text, sheet_text}
use Rattle.closing_sheet.specs.History.{Printed, TitleOnSheet, SheetAddsUp}
use Rattle.closing_sheet.proofs.sheet.Laws.{not_empty, row_printed, last_of}
use Rattle.closing_sheet.proofs.Shows.{holds_at, says, line_shows}

-- A ROW'S LINE STANDS IN THE TEXT

-- a row's line among those of the rows 1 to n
pub record Among (b : Buffers) (c n : ℕ) : Type 0 where
  pub after : List ℕ
  pub is : rows_text n b ≡ rows_text (c - 1) b ++ (line_text (line_of b c) ++ after)

among : (b : Buffers) (c : ℕ) → is_empty (state_at b c) ≡ false → (n : ℕ) → Within n c → Among b c n
unfolding rows_text
among b c line zero l = absurd (omega (arith, l.from, l.to))
among b c line (suc n) l = by (λ m. among b c line n m) (ℕ_discrete c (suc n))
  where
    by : (Within n c → Among b c n) → Dec (c ≡ suc n) → Among b c (suc n)
    by ih (yes e) =
        let before : n ≡ c - 1 = omega arith in
        record {
          after = [];
          is =
              ap (λ (l : List ℕ). rows_text n b ++ l) (ap (row_text b) (sym e) ∙ (row_printed b c line).0 ∙ sym (append-nil (line_text (line_of b c))))
              ∙ ap (λ (m : ℕ). rows_text m b ++ (line_text (line_of b c) ++ [])) before;
        }
    by ih (no ne) =
        let a = ih (record { from = l.from; to = omega (arith, l.to) }) in
        record {
          after = a.after ++ row_text b (suc n);
          is =
              ap (λ (l : List ℕ). l ++ row_text b (suc n)) a.is
              ∙ append_assoc (rows_text (c - 1) b) (line_text (line_of b c) ++ a.after) (row_text b (suc n))
              ∙ ap (λ (l : List ℕ). rows_text (c - 1) b ++ l) (append_assoc (line_text (line_of b c)) a.after (row_text b (suc n)));
        }

is_printed : (b : Buffers) (c : ℕ) → state_at b c ≢ Empty → state_at b c ≢ NoState → Printed b c
unfolding sheet_text
is_printed b c not-blank in-one =
    let a = among b c (not_empty (state_at b c) not-blank) (rows_of b.ledger) (inside b.ledger c in-one) in
    let last = last_of b in
    record {
      after = a.after ++ last;
      is =
          ap (λ (l : List ℕ). l ++ last) a.is
          ∙ append_assoc (rows_text (c - 1) b) (line_text (line_of b c) ++ a.after) last
          ∙ ap (λ (l : List ℕ). rows_text (c - 1) b ++ l) (append_assoc (line_text (line_of b c)) a.after last);
    }

-- AN AWAY TITLE: its first full entry

-- entry j has title c in full
pub record HasTitle (b : Buffers) (c j : ℕ) : Type 0 where
  pub some_entry : j ≢ 0
  pub at : At 999 (view b) (full c (facts_at b j))

first_has : (b : Buffers) (c : ℕ) → fulls_in 999 c (view b) ≢ 0 → HasTitle b c (first_full c b.titles b.rules)
unfolding first_full
first_has b c held =
    let y = holder_found 999 c (view b) held in
    let p = y.1.0 in
    let u = full_entry (kind_at b p) (content_at b p) (facts_at b p) c y.0 y.1.2 in
    let t = λ (j : ℕ). full_with c (title_at b.titles j) (rule_at b.rules j) in
    let j = first_full c b.titles b.rules in
    let found : j ≢ 0 = λ z. true≢false (sym (holds_at b c p u.0 u.1) ∙ first_none t 999 z p y.1.1) in
    let (l, e) = first_holds t 999 found in
    let (kind, id) = says b c j e in
    record { some_entry = found; at = (j, l, ap₂ (λ (k : EntryKind) (i : ℕ). place_by k i (facts_at b j)) kind id) }

-- A TITLE, BY ITS ROW

module _ (c : ℕ) (acts : List Action) (b : Buffers) where
  abbrev Inv : RowState → Type 0
  Inv r = TitleInvariant c acts (copies_in 999 c (view b)) (fulls_in 999 c (view b)) (At 999 (view b)) r

  -- a row that is here, away or gone has a line
  has_line : (r : RowState) → state_at b c ≡ r → state_shown r 4 ≢ 0 → state_shown r 4 ≢ 4 → Printed b c
  has_line r row not-blank in_one =
      is_printed b c (λ z. not-blank (ap (λ (s : RowState). state_shown s 4) (sym row ∙ z))) (λ z. in_one (ap (λ (s : RowState). state_shown s 4) (sym row ∙ z)))

  -- the accounts of what is shown
  from_accounts : (f h : Facts) → grant acts ≡ Some f → Accounts acts h (copies_in 999 c (view b)) → (line_of b c).permits ≡ h.permits → (line_of b c).rights ≡ h.rights
      → ((line_of b c).state ≡ 1) ⊎ ((line_of b c).state ≡ 2) → Printed b c → TitleOnSheet c f acts b
  from_accounts f h e accounts p r state printed =
      let i : accounts.given ≡ f = cc in
      let n : (line_of b c).copies ≡ copies_in 999 c (view b) = unfold line_with in copies_seen c b in
      record {
        printed = printed;
        held = λ z. state;
        permits = λ z. rw (p, n, sym i) accounts.permits;
        rights = λ z. rw (r, sym i) accounts.rights;
        deleted = λ d. absurd (d accounts.not_deleted);
      }

  on_sheet : (f : Facts) → grant acts ≡ Some f → (r : RowState) → state_at b c ≡ r → Inv r → TitleOnSheet c f acts b
  on_sheet f e Empty row st = let z : ◌≡◌ {A = ℕ} 0 1 = let n = st.no_grant in cc in absurd (omega arith)
  on_sheet f e (Here h) row st =
      let l = (line_shows b c).here h row in
      from_accounts f h e st.accounts (ap (λ (k : Line). k.permits) l) (ap (λ (k : Line). k.rights) l) (inl (ap (λ (k : Line). k.state) l)) (has_line (Here h) row (omega arith) (omega arith))
  on_sheet f e Away row st =
      let has = first_has b c (omega (arith, st.one_full)) in
      let j = first_full c b.titles b.rules in
      let h = facts_at b j in
      let accounts : Accounts acts h (copies_in 999 c (view b)) = rw st.no_copy (st.accounts h has.at) in
      let entry = ne_eqb j 0 has.some_entry in
      from_accounts f h e accounts (unfold line_with entry_facts in rw (row, entry) refl) (unfold line_with entry_facts in rw (row, entry) refl)
      (inr (unfold line_with in rw row refl))
      (has_line Away row (omega arith) (omega arith))
  on_sheet f e Gone row st =
      record {
        printed = has_line Gone row (omega arith) (omega arith);
        held = λ z. absurd (st.deleted z);
        permits = λ z. absurd (st.deleted z);
        rights = λ z. absurd (st.deleted z);
        deleted = λ d. ((line_shows b c).gone row, unfold line_with in (copies_seen c b ∙ st.no_copy));
      }
  on_sheet f e NoState row st = let z : ◌≡◌ {A = ℕ} 0 1 = let n = st.no_grant in cc in absurd (omega arith)

-- a row that is blank and in a state is empty
is_empty_row : {r : RowState} → Blank r → r ≢ NoState → r ≡ Empty
is_empty_row empty in_one = refl
is_empty_row no_row in_one = absurd (in_one refl)

-- AN ENTRY is spent where a title was taken from it
told_spent : (put : LastPut) (taken : Bool) → (put ≡ nothing → taken ≡ false) → is_spent (kind_told put taken) ≡ taken
told_spent nothing taken never = sym (never refl)
told_spent (a_copy c) true never = refl
told_spent (a_copy c) false never = refl
told_spent (the_holder c) true never = refl
told_spent (the_holder c) false never = refl

spent_is : {b : Buffers} {j : ℕ} {put : LastPut} {taken : Bool} → Told b j put taken → is_spent (kind_at b j) ≡ taken
spent_is {put = put} {taken = taken} t = ap is_spent t.kind ∙ told_spent put taken t.never

pub sheet_adds_up : SheetAddsUp
sheet_adds_up pair rows application card_application low high ks =
    let w = run pair ks (start pair rows application card_application) in
    let s = sound pair rows application card_application low high ks in
    record {
      titles = λ c f e. on_sheet c (actions c w.log) w.buffers f e (state_at w.buffers c) refl (s.inv.titles c);
      no_other = λ c l e.
          is_empty_row (unknown c (actions c w.log) w.buffers e (state_at w.buffers c) refl (s.inv.titles c)).row
          (in_a_state pair rows application card_application low high ks c l);
      spent = unfold spent_entries in total_same 999 _ _ (λ j l. ap one (spent_is (told pair rows application card_application ks j l)));
    }
