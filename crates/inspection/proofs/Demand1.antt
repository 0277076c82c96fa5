-- Demand 1 of inspection.
-- Assumes nothing.
use Prim.Native.Nat.{ℕ, ◌≤◌}
use mathlib.Core.Path.{◌≡◌, refl, sym, ap, ◌∙◌}
use mathlib.Core.Logic.{◌≢◌, ⊎_elim}
use mathlib.Core.List.{List, [], ◌∷◌}
use mathlib.Core.Bool.{Bool, true, false, not, ◌&&◌, ◌||◌, true≢false}
use native.Mathlib.Omega.{arith}
use lib.Dec.{leb}
use lib.ListN.{get_or}
use borrow.Author.Tests.{le-leb, leb-true, not-false}
use Rattle.formats.specs.declared.head.Pair.{Pair}
use Rattle.formats.specs.Head.{LedgerHead, rows_of}
use Rattle.formats.specs.Entry.{entry_facts, is_vacant}
use Rattle.formats.specs.declared.facts.EntryNumber.{EntryNumber}
use Rattle.formats.proofs.Tests.{split}
use Rattle.requests.specs.declared.request.Request.{Request}
use Rattle.requests.specs.declared.request.Request.TheVariants.{Record, CheckOut, MoveIn}
use Rattle.calls.specs.Buffers.{Buffers, title_at, rule_at, kind_at, state_in, first_of, Within}
use Rattle.calls.specs.Conditions.{conditions}
use Rattle.calls.specs.Needs.{◌needs◌, Vacant}
use Rattle.calls.specs.Perform.{perform}
use Rattle.calls.proofs.First.{first_holds, first_least, first_none}
use Rattle.calls.proofs.Passed.{Tests, end, ◌then◌, is_vacant_lem, tests_number, tests_ledger, tests_titles, tests_rule_head, tests_rules}
use Rattle.calls.proofs.Refusals.{holds_not, refused_by, meets}
use Rattle.tables.proofs.Told.{told_first, told_other_pair}
use Rattle.inspection.specs.Inspect.{entry_told, state_told, title_told, vacant_from, first_vacant, entry_inspected, row_inspected, title_inspected, first_vacant_told}
use Rattle.inspection.specs.Demand1.{InspectsEntry, InspectsRow, InspectsTitle, FirstVacant, InspectsOtherPair, EntryShows, RowShows, VacantShows, NotRefused10, TakesAtFirstVacant, Demand1Inspection}
use Rattle.inspection.proofs.Counted.{row, full, copied, title_shows}
use Rattle.inspection.proofs.Version.{any_version}

-- REFUSED FIRST

-- 11: the ledger has the row
tests_row : (ledger : List ℕ) (c : ℕ) → Tests (not (leb c (rows_of ledger))) (c ≤ rows_of ledger)
tests_row ledger c = record { met = λ e. leb-true c (rows_of ledger) (not-false _ e); unmet = λ l. holds_not (le-leb c (rows_of ledger) l) }

inspects_entry : (pair : Pair) (titles rules : List ℕ) (j : ℕ) → InspectsEntry pair titles rules j
unfolding entry_inspected
inspects_entry pair titles rules j =
    told_first (entry_told (title_at titles j) (rule_at rules j)) (tests_number j then tests_titles pair titles then tests_rule_head pair rules then end) refl refl

inspects_row : (ledger : List ℕ) (c : ℕ) → InspectsRow ledger c
unfolding row_inspected
inspects_row ledger c = told_first (state_told (state_in ledger c)) (tests_number c then tests_ledger ledger then tests_row ledger c then end) refl refl

pub inspects_title : (pair : Pair) (b : Buffers) (c : ℕ) → InspectsTitle pair b c
unfolding title_inspected
inspects_title pair b c =
    told_first (title_told b c)
    (tests_number c then tests_ledger b.ledger then tests_titles pair b.titles then tests_rules pair b then tests_row b.ledger c then end) refl refl

finds_vacant : (pair : Pair) (titles rules : List ℕ) (from : ℕ) → FirstVacant pair titles rules from
unfolding first_vacant_told
finds_vacant pair titles rules from =
    told_first (first_vacant from titles rules ∷ []) (tests_number from then tests_titles pair titles then tests_rule_head pair rules then end) refl refl

inspects_other_pair : (pair : Pair) (b : Buffers) → InspectsOtherPair pair b
inspects_other_pair pair b =
    record {
      entry = λ j. told_other_pair pair b.titles b.rules (5 needs Within 999 j ∷ []) _ (λ h. h) (inspects_entry pair b.titles b.rules j).answered;
      title = λ c.
          told_other_pair pair b.titles b.rules (4 needs Within 999 c ∷ 7 needs LedgerHead b.ledger ∷ []) _ (λ h. h.head) (inspects_title pair b c).answered;
      vacant = λ from. told_other_pair pair b.titles b.rules (5 needs Within 999 from ∷ []) _ (λ h. h) (finds_vacant pair b.titles b.rules from).answered;
    }

-- WHAT IS TOLD

entry_shows : (b : Buffers) (j : ℕ) → EntryShows b j (entry_told (title_at b.titles j) (rule_at b.rules j))
unfolding entry_told entry_facts
entry_shows b j =
    record {
      free = λ e. rw e refl;
      copy = λ e. rw e refl;
      full = λ f e is. rw (e, sym is) refl;
      torn = λ e. rw e refl;
      spent = λ e. rw e refl;
    }

row_shows : (ledger : List ℕ) (c : ℕ) → RowShows ledger c (state_told (state_in ledger c))
row_shows ledger c =
    record {
      empty = λ e. ap state_told e;
      here = λ f e. ap state_told e;
      away = λ e. ap state_told e;
      gone = λ e. ap state_told e;
      no_state = λ e. ap state_told e;
    }

module _ (b : Buffers) (from : ℕ) where
  abbrev t : ℕ → Bool
  t = vacant_from from b.titles b.rules

  -- an entry that the search passes over is not vacant
  not_vacant : (i : ℕ) → from ≤ i → t i ≡ false → Vacant b i → ⊥
  not_vacant i after e v =
      let vacant : is_vacant (kind_at b i) ≡ true = ⊎_elim (λ f. ap is_vacant f) (λ s. ap is_vacant s) v in
      true≢false (sym (ap (λ (x : Bool). x && is_vacant (kind_at b i)) (le-leb from i after) ∙ vacant) ∙ e)

  pub vacant_shows : VacantShows b from (first_vacant from b.titles b.rules)
  unfolding first_vacant
  vacant_shows =
      record {
        some = λ d.
            let (place, holds) = first_holds t 999 d in
            let (after, vacant) = split (leb from (first_of 999 t)) _ holds in
            record {
              on_card = place;
              from_there_on = leb-true from (first_of 999 t) after;
              vacant = is_vacant_lem _ (holds_not vacant);
              none_before = λ i l after less. not_vacant i after (first_least t 999 i l less);
            };
        none = λ z i l after less. not_vacant i after (first_none t 999 z i l);
      }

-- AT A VACANT ENTRY a call that needs one is not answered 10
module _ (pair : Pair) (b : Buffers) (k : Request) (vacant : Bool) where
  not_10 : vacant ≡ true → meets 10 (conditions pair k b) ≡ (not vacant || false) → (perform pair k b).answer ≢ 10
  not_10 e is ten =
      true≢false (sym (refused_by pair k b 10 (λ z. omega (arith, z)) ten) ∙ is ∙ ap (λ (x : Bool). not x || false) e)

module _ (pair : Pair) (b : Buffers) (j : EntryNumber) (v : Vacant b j.0) where
  not_refused_10 : NotRefused10 pair b j
  unfolding conditions
  not_refused_10 =
      let vacant : is_vacant (kind_at b j.0) ≡ true = ⊎_elim (λ f. ap is_vacant f) (λ s. ap is_vacant s) v in
      record {
        recorded = λ c f h. not_10 pair b (Record c j f h) _ vacant refl;
        checked_out = λ c. not_10 pair b (CheckOut c j) _ vacant refl;
        moved_in = λ c h. not_10 pair b (MoveIn c j h) _ vacant refl;
      }

takes : TakesAtFirstVacant
takes pair b from j some told =
    let d = finds_vacant pair b.titles b.rules from in
    let values = sym (d.refused_first.carried_out (ap (λ a. a.number) told)) ∙ ap (λ a. a.values) told in
    let is : first_vacant from b.titles b.rules ≡ j.0 = ap (λ l. get_or l 0 0) values in
    let shows = (vacant_shows b from).some (λ z. some (sym is ∙ z)) in
    not_refused_10 pair b j (rw is at shows.vacant)

-- DEMAND 1
pub demand_1_inspection : Demand1Inspection
demand_1_inspection =
    record {
      entry = inspects_entry;
      row = inspects_row;
      title = inspects_title;
      vacant = finds_vacant;
      of_other_pair = inspects_other_pair;
      entry_shows = entry_shows;
      row_shows = row_shows;
      title_shows = λ b c. (row b c, full b c, copied b c, title_shows b c);
      vacant_shows = vacant_shows;
      takes = takes;
      any_version = any_version;
    }
