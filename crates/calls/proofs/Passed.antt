-- A call passes its conditions exactly where its needs are met.
-- Assumes nothing.
use Prim.Native.Nat.{ℕ}
use mathlib.Core.Path.{◌≡◌, refl, sym, ap, ◌∙◌}
use mathlib.Core.Logic.{◌≢◌, ◌⊎◌, inl, inr, ⊎_elim}
use mathlib.Core.List.{List, [], ◌∷◌}
use mathlib.Core.Bool.{Bool, true, false, not, ◌&&◌, ◌||◌, true≢false}
use native.Mathlib.Omega.{arith}
use lib.ListN.{length}
use lib.Dec.{eqb}
use borrow.Author.Tests.{lt-ltb, ltb-true, eq-eqb, ne_eqb, eqb-true, eqb-false, not-false}
use Rattle.formats.specs.declared.head.Pair.{Pair}
use Rattle.formats.specs.declared.head.Pair.TheVariants.{Audio, Picture}
use Rattle.formats.specs.Facts.{numbered, facts_pass, in_range, key_passes}
use Rattle.formats.specs.Entry.{is_copy, is_full}
use Rattle.formats.specs.Head.{LedgerHead, TitlesHead, RulesHead, ledger_passes, ledger_application, titles_pass, rules_pass, rules_application}
use Rattle.formats.specs.declared.facts.Facts.{Facts}
use Rattle.requests.specs.declared.request.Request.{Request}
use Rattle.requests.specs.declared.request.Request.TheVariants.{Register, Record, CheckOut, CheckIn, MoveOut, MoveIn, Delete}
use Rattle.formats.specs.declared.entry.EntryKind.{EntryKind}
use Rattle.formats.specs.declared.entry.EntryKind.TheVariants.{Free, Copy, Full, Torn, Spent}
use Rattle.formats.specs.declared.row.RowState.{RowState}
use Rattle.formats.specs.declared.row.RowState.TheVariants.{Empty, Here, Away, Gone, NoState}
use Rattle.formats.proofs.Tests.{split, both}
use Rattle.formats.proofs.facts.Laws.{numbered_range, range_numbered, Ranges, ranges, in_range_lem}
use Rattle.formats.proofs.head.Laws.{ledger_head, ledger_passes_lem, titles_head, titles_pass_lem, rules_head, rules_pass_lem}
use Rattle.calls.specs.Buffers.{Buffers, state_at, row_facts, here_facts, kind_at, content_at, facts_at, is_empty, is_here, is_away, one, copies, Within}
use Rattle.calls.specs.Refusal.{Condition, ◌when◌, first, FirstToHold, NoneHolds}
use Rattle.calls.specs.Conditions.{is_vacant, looks_at_f2, may_not_move, conditions}
use Rattle.calls.specs.Perform.{perform}
use Rattle.calls.specs.Needs.{Need, ◌needs◌, AllMet, FirstUnmet, AnsweredBy, FactsInRange, RulesOfLedger, MayMove, NoCopy, needs_of}
use Rattle.calls.proofs.Refusals.{refusing, none_is_0, answer_first, of_first, to_first, of_none, to_none, holds_not}
use Rattle.calls.proofs.Named.{HeadsPass, Named, named}
use Rattle.calls.proofs.Views.{IsRow, in_a_state}
use Rattle.calls.proofs.History.Totals.{total_at, total_none}

-- EACH TEST of a condition, and the need that it tests: it does not hold exactly where the need does
pub record Tests (x : Bool) (P : Type 0) : Type 0 where
  pub met : x ≡ false → P
  pub unmet : P → x ≡ false

-- 4 and 5: the number is 1 to 999
pub numbered_within : (v : ℕ) → numbered v ≡ true → Within 999 v
numbered_within v e =
    let (low, high) = numbered_range v e in
    record { from = low; to = high }

pub is_numbered : (v : ℕ) → not (numbered v) ≡ false → Within 999 v
is_numbered v e = numbered_within v (not-false _ e)

pub numbers : {v : ℕ} → Within 999 v → not (numbered v) ≡ false
numbers {v} w = holds_not (range_numbered w.from w.to)

pub tests_number : (v : ℕ) → Tests (not (numbered v)) (Within 999 v)
tests_number v = record { met = is_numbered v; unmet = numbers }

-- 6: the facts are in their ranges
pub to_ranges : {f : Facts} → FactsInRange f → Ranges f
to_ranges r = record { cci = r.cci; kind = r.not_reserved; trigger = r.trigger; rights = r.rights; permits = r.permits }

are_facts : (f : Facts) → not (facts_pass f) ≡ false → FactsInRange f
are_facts f e =
    let (p, keys) = split (in_range f) _ (not-false _ e) in
    let (t, s) = split (key_passes f.title_key) (key_passes f.sti_key) keys in
    let r = ranges p in
    record {
      cci = r.cci;
      not_reserved = r.kind;
      trigger = r.trigger;
      rights = r.rights;
      permits = r.permits;
      title_key = ltb-true _ _ t;
      sti_key = ltb-true _ _ s;
    }

tests_facts : (f : Facts) → Tests (not (facts_pass f)) (FactsInRange f)
tests_facts f =
    record { met = are_facts f; unmet = λ r. holds_not (both (in_range_lem (to_ranges r)) (both (lt-ltb _ _ r.title_key) (lt-ltb _ _ r.sti_key))) }

-- 7, 8 and 9: the heads are right
pub tests_ledger : (l : List ℕ) → Tests (not (ledger_passes l)) (LedgerHead l)
tests_ledger l = record { met = λ e. ledger_head l (not-false _ e); unmet = λ h. holds_not (ledger_passes_lem h) }

pub tests_titles : (pair : Pair) (t : List ℕ) → Tests (not (titles_pass pair t)) (TitlesHead pair t)
tests_titles pair t = record { met = λ e. titles_head (not-false _ e); unmet = λ h. holds_not (titles_pass_lem h) }

pub tests_rule_head : (pair : Pair) (r : List ℕ) → Tests (not (rules_pass pair r)) (RulesHead pair r)
tests_rule_head pair r = record { met = λ e. rules_head (not-false _ e); unmet = λ h. holds_not (rules_pass_lem h) }

pub tests_rules : (pair : Pair) (b : Buffers) → Tests (not (rules_pass pair b.rules && eqb (rules_application b.rules) (ledger_application b.ledger))) (RulesOfLedger pair b)
tests_rules pair b =
    record {
      met = λ e.
          let (rules, application) = split (rules_pass pair b.rules) _ (not-false _ e) in
          record { head = rules_head rules; application = eqb-true _ _ application };
      unmet = λ r. holds_not (both (rules_pass_lem r.head) (eq-eqb _ _ r.application));
    }

-- 10: the entry is of the kind needed
pub is_vacant_lem : (k : EntryKind) → not (is_vacant k) ≡ false → (k ≡ Free) ⊎ (k ≡ Spent)
is_vacant_lem Free e = inl refl
is_vacant_lem Copy e = absurd (true≢false e)
is_vacant_lem Full e = absurd (true≢false e)
is_vacant_lem Torn e = absurd (true≢false e)
is_vacant_lem Spent e = inr refl

pub is_copy_lem : (k : EntryKind) → not (is_copy k) ≡ false → k ≡ Copy
is_copy_lem Free e = absurd (true≢false e)
is_copy_lem Copy e = refl
is_copy_lem Full e = absurd (true≢false e)
is_copy_lem Torn e = absurd (true≢false e)
is_copy_lem Spent e = absurd (true≢false e)

pub is_full_lem : (k : EntryKind) → not (is_full k) ≡ false → k ≡ Full
is_full_lem Free e = absurd (true≢false e)
is_full_lem Copy e = absurd (true≢false e)
is_full_lem Full e = refl
is_full_lem Torn e = absurd (true≢false e)
is_full_lem Spent e = absurd (true≢false e)

-- 11: the row is in the state needed
is_empty_lem : (s : RowState) → not (is_empty s) ≡ false → s ≡ Empty
is_empty_lem Empty e = refl
is_empty_lem (Here f) e = absurd (true≢false e)
is_empty_lem Away e = absurd (true≢false e)
is_empty_lem Gone e = absurd (true≢false e)
is_empty_lem NoState e = absurd (true≢false e)

is_here_lem : (s : RowState) → not (is_here s) ≡ false → s ≡ Here (here_facts s)
is_here_lem Empty e = absurd (true≢false e)
is_here_lem (Here f) e = refl
is_here_lem Away e = absurd (true≢false e)
is_here_lem Gone e = absurd (true≢false e)
is_here_lem NoState e = absurd (true≢false e)

is_away_lem : (s : RowState) → not (is_away s) ≡ false → s ≡ Away
is_away_lem Empty e = absurd (true≢false e)
is_away_lem (Here f) e = absurd (true≢false e)
is_away_lem Away e = refl
is_away_lem Gone e = absurd (true≢false e)
is_away_lem NoState e = absurd (true≢false e)

module _ (k : EntryKind) where
  tests_vacant : Tests (not (is_vacant k)) ((k ≡ Free) ⊎ (k ≡ Spent))
  tests_vacant = record { met = is_vacant_lem k; unmet = ⊎_elim (λ e. holds_not (ap is_vacant e)) (λ e. holds_not (ap is_vacant e)) }

  tests_copy : Tests (not (is_copy k)) (k ≡ Copy)
  tests_copy = record { met = is_copy_lem k; unmet = λ e. holds_not (ap is_copy e) }

  tests_full : Tests (not (is_full k)) (k ≡ Full)
  tests_full = record { met = is_full_lem k; unmet = λ e. holds_not (ap is_full e) }

module _ (s : RowState) where
  tests_empty : Tests (not (is_empty s)) (s ≡ Empty)
  tests_empty = record { met = is_empty_lem s; unmet = λ e. holds_not (ap is_empty e) }

  tests_here : Tests (not (is_here s)) (s ≡ Here (here_facts s))
  tests_here = record { met = is_here_lem s; unmet = λ e. holds_not (ap is_here e) }

  tests_away : Tests (not (is_away s)) (s ≡ Away)
  tests_away = record { met = is_away_lem s; unmet = λ e. holds_not (ap is_away e) }

-- a number that is to be another, and one that is to be the same
tests_other : (a n : ℕ) → Tests (eqb a n) (a ≢ n)
tests_other a n = record { met = eqb-false a n; unmet = ne_eqb a n }

pub tests_same : (a n : ℕ) → Tests (not (eqb a n)) (a ≡ n)
tests_same a n = record { met = λ e. eqb-true a n (not-false _ e); unmet = λ e. holds_not (eq-eqb a n e) }

-- two tests of which neither is to hold
tests_both : {a b : Bool} {P Q : Type 0} → Tests a P → Tests b Q → Tests (a || b) (P × Q)
tests_both {a} {b} p q =
    record {
      met = λ e. let (x, y) = neither a b e in (p.met x, q.met y);
      unmet = λ both. ap (λ (x : Bool). x || b) (p.unmet both.0) ∙ q.unmet both.1;
    }
  where
    neither : (a b : Bool) → (a || b) ≡ false → (a ≡ false) × (b ≡ false)
    neither true b e = absurd (true≢false e)
    neither false b e = (refl, e)

-- a test that is made of a full entry only
module _ (k : EntryKind) {y : Bool} {Q : Type 0} (q : Tests y Q) where
  if_full : (x : Bool) → (x ≡ true → k ≡ Full) → (k ≡ Full → x ≡ true) → Tests (x && y) (k ≡ Full → Q)
  if_full true to from = record { met = λ e full. q.met e; unmet = λ f. q.unmet (f (to refl)) }
  if_full false to from = record { met = λ e full. absurd (true≢false (sym (from full))); unmet = λ f. refl }

  tests_if_full : Tests (is_full k && y) (k ≡ Full → Q)
  tests_if_full = if_full (is_full k) (λ e. is_full_lem k (holds_not e)) (λ e. ap is_full e)

-- a test that is made in audio calls only
tests_if_audio : (pair : Pair) {y : Bool} {Q : Type 0} → Tests y Q → Tests (looks_at_f2 pair && y) (pair ≡ Audio → Q)
tests_if_audio Audio q = record { met = λ e audio. q.met e; unmet = λ f. q.unmet (f refl) }
tests_if_audio Picture q = record { met = λ e audio. let z : ◌≡◌ {A = ℕ} 0 1 = cc in absurd (omega arith); unmet = λ f. refl }

-- a copy or a full entry
tests_either : (k : EntryKind) → Tests (not (is_copy k || is_full k)) ((k ≡ Copy) ⊎ (k ≡ Full))
tests_either k = record { met = met k; unmet = ⊎_elim (λ e. holds_not (ap (λ x. is_copy x || is_full x) e)) (λ e. holds_not (ap (λ x. is_copy x || is_full x) e)) }
  where
    met : (k : EntryKind) → not (is_copy k || is_full k) ≡ false → (k ≡ Copy) ⊎ (k ≡ Full)
    met Free e = absurd (true≢false e)
    met Copy e = inl refl
    met Full e = inr refl
    met Torn e = absurd (true≢false e)
    met Spent e = absurd (true≢false e)

-- 12: neither trigger nor rights forbid a move
tests_move : (f : Facts) → Tests (may_not_move f.trigger f.rights) (MayMove f)
tests_move f =
    let t = tests_both (tests_other f.trigger 1) (tests_other f.rights 0) in
    record { met = λ e. let (x, y) = t.met e in record { not_triggered = x; right_left = y }; unmet = λ m. t.unmet (m.not_triggered, m.right_left) }

-- 14: no entry is a copy of c
module _ (c : ℕ) (b : Buffers) where
  one_copy : (k : EntryKind) (id : ℕ) → k ≡ Copy → id ≡ c → one (is_copy k && eqb id c) ≡ 1
  one_copy k id kind is = rw (kind, eq-eqb id c is)

  not_one : (k : EntryKind) (id : ℕ) → (k ≡ Copy → id ≢ c) → one (is_copy k && eqb id c) ≡ 0
  not_one Free id other = refl
  not_one Copy id other = ap one (ne_eqb id c (other refl))
  not_one Full id other = refl
  not_one Torn id other = refl
  not_one Spent id other = refl

  -- a copy counts
  copy_counts : (i : ℕ) → Within 999 i → kind_at b i ≡ Copy → content_at b i ≡ c → copies c b.titles b.rules ≢ 0
  unfolding copies
  copy_counts i in_table kind is none =
      omega (arith, total_at 999 (λ j. one (is_copy (kind_at b j) && eqb (content_at b j) c)) i in_table, one_copy (kind_at b i) (content_at b i) kind is, none)

  -- where none is a copy, none counts
  pub none_counts : NoCopy b c → copies c b.titles b.rules ≡ 0
  unfolding copies
  none_counts none = total_none 999 _ (λ j l. not_one (kind_at b j) (content_at b j) (none j l))

  tests_copies : Tests (not (eqb (copies c b.titles b.rules) 0)) (NoCopy b c)
  tests_copies =
      let t = tests_same (copies c b.titles b.rules) 0 in
      record { met = λ e i l kind is. copy_counts i l kind is (t.met e); unmet = λ none. t.unmet (none_counts none) }

-- CONDITIONS AND NEEDS IN STEP

infixr 20 ◌then◌
pub data InStep : List Condition → List Need → Type 1 where
  end : InStep [] []
  ◌then◌ : {n : ℕ} {x : Bool} {P : Type 0} {cs : List Condition} {ns : List Need} → Tests x P → InStep cs ns → InStep ((n when x) ∷ cs) ((n needs P) ∷ ns)

-- where no condition holds, all needs are met, and the other way round
all_met : {cs : List Condition} {ns : List Need} → InStep cs ns → NoneHolds cs → AllMet ns
all_met end h = tt
all_met (t then s) h = (t.met h.0, all_met s h.1)

none_hold : {cs : List Condition} {ns : List Need} → InStep cs ns → AllMet ns → NoneHolds cs
none_hold end h = tt
none_hold (t then s) h = (t.unmet h.0, none_hold s h.1)

-- the first condition that holds is that of the first need that is not met
first_unmet : {cs : List Condition} {ns : List Need} (n : ℕ) → InStep cs ns → FirstToHold n cs → FirstUnmet n ns
first_unmet n end h = elim h [ ]
first_unmet n (t then s) (inl h) = inl (λ p. true≢false (sym h.0 ∙ t.unmet p), h.1)
first_unmet n (t then s) (inr h) = inr (t.met h.0, first_unmet n s h.1)

-- a condition holds where its need is not met
holds_where : {x : Bool} {P : Type 0} → Tests x P → (P → ⊥) → x ≡ true
holds_where {x = true} t h = refl
holds_where {x = false} t h = absurd (h (t.met refl))

first_holds : {cs : List Condition} {ns : List Need} (n : ℕ) → InStep cs ns → FirstUnmet n ns → FirstToHold n cs
first_holds n end h = elim h [ ]
first_holds n (t then s) (inl h) = inl (holds_where t h.0, h.1)
first_holds n (t then s) (inr h) = inr (t.unmet h.0, first_holds n s h.1)

-- so what answers the first condition that holds is answered by the needs
pub answered_by : {cs : List Condition} {ns : List Need} {answer : ℕ} → InStep cs ns → refusing cs ≡ true → answer ≡ first cs → AnsweredBy ns answer
answered_by {cs} s refuses e =
    record {
      done = λ met. e ∙ of_none cs (none_hold s met);
      only_done = λ zero. all_met s (to_none cs refuses (sym e ∙ zero));
      refused = λ n h. e ∙ of_first n cs (first_holds n s h);
      only_refused = λ n some d. first_unmet n s (to_first n cs some (sym e ∙ d));
    }

-- those of each call are
pub in_step : (pair : Pair) (k : Request) (b : Buffers) → InStep (conditions pair k b) (needs_of pair k b)
unfolding conditions
in_step pair (Register c f) b = tests_number c.0 then tests_facts f then tests_ledger b.ledger then tests_empty (state_at b c.0) then end
in_step pair (Record c j f h) b =
    tests_number c.0 then tests_number j.0 then tests_facts f then tests_ledger b.ledger then tests_titles pair b.titles then tests_rules pair b
    then tests_vacant (kind_at b j.0) then tests_empty (state_at b c.0) then end
in_step pair (CheckOut c j) b =
    tests_number c.0 then tests_number j.0 then tests_ledger b.ledger then tests_titles pair b.titles then tests_rules pair b
    then tests_vacant (kind_at b j.0) then tests_here (state_at b c.0) then tests_other (row_facts b c.0).permits 0 then end
in_step pair (CheckIn j f1) b =
    let c = content_at b j.0 in
    tests_number j.0 then tests_ledger b.ledger then tests_titles pair b.titles then tests_rules pair b
    then tests_copy (kind_at b j.0) then tests_here (state_at b c) then tests_other (row_facts b c).permits 14 then tests_other _ _ then end
in_step pair (MoveOut j h f) b =
    tests_number j.0 then tests_ledger b.ledger then tests_titles pair b.titles then tests_rules pair b
    then tests_full (kind_at b j.0) then tests_away (state_at b (content_at b j.0)) then tests_move (facts_at b j.0) then tests_same h _
    then tests_both (tests_other _ _) (tests_if_audio pair (tests_other _ _)) then end
in_step pair (MoveIn c j h) b =
    tests_number c.0 then tests_number j.0 then tests_ledger b.ledger then tests_titles pair b.titles then tests_rules pair b
    then tests_vacant (kind_at b j.0) then tests_here (state_at b c.0) then tests_move (row_facts b c.0) then tests_copies c.0 b then end
in_step pair (Delete j f) b =
    let k = kind_at b j.0 in
    tests_number j.0 then tests_ledger b.ledger then tests_titles pair b.titles then tests_rules pair b
    then tests_either k then tests_if_full k (tests_away (state_at b (content_at b j.0)))
    then tests_both (tests_other _ _) (tests_if_full k (tests_if_audio pair (tests_other _ _))) then end

module _ (pair : Pair) (k : Request) (b : Buffers) where
  -- a call is done where its needs are met, and else answered by the first that is not
  pub answered : AnsweredBy (needs_of pair k b) (perform pair k b).answer
  answered = answered_by (in_step pair k b) (none_is_0 pair k b) (answer_first pair k b)

  -- its needs by their names: where no condition holds, and where it is done
  pub needs_where : NoneHolds (conditions pair k b) → Named pair k b
  needs_where none = named pair k b (all_met (in_step pair k b) none)

  pub needs_met : (perform pair k b).answer ≡ 0 → Named pair k b
  needs_met done = named pair k b (answered.only_done done)

-- THE PLACES of a call whose needs are met

-- an entry of the card, and the heads of all three buffers
pub record OnCard (b : Buffers) (j : ℕ) : Type 0 where
  pub entry : Within 999 j
  pub head : LedgerHead b.ledger
  pub titles_long : length b.titles ≡ 16000
  pub rules_long : length b.rules ≡ 32000

pub found : {pair : Pair} (b : Buffers) (j : ℕ) → Within 999 j → HeadsPass pair b → OnCard b j
found b j in_table p =
    record {
      entry = in_table;
      head = p.ledger;
      titles_long = p.titles.table.long;
      rules_long = p.rules.head.table.long;
    }

-- every call but register has one
abbrev pub CardOf : Request → Buffers → Type 0
CardOf (Register c f) b = Unit {0}
CardOf (Record c j f h) b = OnCard b j.0
CardOf (CheckOut c j) b = OnCard b j.0
CardOf (CheckIn j f1) b = OnCard b j.0
CardOf (MoveOut j h f) b = OnCard b j.0
CardOf (MoveIn c j h) b = OnCard b j.0
CardOf (Delete j f) b = OnCard b j.0

pub on_card : (pair : Pair) (k : Request) (b : Buffers) → Named pair k b → CardOf k b
on_card pair (Register c f) b n = tt
on_card pair (Record c j f h) b n = found b j.0 n.entry n.heads
on_card pair (CheckOut c j) b n = found b j.0 n.entry n.heads
on_card pair (CheckIn j f1) b n = found b j.0 n.entry n.heads
on_card pair (MoveOut j h f) b n = found b j.0 n.entry n.heads
on_card pair (MoveIn c j h) b n = found b j.0 n.entry n.heads
on_card pair (Delete j f) b n = found b j.0 n.entry n.heads

-- a row in one of these states is in a state, and so one of the ledger's
abbrev InState : RowState → Bool
InState Empty = true
InState (Here f) = true
InState Away = true
InState Gone = true
InState NoState = false

pub row_in : (b : Buffers) (c : ℕ) (s : RowState) → InState s ≡ true → LedgerHead b.ledger → state_at b c ≡ s → IsRow b.ledger c
row_in b c s some head e = in_a_state b.ledger c head (λ none. true≢false (sym some ∙ ap InState (sym e ∙ none)))

-- every call but delete has one
abbrev pub RowOf : Request → Buffers → Type 0
RowOf (Register c f) b = IsRow b.ledger c.0
RowOf (Record c j f h) b = IsRow b.ledger c.0
RowOf (CheckOut c j) b = IsRow b.ledger c.0
RowOf (CheckIn j f1) b = IsRow b.ledger (content_at b j.0)
RowOf (MoveOut j h f) b = IsRow b.ledger (content_at b j.0)
RowOf (MoveIn c j h) b = IsRow b.ledger c.0
RowOf (Delete j f) b = Unit {0}

pub its_row : (pair : Pair) (k : Request) (b : Buffers) → Named pair k b → RowOf k b
its_row pair (Register c f) b n = row_in b c.0 Empty refl n.ledger n.empty
its_row pair (Record c j f h) b n = row_in b c.0 Empty refl n.heads.ledger n.empty
its_row pair (CheckOut c j) b n = row_in b c.0 (Here (row_facts b c.0)) refl n.heads.ledger n.here
its_row pair (CheckIn j f1) b n = let c = content_at b j.0 in row_in b c (Here (row_facts b c)) refl n.heads.ledger n.here
its_row pair (MoveOut j h f) b n = row_in b (content_at b j.0) Away refl n.heads.ledger n.away
its_row pair (MoveIn c j h) b n = row_in b c.0 (Here (row_facts b c.0)) refl n.heads.ledger n.here
its_row pair (Delete j f) b n = tt
