-- What a done call leaves: its row and its entry.
-- Assumes nothing.
use Prim.Native.Nat.{ℕ, ◌*◌, ◌≤◌, ◌<◌, ◌%◌, ◌^◌}
use mathlib.Core.Path.{◌≡◌, refl, sym, ap, ap₂, subst, ◌∙◌}
use mathlib.Core.Logic.{◌≢◌}
use mathlib.Core.List.{List, [], ◌∷◌}
use mathlib.Core.Bool.{Bool, true, false, cond}
use native.Mathlib.Omega.{arith}
use native.Mathlib.Decide.{dec_lt, ℕ_discrete}
use lib.ListN.{length, get_or}
use lib.Dec.{eqb}
use Rattle.std.specs.Prelude.{Option, None, Some}
use Rattle.formats.specs.declared.head.Pair.{Pair}
use Rattle.formats.specs.declared.head.Pair.TheVariants.{Audio}
use Rattle.formats.specs.Part.{part, put}
use Rattle.formats.specs.Half.{key_of, id_of, wiped}
use Rattle.formats.specs.Title.{cci_of, title_half}
use Rattle.formats.specs.Rule.{hash_of, rule_half, wiped_rule}
use Rattle.formats.specs.Entry.{kind_of, entry_facts, is_full}
use Rattle.formats.specs.Head.{LedgerHead}
use Rattle.formats.specs.Row.{state_of, here_row, with_permits}
use Rattle.formats.specs.declared.facts.Facts.{Facts}
use Rattle.formats.specs.declared.facts.Fillers.{Fillers}
use Rattle.formats.specs.declared.entry.EntryKind.{EntryKind}
use Rattle.formats.specs.declared.entry.EntryKind.TheVariants.{Copy, Full, Spent}
use Rattle.formats.specs.declared.row.RowState.{RowState}
use Rattle.formats.specs.declared.row.RowState.TheVariants.{Here, Away, Gone}
use Rattle.requests.specs.declared.request.Request.{Request}
use Rattle.requests.specs.declared.request.Request.TheVariants.{Register, Record, CheckOut, CheckIn, MoveOut, MoveIn, Delete}
use Rattle.formats.proofs.Layouts.{layout}
use Rattle.formats.proofs.Bytes.{bytes_part}
use Rattle.formats.proofs.Part.{get_or_put_before, get_or_put_after}
use Rattle.formats.proofs.facts.Laws.{Ranges, ranges, in_range_lem, permitting}
use Rattle.formats.proofs.half.Laws.{written_key, written_id, half_wiped, id_kept, wiped_key_gone}
use Rattle.formats.proofs.title.Laws.{length_title_half, title_written_lem, title_cci}
use Rattle.formats.proofs.rule.Laws.{length_rule_half, rule_hash, rule_wiped}
use Rattle.formats.proofs.entry.Laws.{vacant_rule, of_full, kind_copy, kind_full, copy_wiped, both_wiped, entry_facts_back, entry_facts_range, entry_keys}
use Rattle.formats.proofs.row.Laws.{here_length, plain_length, state_here, state_plain_away, state_plain_gone, state_permits, here_facts_lem, here_keys}
use Rattle.calls.specs.Count.{one_less, one_more}
use Rattle.calls.specs.Buffers.{Buffers, buffers_of, row_at, title_at, rule_at, state_at, row_facts, here_facts, kind_at, content_at, facts_at, with_row, Within}
use Rattle.calls.specs.Effect.{copy_cci, after_move, effect}
use Rattle.calls.specs.Conditions.{conditions}
use Rattle.calls.specs.Perform.{refusal, perform, AreBytes}
use Rattle.calls.specs.Needs.{WipesTitleKey, WipesStiKey}
use Rattle.calls.specs.Untouched.{row_written}
use Rattle.calls.specs.Work.{RowIs, Recounted, PermitsBecome, FullEntry, EntrySpent, TitleWiped, RuleWiped, Left, WorkIsDone, RegisterByLedger, GoneStays}
use Rattle.calls.proofs.Counts.{less_most, more_most, copy_cci_of_2, copy_cci_else, copy_cci_small, copy_cci_not_1}
use Rattle.calls.proofs.Refusals.{carried_out, unchanged}
use Rattle.calls.proofs.Named.{Deletable, deletes_copy, deletes_holder, Named, named}
use Rattle.calls.proofs.Passed.{to_ranges, answered, needs_met, OnCard, on_card, its_row, row_in}
use Rattle.calls.proofs.Slots.{slot_same, slots_kept}
use Rattle.calls.proofs.Views.{IsRow, state_of_row, row_inside, row_length, row_reads, row_else, entry_length, entry_same}
use Rattle.calls.proofs.Untouched.{permits_long, rule_long, wiped_title_long, wiped_rule_long, untouched}

-- THE ROW

-- the row that was written reads as its bytes say
module _ (ledger : List ℕ) (c : ℕ) (is : IsRow ledger c) (row : List ℕ) (size : length row ≡ 24) where
  row_bytes : row_at (put ledger (24 * c) row) c ≡ row
  row_bytes = slot_same 24 ledger row c (row_inside ledger c is) size

  row_is : (titles rules : List ℕ) (s : RowState) → state_of row ≡ s → RowIs (buffers_of (put ledger (24 * c) row) titles rules) c s row
  row_is titles rules s reads =
      record {
        reads = row_reads (slots_kept 24 ledger row c (row_inside ledger c is) size is.from) is ∙ ap state_of row_bytes ∙ reads;
        bytes_are = row_bytes;
      }

-- facts with other counts
recounted_permits : (f : Facts) (p : ℕ) {g : Facts} → g ≡ permitting f p → Recounted f f.rights p g
recounted_permits f p e = rw e record { cci = refl; trigger = refl; rights_are = refl; permits_are = refl; title_key = refl; sti_key = refl }

recounted_move : (f : Facts) {g : Facts} → g ≡ after_move f → Recounted f (one_less f.rights) f.permits g
recounted_move f e = rw e record { cci = refl; trigger = refl; rights_are = refl; permits_are = refl; title_key = refl; sti_key = refl }

-- the bytes of a row with other permits, but for byte 4
other_bytes : (row : List ℕ) (p : ℕ) → length row ≡ 24 → (i : ℕ) → i ≢ 4 → get_or (with_permits row p) i 0 ≡ get_or row i 0
unfolding with_permits
other_bytes row p long i other =
    elim (dec_lt i 4) [
      | yes before ↦ get_or_put_before row (p % 256 ∷ []) 4 (omega arith) i before
      | no behind ↦ get_or_put_after row (p % 256 ∷ []) 4 (omega arith) i (omega arith)
    ]

-- facts after a move are in their ranges
after_move_ranges : (f : Facts) → Ranges f → Ranges (after_move f)
after_move_ranges f r = record { cci = r.cci; kind = r.kind; trigger = r.trigger; rights = less_most f.rights r.rights; permits = r.permits }

-- a row that is here has the facts that are read from it
here_is : (b : Buffers) (c : ℕ) (f : Facts) → state_at b c ≡ Here f → state_at b c ≡ Here (row_facts b c)
here_is b c f e = e ∙ ap (λ (s : RowState). Here (here_facts s)) (sym e)

module _ (b : Buffers) where
  -- a row that is here, as its bytes say
  record HereRow (c : ℕ) : Type 0 where
    is_row : IsRow b.ledger c
    reads : state_of (row_at b.ledger c) ≡ Here (row_facts b c)
    in_ranges : Ranges (row_facts b c)

  here_row_lem : (c : ℕ) → IsRow b.ledger c → state_at b c ≡ Here (row_facts b c) → HereRow c
  here_row_lem c is e =
      let reads = sym (state_of_row b.ledger c is.from is.to) ∙ e in
      record { is_row = is; reads = reads; in_ranges = ranges (here_facts_lem (row_at b.ledger c) reads).passes }

  -- its keys, where the ledger holds bytes
  row_keys : (c : ℕ) → AreBytes b → HereRow c → ((row_facts b c).title_key < 2 ^ 56) × ((row_facts b c).sti_key < 2 ^ 56)
  row_keys c are_bytes h = here_keys (row_at b.ledger c) h.reads (row_length b.ledger c h.is_row) (bytes_part b.ledger (24 * c) 24 are_bytes.ledger)

  -- other permits, and no other byte of the row
  permits_become : (c p : ℕ) (titles rules : List ℕ) → HereRow c → p ≤ 15
      → PermitsBecome b (buffers_of (put b.ledger (24 * c) (with_permits (row_at b.ledger c) p)) titles rules) c p
  permits_become c p titles rules h small =
      let row = row_at b.ledger c in
      let long = row_length b.ledger c h.is_row in
      let f = permitting (row_facts b c) p in
      let after = buffers_of (put b.ledger (24 * c) (with_permits row p)) titles rules in
      let it = row_is b.ledger c h.is_row (with_permits row p) (permits_long b c p h.is_row) titles rules (Here f) (state_permits row p long h.reads small) in
      record {
        here = here_is after c f it.reads;
        facts = recounted_permits (row_facts b c) p (ap here_facts it.reads);
        bytes = λ i other. ap (λ (r : List ℕ). get_or r i 0) it.bytes_are ∙ other_bytes row p long i other;
      }

-- THE ENTRY

-- an entry is what its halves make
kind_is : {t t' r r' : List ℕ} {k : EntryKind} → t ≡ t' → r ≡ r' → kind_of t' r' ≡ k → kind_of t r ≡ k
kind_is t-is r-is e = ap₂ kind_of t-is r-is ∙ e

-- both halves written
full_entry : (b : Buffers) (j c : ℕ) (f : Facts) (h : ℕ) → Within 999 c → Ranges f → f.title_key < 2 ^ 56 → f.sti_key < 2 ^ 56
    → title_at b.titles j ≡ title_half f.cci f.title_key c → rule_at b.rules j ≡ rule_half f h c → FullEntry b j c f h
full_entry b j c f h is ok title_key sti_key t-is r-is =
    record {
      full = kind_is t-is r-is (kind_full f.cci f.title_key c is.from is.to (omega (arith, ok.cci)) ok.kind f h);
      id = ap id_of t-is ∙ written_id (title_written_lem f.cci f.title_key c) (omega (arith, is.to));
      facts = ap₂ entry_facts t-is r-is ∙ entry_facts_back f h c ok title_key sti_key;
      hash = λ small. ap hash_of r-is ∙ rule_hash f h c small;
      title_half = t-is;
      rule_half = r-is;
    }

module _ (b : Buffers) (j : ℕ) (o : OnCard b j) where
  abbrev t : List ℕ
  t = title_at b.titles j

  abbrev r : List ℕ
  r = rule_at b.rules j

  -- the halves that were written
  title_is : (p : List ℕ) → length p ≡ 16 → title_at (put b.titles (16 * j) p) j ≡ p
  title_is p size = entry_same 16 b.titles o.titles_long p size j o.entry

  rule_is : (p : List ℕ) → length p ≡ 32 → rule_at (put b.rules (32 * j) p) j ≡ p
  rule_is p size = entry_same 32 b.rules o.rules_long p size j o.entry

  title_wiped : (f1 : ℕ) (ledger rules : List ℕ) → WipesTitleKey b j f1 → TitleWiped j f1 b (buffers_of ledger (put b.titles (16 * j) (wiped t f1)) rules)
  title_wiped f1 ledger rules other =
      let e = title_is (wiped t f1) (wiped_title_long b j o f1) in
      record { title_half = e; key_gone = λ same. wiped_key_gone (half_wiped t f1) other (ap key_of (sym e) ∙ same) }

  rule_half_wiped : (pair : Pair) (f : Fillers) (ledger titles : List ℕ) → (pair ≡ Audio → WipesStiKey b j f.f2)
      → RuleWiped pair j f b (buffers_of ledger titles (put b.rules (32 * j) (wiped_rule r f)))
  rule_half_wiped pair f ledger titles other =
      let e = rule_is (wiped_rule r f) (wiped_rule_long b j o f) in
      record {
        rule_half = e;
        overwritten = ap (λ (h : List ℕ). part h 0 8) e ∙ (layout.halves.wiped_rule r f (rule_long b j o)).bytes_0_7;
        key_gone = λ audio same. wiped_key_gone (rule_wiped r f (rule_long b j o)) (other audio) (ap key_of (sym e) ∙ same);
      }

  -- a copy whose title half is wiped is spent, and so is a full entry both of whose halves are; the title half keeps its ID
  spent : (f1 : ℕ) (ledger rules : List ℕ) → kind_of (wiped t f1) (rule_at rules j) ≡ Spent → EntrySpent j b (buffers_of ledger (put b.titles (16 * j) (wiped t f1)) rules)
  spent f1 ledger rules k =
      let e = title_is (wiped t f1) (wiped_title_long b j o f1) in
      record { spent = kind_is e refl k; id = ap id_of e ∙ id_kept t f1 }

  spent_copy : (f1 : ℕ) (ledger : List ℕ) → kind_at b j ≡ Copy → EntrySpent j b (buffers_of ledger (put b.titles (16 * j) (wiped t f1)) b.rules)
  spent_copy f1 ledger k = spent f1 ledger b.rules (copy_wiped t r f1 k)

  spent_full : (f : Fillers) (ledger : List ℕ) → kind_at b j ≡ Full
      → EntrySpent j b (buffers_of ledger (put b.titles (16 * j) (wiped t f.f1)) (put b.rules (32 * j) (wiped_rule r f)))
  spent_full f ledger k =
      spent f.f1 ledger _ (kind_is refl (rule_is (wiped_rule r f) (wiped_rule_long b j o f)) (both_wiped t r f.f1 f (rule_long b j o) k))

  -- the facts of a full entry, where its halves hold bytes
  record FullFacts : Type 0 where
    in_ranges : Ranges (facts_at b j)
    title_key : (facts_at b j).title_key < 2 ^ 56
    sti_key : (facts_at b j).sti_key < 2 ^ 56

  full_facts : AreBytes b → kind_at b j ≡ Full → FullFacts
  full_facts are_bytes k =
      let t-bytes = bytes_part b.titles (16 * j) 16 are_bytes.titles in
      let r-bytes = bytes_part b.rules (32 * j) 32 are_bytes.rules in
      let keys = entry_keys t r t-bytes r-bytes (entry_length 16 b.titles o.titles_long j o.entry) (entry_length 32 b.rules o.rules_long j o.entry) in
      record { in_ranges = entry_facts_range t r t-bytes r-bytes (of_full t r k).title_sound; title_key = keys.0; sti_key = keys.1 }

-- THE SEVEN CALLS

module _ (pair : Pair) (b : Buffers) (are_bytes : AreBytes b) where
  leaves : (k : Request) → Named pair k b → Left pair k b (effect k b)
  unfolding effect
  leaves (Register c f) n =
      let is = its_row pair (Register c f) b n in
      let g = n.facts in
      record {
        row = row_is b.ledger c.0 is (here_row f) (here_length f) _ _ (Here f) (state_here f (in_range_lem (to_ranges g)) g.title_key g.sti_key);
        titles = refl;
        rules = refl;
      }
  leaves (Record c j f h) n =
      let o = on_card pair (Record c j f h) b n in
      let g = n.facts in
      record {
        row = row_is b.ledger c.0 (its_row pair (Record c j f h) b n) _ (plain_length _) _ _ Away state_plain_away;
        entry =
            full_entry _ j.0 c.0 f h n.content (to_ranges g) g.title_key g.sti_key
            (title_is b j.0 o _ (length_title_half f.cci f.title_key c.0)) (rule_is b j.0 o _ (length_rule_half f h c.0));
      }
  leaves (CheckOut c j) n =
      let o = on_card pair (CheckOut c j) b n in
      let f = row_facts b c.0 in
      let i = here_row_lem b c.0 (its_row pair (CheckOut c j) b n) n.here in
      let cci = copy_cci f.cci in
      let small : cci < 4 = copy_cci_small f.cci (omega (arith, i.in_ranges.cci)) in
      let after = effect (CheckOut c j) b in
      let half : title_at after.titles j.0 ≡ title_half cci f.title_key c.0 = title_is b j.0 o _ (length_title_half _ f.title_key c.0) in
      let says = ap cci_of half ∙ title_cci cci f.title_key c.0 small in
      let unusable = vacant_rule (title_at b.titles j.0) (rule_at b.rules j.0) n.vacant in
      record {
        row = permits_become b c.0 (one_less f.permits) _ _ i (less_most f.permits i.in_ranges.permits);
        copy = kind_is half refl (kind_copy cci f.title_key c.0 n.content.from n.content.to small (copy_cci_not_1 f.cci i.in_ranges.kind) _ unusable);
        id = ap id_of half ∙ written_id (title_written_lem cci f.title_key c.0) (omega (arith, n.content.to));
        cci_of_2 = λ e. says ∙ copy_cci_of_2 f.cci e;
        cci_else = λ other. says ∙ copy_cci_else f.cci other;
        title_key = ap key_of half ∙ written_key (title_written_lem cci f.title_key c.0) (row_keys b c.0 are_bytes i).0;
        title_half = half;
        rules = refl;
      }
  leaves (CheckIn j f1) n =
      let o = on_card pair (CheckIn j f1) b n in
      let c = content_at b j.0 in
      let i = here_row_lem b c (its_row pair (CheckIn j f1) b n) n.here in
      record {
        row = permits_become b c (one_more (row_facts b c).permits) _ _ i (more_most (row_facts b c).permits i.in_ranges.permits);
        entry = spent_copy b j.0 o f1 _ n.copy;
        title = title_wiped b j.0 o f1 _ _ n.title_key;
        rules = refl;
      }
  leaves (MoveOut j h f) n =
      let o = on_card pair (MoveOut j h f) b n in
      let c = content_at b j.0 in
      let g = after_move (facts_at b j.0) in
      let i = full_facts b j.0 o are_bytes n.full in
      let after = effect (MoveOut j h f) b in
      let it = row_is b.ledger c (its_row pair (MoveOut j h f) b n) (here_row g) (here_length g) after.titles after.rules (Here g)
      (state_here g (in_range_lem (after_move_ranges (facts_at b j.0) i.in_ranges)) i.title_key i.sti_key) in
      let same = ap here_facts it.reads in
      record {
        row = record { reads = here_is after c g it.reads; bytes_are = it.bytes_are ∙ ap here_row (sym same) };
        facts = recounted_move (facts_at b j.0) same;
        entry = spent_full b j.0 o f _ n.full;
        title = title_wiped b j.0 o f.f1 _ _ n.title_key;
        rule = rule_half_wiped b j.0 o pair f _ _ n.sti_key;
      }
  leaves (MoveIn c j h) n =
      let o = on_card pair (MoveIn c j h) b n in
      let i = here_row_lem b c.0 (its_row pair (MoveIn c j h) b n) n.here in
      let f = after_move (row_facts b c.0) in
      let keys = row_keys b c.0 are_bytes i in
      let it = full_entry _ j.0 c.0 f h n.content (after_move_ranges (row_facts b c.0) i.in_ranges) keys.0 keys.1
      (title_is b j.0 o _ (length_title_half f.cci f.title_key c.0)) (rule_is b j.0 o _ (length_rule_half f h c.0)) in
      record {
        row = row_is b.ledger c.0 i.is_row _ (plain_length _) _ _ Away state_plain_away;
        entry = subst (λ (x : Facts). FullEntry (effect (MoveIn c j h) b) j.0 c.0 x h) (sym it.facts) it;
        facts = recounted_move (row_facts b c.0) it.facts;
      }
  leaves (Delete j f) n =
      let o = on_card pair (Delete j f) b n in
      let c = content_at b j.0 in
      record {
        of_copy = λ k.
            rw (ap is_full k)
            record { entry = spent_copy b j.0 o f.f1 _ k; title = title_wiped b j.0 o f.f1 _ _ n.title_key; ledger = refl; rules = refl };
        of_full = λ k.
            elim n.deletable [
              | deletes_copy copy ↦ let z : ◌≡◌ {A = ℕ} 0 1 = cc in absurd (omega arith)
              | deletes_holder full away key ↦
                  rw (ap is_full k)
                  record {
                    row = row_is b.ledger c (row_in b c Away refl n.heads.ledger away) _ (plain_length _) _ _ Gone state_plain_gone;
                    entry = spent_full b j.0 o f _ full;
                    title = title_wiped b j.0 o f.f1 _ _ n.title_key;
                    rule = rule_half_wiped b j.0 o pair f _ _ key;
                  }
            ];
      }

-- WORK IS DONE
pub work_is_done : WorkIsDone
work_is_done pair k b =
    record {
      answered = answered pair k b;
      leaves = λ are_bytes n. subst (Left pair k b) (sym (carried_out pair k b ((answered pair k b).done n))) (leaves pair b are_bytes k (named pair k b n));
      untouched = untouched pair k b;
    }

-- the card's tables are nothing to a register, nor is their pair
pub register_by_ledger : RegisterByLedger
unfolding perform refusal conditions effect
register_by_ledger pair pair' c f ledger titles rules titles' rules' =
    record { answer = refl; ledger = either_way (eqb (refusal pair (Register c f) (buffers_of ledger titles rules)) 0) }
  where
    either_way : (x : Bool)
        → (cond x (with_row c.0 (here_row f) (buffers_of ledger titles rules)) (buffers_of ledger titles rules)).ledger
        ≡ (cond x (with_row c.0 (here_row f) (buffers_of ledger titles' rules')) (buffers_of ledger titles' rules')).ledger
    either_way true = refl
    either_way false = refl

-- A GONE ROW

head_of : (pair : Pair) (k : Request) (b : Buffers) → Named pair k b → LedgerHead b.ledger
head_of pair (Register c f) b n = n.ledger
head_of pair (Record c j f h) b n = n.heads.ledger
head_of pair (CheckOut c j) b n = n.heads.ledger
head_of pair (CheckIn j f1) b n = n.heads.ledger
head_of pair (MoveOut j h f) b n = n.heads.ledger
head_of pair (MoveIn c j h) b n = n.heads.ledger
head_of pair (Delete j f) b n = n.heads.ledger

-- is not the row that a done call writes
not_gone : (pair : Pair) (k : Request) (b : Buffers) → Named pair k b → (d : ℕ) → state_at b d ≡ Gone → row_written k b ≢ Some d
not_gone pair (Register c f) b n d gone e = let z : ◌≡◌ {A = ℕ} 0 1 = cc in omega arith
not_gone pair (Record c j f h) b n d gone e = let z : ◌≡◌ {A = ℕ} 0 1 = cc in omega arith
not_gone pair (CheckOut c j) b n d gone e = let z : ◌≡◌ {A = ℕ} 0 1 = cc in omega arith
not_gone pair (CheckIn j f1) b n d gone e = let z : ◌≡◌ {A = ℕ} 0 1 = cc in omega arith
not_gone pair (MoveOut j h f) b n d gone e = let z : ◌≡◌ {A = ℕ} 0 1 = cc in omega arith
not_gone pair (MoveIn c j h) b n d gone e = let z : ◌≡◌ {A = ℕ} 0 1 = cc in omega arith
not_gone pair (Delete j f) b n d gone e = by n.deletable
  where
    row : EntryKind → Option ℕ
    row k = cond (is_full k) (Some (content_at b j.0)) None

    by : Deletable pair j.0 f b → ⊥
    by (deletes_copy k) = let was : row (kind_at b j.0) ≡ None = ap row k in let z : ◌≡◌ {A = ℕ} 0 1 = cc in omega arith
    by (deletes_holder k away key) = let was : row (kind_at b j.0) ≡ Some (content_at b j.0) = ap row k in let z : ◌≡◌ {A = ℕ} 0 1 = cc in omega arith

pub gone_stays : GoneStays
gone_stays pair k b c gone =
    elim (ℕ_discrete (perform pair k b).answer 0) [
      | yes done ↦ let n = needs_met pair k b done in row_else (untouched pair k b).rows (head_of pair k b n) c (not_gone pair k b n c gone) ∙ gone
      | no refused ↦ ap (λ (x : Buffers). state_at x c) (unchanged pair k b refused) ∙ gone
    ]
