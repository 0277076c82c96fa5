-- What a call promises, from the refusal that it found and the effect that it had: one argument for all seven.
-- Assumes nothing.
use Prim.Native.Nat.{ℕ, ◌+◌, ◌*◌, ◌≤◌}
use mathlib.Core.Path.{◌≡◌, refl, sym, ap, ◌∙◌}
use mathlib.Core.List.{List}
use mathlib.Core.Bool.{Bool, true, false, cond, true≢false}
use mathlib.Core.Logic.{◌≢◌}
use lib.ListN.{length}
use borrow.Author.Tests.{ne_eqb}
use Rattle.formats.specs.Entry.{is_full}
use Rattle.std.specs.Prelude.{Result, Some, None}
use Rattle.std.specs.Result.{IsErrAnd}
use Rattle.formats.specs.Refusal.{number_of, answer_number}
use Rattle.formats.specs.declared.refusal.Refusal.{Refusal}
use Rattle.formats.proofs.refusal.Laws.{some_number, handed_on}
use Rattle.formats.specs.declared.head.Pair.{Pair}
use Rattle.requests.specs.declared.request.Request.{Request}
use Rattle.requests.specs.declared.request.Request.TheVariants.{Register, Record, CheckOut, CheckIn, MoveOut, MoveIn, Delete}
use Rattle.formats.specs.declared.facts.EntryNumber.{EntryNumber}
use Rattle.formats.specs.declared.facts.Fillers.{Fillers}
use Rattle.formats.specs.declared.row.RowState.TheVariants.{Away}
use Rattle.calls.specs.Buffers.{Buffers, kind_at, content_at}
use Rattle.calls.specs.Effect.{effect}
use Rattle.calls.specs.Perform.{refusal, perform}
use Rattle.calls.proofs.Named.{Deletable, deletes_copy, deletes_holder, Named}
use Rattle.calls.proofs.Passed.{needs_met, OnCard, on_card, row_in, its_row}
use Rattle.calls.proofs.Views.{row_inside, entry_inside}
use Rattle.music_counter.specs.Answer.{Answers, SlotInside, Inside}

-- THE PLACES of a call whose needs are met lie in its tables

-- a slot that is named where a test holds
slot_where : (x : Bool) (width i : ℕ) (table : List ℕ) → (x ≡ true → SlotInside width (Some i) table) → SlotInside width (cond x (Some i) None) table
slot_where true width i table h = h refl
slot_where false width i table h = tt

module _ (b : Buffers) (j : ℕ) (on : OnCard b j) where
  title_inside : SlotInside 16 (Some j) b.titles
  title_inside = entry_inside 16 b.titles on.titles_long j on.entry

  rule_inside : SlotInside 32 (Some j) b.rules
  rule_inside = entry_inside 32 b.rules on.rules_long j on.entry

  -- the row of a full entry that is deleted
  deleted_row : {pair : Pair} {f : Fillers} → Deletable pair j f b → is_full (kind_at b j) ≡ true → SlotInside 24 (Some (content_at b j)) b.ledger
  deleted_row (deletes_copy e) full = absurd (true≢false (sym full ∙ ap is_full e))
  deleted_row (deletes_holder e away key) full = row_inside b.ledger (content_at b j) (row_in b (content_at b j) Away refl on.head away)

places : (pair : Pair) (k : Request) (b : Buffers) → Named pair k b → Inside k b
places pair (Register c f) b n = record { row = row_inside _ _ (its_row pair (Register c f) b n); title = tt; rule = tt }
places pair (Record c j f h) b n =
    let on = on_card pair (Record c j f h) b n in
    record { row = row_inside _ _ (its_row pair (Record c j f h) b n); title = title_inside b j.0 on; rule = rule_inside b j.0 on }
places pair (CheckOut c j) b n =
    record { row = row_inside _ _ (its_row pair (CheckOut c j) b n); title = title_inside b j.0 (on_card pair (CheckOut c j) b n); rule = tt }
places pair (CheckIn j f1) b n =
    record { row = row_inside _ _ (its_row pair (CheckIn j f1) b n); title = title_inside b j.0 (on_card pair (CheckIn j f1) b n); rule = tt }
places pair (MoveOut j h f) b n =
    let on = on_card pair (MoveOut j h f) b n in
    record { row = row_inside _ _ (its_row pair (MoveOut j h f) b n); title = title_inside b j.0 on; rule = rule_inside b j.0 on }
places pair (MoveIn c j h) b n =
    let on = on_card pair (MoveIn c j h) b n in
    record { row = row_inside _ _ (its_row pair (MoveIn c j h) b n); title = title_inside b j.0 on; rule = rule_inside b j.0 on }
places pair (Delete j f) b n =
    let on = on_card pair (Delete j f) b n in
    let full = is_full (kind_at b j.0) in
    record {
      row = slot_where full 24 _ b.ledger (deleted_row b j.0 on n.deletable);
      title = title_inside b j.0 on;
      rule = slot_where full 32 _ b.rules (λ e. rule_inside b j.0 on);
    }

-- of a full entry that is deleted, its row and its rule half
pub row_deleted : (j : EntryNumber) (f : Fillers) (b : Buffers) → Inside (Delete j f) b → is_full (kind_at b j.0) ≡ true → 24 * content_at b j.0 + 24 ≤ length b.ledger
row_deleted j f b i full = rw full at i.row

pub rule_deleted : (j : EntryNumber) (f : Fillers) (b : Buffers) → Inside (Delete j f) b → is_full (kind_at b j.0) ≡ true → 32 * j.0 + 32 ≤ length b.rules
rule_deleted j f b i full = rw full at i.rule

-- A CALL, refused or done

module _ (pair : Pair) (k : Request) (b : Buffers) {w : ℕ} (e : w ≡ refusal pair k b) where
  -- refused, nothing has changed
  pub refused : w ≢ 0 → Answers pair k b w b
  unfolding perform
  refused other = simp (ne_eqb (refusal pair k b) 0 (λ z. other (e ∙ z)), e)

  -- accepted, its places lie in its tables
  pub inside : w ≡ 0 → Inside k b
  unfolding perform
  inside zero = places pair k b (needs_met pair k b (sym e ∙ zero))

  -- done, its effect is there
  pub done : {after : Buffers} → w ≡ 0 → after ≡ effect k b → Answers pair k b 0 after
  unfolding perform
  done {after} zero same = simp (sym e ∙ zero, same)

-- the same, where the refusals read the buffers that were lent as a shop
module _ (pair : Pair) (k : Request) {read b : Buffers} (same : read ≡ b) where
  pub left_alone : {w : ℕ} → w ≡ refusal pair k read → w ≢ 0 → Answers pair k b w b
  left_alone e = refused pair k b (e ∙ ap (refusal pair k) same)

  -- a `?` hands on the refusal v
  pub handed : (r : Result (Unit {0}) Refusal) (v : Refusal) → IsErrAnd r (λ y. y ≡ v) → number_of v ≡ refusal pair k read → Answers pair k b (answer_number r) b
  handed r v h e = rw (handed_on r v h) (left_alone e (some_number v))

  module _ (e : 0 ≡ refusal pair k read) where
    pub accepted : Inside k b
    accepted = inside pair k b (e ∙ ap (refusal pair k) same) refl

    pub carried_out : {after : Buffers} → after ≡ effect k b → Answers pair k b 0 after
    carried_out = done pair k b (e ∙ ap (refusal pair k) same) refl
