-- `formats::half::usable_id` meets its contract: the number is the ID of a usable half, and 0 of any other.
-- Assumes nothing.
use Rattle.std.proofs.Common.{ℕ, ◌%◌, ◌≡◌, ◌∙◌, sym, ap, not, Some}
use lib.Bits.{and_mask}
use borrow.Author.Tests.{eq-eqb, ne_eqb}
use Rattle.formats.specs.Bytes.{Bytes}
use Rattle.formats.specs.Half.{id_of}
use Rattle.formats.proofs.half.Laws.{cut_short, no_id, some_id, tail_low, tail_clear, tail_set}
use Rattle.formats.proofs.half.usable_id.Goals as goal
use Rattle.formats.proofs.half.usable_id.Goals.{then-tail-eq0, else-tail-eq0}

pub returns-then-half-lt16 : goal.returns-then-half-lt16
returns-then-half-lt16 c = sym (no_id c.args.half.now (cut_short c.args.half.now c.if-half-lt16.true))

pub returns-then-id-eq0 : goal.returns-then-id-eq0
returns-then-id-eq0 c =
    let h = c.args.half.now in
    let byte : Bytes h = λ i. (c.type_inv.half i).fits in
    let whole = c.if-half-lt16.false in
    elim c.if-tail-eq0.branch [
      | then-tail-eq0 w ↦ sym (no_id h (tail_clear h byte whole (rw c.read_at-tail.ensures at w.if-tail-eq0.true)))
      | else-tail-eq0 w ↦
          let id : id_of h ≡ 0 =
          sym (and_mask c.read_at-tail.result 10 ∙ ap (λ (x : ℕ). x % 1024) c.read_at-tail.ensures ∙ tail_low h byte whole) ∙ sym w.id-is ∙ c.if-id-eq0.true in
          sym (no_id h (tail_set h byte whole (rw c.read_at-tail.ensures at w.if-tail-eq0.false) ∙ ap not (eq-eqb (id_of h) 0 id)))
    ]

pub returns-else-id-eq0 : goal.returns-else-id-eq0
returns-else-id-eq0 c =
    let h = c.args.half.now in
    let byte : Bytes h = λ i. (c.type_inv.half i).fits in
    let whole = c.if-half-lt16.false in
    elim c.if-tail-eq0.branch [
      | then-tail-eq0 w ↦ absurd (c.if-id-eq0.false w.id-is)
      | else-tail-eq0 w ↦
          let id = w.id-is ∙ and_mask c.read_at-tail.result 10 ∙ ap (λ (x : ℕ). x % 1024) c.read_at-tail.ensures ∙ tail_low h byte whole in
          let usable =
          tail_set h byte whole (rw c.read_at-tail.ensures at w.if-tail-eq0.false) ∙ ap not (ne_eqb (id_of h) 0 (λ e. c.if-id-eq0.false (id ∙ e))) in
          ap (λ (x : ℕ). Some (record { 0 = x })) id ∙ sym (some_id h usable)
    ]
