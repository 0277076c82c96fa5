-- `tables::copies::bytes_to_copy` meets its contract: the three are tried in turn.
-- Assumes nothing.
use Rattle.std.proofs.Common.{ℕ, ◌+◌, ◌*◌, Bool, sym, ap, ◌∙◌}
use Rattle.tables.specs.Copies.{copy_at}
use Rattle.tables.proofs.Three.{first_1, first_2, first_3, none_of_3}
use Rattle.tables.proofs.copies.bytes_to_copy.Goals as goal

pub returns-then-is_copy_at : goal.returns-then-is_copy_at
returns-then-is_copy_at c =
    let t : ℕ → Bool = λ i. copy_at c.args.content.0 c.args.card.titles.now c.args.card.rules.now (c.args.n + i) in
    ap (λ (p : ℕ). 16 * p) (sym (first_1 t (sym c.is_copy_at.ensures ∙ c.if-is_copy_at.true)))

pub returns-then-is_copy_at-2 : goal.returns-then-is_copy_at-2
returns-then-is_copy_at-2 c =
    let t : ℕ → Bool = λ i. copy_at c.args.content.0 c.args.card.titles.now c.args.card.rules.now (c.args.n + i) in
    ap (λ (p : ℕ). 16 * p)
    (sym (first_2 t (sym c.is_copy_at.ensures ∙ c.if-is_copy_at.false) (sym c.is_copy_at-else-is_copy_at.ensures ∙ c.if-is_copy_at-2.true)))

pub returns-then-is_copy_at-3 : goal.returns-then-is_copy_at-3
returns-then-is_copy_at-3 c =
    let t : ℕ → Bool = λ i. copy_at c.args.content.0 c.args.card.titles.now c.args.card.rules.now (c.args.n + i) in
    ap (λ (p : ℕ). 16 * p)
    (sym
    (first_3 t (sym c.is_copy_at.ensures ∙ c.if-is_copy_at.false) (sym c.is_copy_at-else-is_copy_at.ensures ∙ c.if-is_copy_at-2.false)
    (sym c.is_copy_at-else-is_copy_at-2.ensures ∙ c.if-is_copy_at-3.true)))

pub returns-else-is_copy_at-3 : goal.returns-else-is_copy_at-3
returns-else-is_copy_at-3 c =
    let t : ℕ → Bool = λ i. copy_at c.args.content.0 c.args.card.titles.now c.args.card.rules.now (c.args.n + i) in
    ap (λ (p : ℕ). 16 * p)
    (sym
    (none_of_3 t (sym c.is_copy_at.ensures ∙ c.if-is_copy_at.false) (sym c.is_copy_at-else-is_copy_at.ensures ∙ c.if-is_copy_at-2.false)
    (sym c.is_copy_at-else-is_copy_at-2.ensures ∙ c.if-is_copy_at-3.false)))
