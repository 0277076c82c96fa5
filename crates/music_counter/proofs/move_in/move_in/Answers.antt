-- `music_counter::move_in::move_in` meets its contract: refused, or done.
-- Assumes nothing.
use Rattle.std.proofs.Common.{not, sym, ap, ◌∙◌}
use Rattle.formats.proofs.refusal.Laws.{refused_some, done_none}
use Rattle.music_counter.proofs.Answers.{left_alone, accepted, carried_out}
use Rattle.music_counter.proofs.move_in.move_in.Goals as goal

pub apply-requires : goal.apply-requires
apply-requires c =
    let zero = done_none _ (c.is_ok.ensures.negation ∙ ap not c.if-is_ok.true) in
    accepted _ _ c.new-shop.ensures (sym zero ∙ c.refusal-reported.ensures.answer _)

pub returns-then-is_ok-clause-answers : goal.returns-then-is_ok-clause-answers
returns-then-is_ok-clause-answers c =
    let zero = done_none _ (c.is_ok.ensures.negation ∙ ap not c.if-is_ok.true) in
    rw zero (carried_out _ _ c.new-shop.ensures (sym zero ∙ c.refusal-reported.ensures.answer _) c.apply.ensures)

pub returns-else-is_ok-clause-answers : goal.returns-else-is_ok-clause-answers
returns-else-is_ok-clause-answers c =
    left_alone _ _ c.new-shop.ensures (c.refusal-reported.ensures.answer _) (refused_some _ (c.is_ok.ensures.negation ∙ ap not c.if-is_ok.false))
