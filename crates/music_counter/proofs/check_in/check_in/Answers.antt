-- `music_counter::check_in::check_in` meets its contract: refused, or done.
-- Assumes nothing.
use Rattle.std.proofs.Common.{sym, ◌∙◌}
use Rattle.music_counter.proofs.Answers.{left_alone, accepted, carried_out}
use Rattle.music_counter.proofs.check_in.check_in.Goals as goal

pub returns-then-is_refused : goal.returns-then-is_refused
returns-then-is_refused c = left_alone _ _ c.new-shop.ensures c.refusal-found.ensures (λ z. c.if-is_refused.true (c.number-is_refused.ensures ∙ z))

pub apply-requires : goal.apply-requires
apply-requires c =
    let i = accepted _ _ c.new-shop.ensures (sym c.if-is_refused.false ∙ c.number-is_refused.ensures ∙ c.refusal-found.ensures) in
    record { row = i.row; title = i.title; rule = tt }

pub returns : goal.returns
returns c = carried_out _ _ c.new-shop.ensures (sym c.if-is_refused.false ∙ c.number-is_refused.ensures ∙ c.refusal-found.ensures) (c.apply.ensures _)
