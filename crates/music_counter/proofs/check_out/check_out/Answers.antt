-- `music_counter::check_out::check_out` meets its contract: refused, or done.
-- Assumes nothing.
use Rattle.std.proofs.Common.{sym, ◌∙◌}
use Rattle.formats.proofs.refusal.Laws.{refused_some, done_none}
use Rattle.music_counter.proofs.Answers.{left_alone, accepted, carried_out}
use Rattle.music_counter.proofs.check_out.check_out.Goals as goal

pub returns-then-is_err : goal.returns-then-is_err
returns-then-is_err c = left_alone _ _ c.new-shop.ensures c.refusal-found.ensures (refused_some _ (sym c.is_err.ensures.value ∙ c.if-is_err.true))

pub apply-requires : goal.apply-requires
apply-requires c =
    let zero = done_none _ (sym c.is_err.ensures.value ∙ c.if-is_err.false) in
    let i = accepted _ _ c.new-shop.ensures (sym zero ∙ c.refusal-found.ensures) in
    record { row = i.row; title = i.title; rule = tt }

pub returns : goal.returns
returns c =
    let zero = done_none _ (sym c.is_err.ensures.value ∙ c.if-is_err.false) in
    carried_out _ _ c.new-shop.ensures (sym zero ∙ c.refusal-found.ensures) (c.apply.ensures _)
