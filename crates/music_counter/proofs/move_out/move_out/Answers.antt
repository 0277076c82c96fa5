-- `music_counter::move_out::move_out` meets its contract: refused, or done.
-- Assumes nothing.
use Rattle.music_counter.proofs.Answers.{handed, accepted, carried_out}
use Rattle.music_counter.proofs.move_out.move_out.Goals as goal

pub returns-in_err-refusal : goal.returns-in_err-refusal
returns-in_err-refusal c = handed _ _ c.new-shop.ensures _ _ c.from_residual.ensures.1 c.in_err-refusal.ensures

pub apply-requires : goal.apply-requires
apply-requires c =
    let i = accepted _ _ c.new-shop.ensures c.in_ok-refusal.ensures in
    record { row = i.row; title = i.title; rule = i.rule }

pub returns : goal.returns
returns c = carried_out _ _ c.new-shop.ensures c.in_ok-refusal.ensures (c.apply.ensures _)
