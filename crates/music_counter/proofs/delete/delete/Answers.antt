-- `music_counter::delete::delete` meets its contract: refused, or done.
-- Assumes nothing.
use mathlib.Core.Path.{refl, ap, ◌∙◌}
use Rattle.formats.specs.Entry.{is_full}
use Rattle.calls.specs.Buffers.{Buffers, kind_at}
use Rattle.music_counter.proofs.Answers.{handed, accepted, carried_out}
use Rattle.music_counter.proofs.delete.delete.Goals as goal

pub returns-in_err-full : goal.returns-in_err-full
returns-in_err-full c = handed _ _ c.new-shop.ensures _ _ c.from_residual.ensures.1 c.in_err-full.ensures.answer

pub apply-requires-clause-inside : goal.apply-requires-clause-inside
apply-requires-clause-inside c = accepted _ _ c.new-shop.ensures c.in_ok-full.ensures.answer

pub apply-requires-clause-full : goal.apply-requires-clause-full
apply-requires-clause-full c = c.in_ok-full.ensures.full _ refl ∙ ap (λ (b : Buffers). is_full (kind_at b c.args.entry.0)) c.new-shop.ensures

pub returns : goal.returns
returns c = carried_out _ _ c.new-shop.ensures c.in_ok-full.ensures.answer c.apply.ensures
