-- `music_counter::register::register` meets its contract, whatever the card is: refused, or done.
-- Assumes nothing.
use Rattle.std.proofs.Common.{refl, []}
use Rattle.formats.specs.declared.head.Pair.TheVariants.{Audio}
use Rattle.calls.specs.Effect.{effect}
use Rattle.music_counter.proofs.Answers.{handed, accepted, carried_out}
use Rattle.music_counter.proofs.Effects.{same_buffers}
use Rattle.music_counter.proofs.register.register.Goals as goal

pub returns-in_err-refusal : goal.returns-in_err-refusal
returns-in_err-refusal c pair titles rules = handed _ _ refl _ _ c.from_residual.ensures.1 (c.in_err-refusal.ensures pair titles rules)

pub set_here-requires : goal.set_here-requires
set_here-requires c = (accepted _ _ refl (c.in_ok-refusal.ensures Audio [] [])).row

pub returns : goal.returns
unfolding effect
returns c pair titles rules = carried_out _ _ refl (c.in_ok-refusal.ensures pair titles rules) (same_buffers c.set_here.ensures refl refl)
