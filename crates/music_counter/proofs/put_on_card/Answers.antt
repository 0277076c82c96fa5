-- `music_counter::put_on_card` meets its contract.
-- Assumes nothing.
use Rattle.calls.specs.Effect.{effect}
use Rattle.music_counter.proofs.Effects.{same_buffers}
use Rattle.music_counter.proofs.put_on_card.Goals as goal

pub returns : goal.returns
unfolding effect
returns c = same_buffers c.set_plain.ensures c.write_title.ensures c.write_rule.ensures
