-- `music_counter::move_in::apply` meets its contract.
-- Assumes nothing.
use mathlib.Core.Path.{ap, ◌∙◌}
use Rattle.calls.specs.Effect.{after_move}
use Rattle.music_counter.proofs.Effects.{moved_in}
use Rattle.music_counter.proofs.move_in.apply.Goals as goal

pub returns : goal.returns
returns c =
    let a = c.args in
    moved_in a.ledger.now a.titles.now a.rules.now a.content a.entry a.hash
    (c.after_move-facts.ensures ∙ ap after_move c.facts_here.ensures)
    c.put_on_card.ensures
