-- `music_counter::move_out::apply` meets its contract.
-- Assumes nothing.
use mathlib.Core.Path.{ap, ◌∙◌}
use Rattle.calls.specs.Effect.{after_move}
use Rattle.music_counter.proofs.Effects.{moved_out}
use Rattle.music_counter.proofs.move_out.apply.Goals as goal

pub returns : goal.returns
returns c hash =
    let a = c.args in
    moved_out a.ledger.now a.titles.now a.rules.now a.entry hash a.fillers c.content-content.result.0 c.content-content.ensures
    (c.after_move-facts.ensures ∙ ap after_move c.facts.ensures)
    c.set_here.ensures c.wipe_title.ensures c.wipe_rule.ensures
