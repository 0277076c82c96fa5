-- `music_counter::check_in::apply` meets its contract.
-- Assumes nothing.
use Rattle.std.proofs.Common.{ap, ◌∙◌}
use Rattle.formats.specs.Half.{id_of}
use Rattle.music_counter.proofs.Effects.{checked_in_lem}
use Rattle.music_counter.proofs.check_in.apply.Goals as goal

pub returns : goal.returns
returns c rules =
    let a = c.args in
    checked_in_lem a.ledger.now a.titles.now rules a.entry a.f1 c.content_id-content.result.0 (c.content_id-content.ensures ∙ ap id_of c.slot.ensures)
    c.facts_here-facts.ensures
    c.one_more.ensures c.set_permits.ensures c.wipe_title.ensures
