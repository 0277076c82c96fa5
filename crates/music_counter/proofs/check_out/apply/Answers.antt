-- `music_counter::check_out::apply` meets its contract.
-- Assumes nothing.
use Rattle.music_counter.proofs.Effects.{checked_out_lem}
use Rattle.music_counter.proofs.check_out.apply.Goals as goal

pub returns : goal.returns
returns c rules =
    let a = c.args in
    checked_out_lem a.ledger.now a.titles.now rules a.content a.entry
    c.facts_here-facts.ensures
    c.one_less.ensures c.copy_cci-cci.ensures c.set_permits.ensures c.write_title.ensures
