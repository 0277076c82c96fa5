-- `music_counter::delete::apply` meets its contract: a full entry, or a copy, by what the refusals found.
-- Assumes nothing.
use mathlib.Core.Path.{sym, ◌∙◌}
use Rattle.std.proofs.Common.{arith}
use Rattle.music_counter.proofs.Answers.{row_deleted, rule_deleted}
use Rattle.music_counter.proofs.Effects.{deleted, deleted_copy}
use Rattle.music_counter.proofs.delete.apply.Goals as goal
use Rattle.music_counter.proofs.delete.apply.Goals.{then-full, else-full}

pub set_plain-requires : goal.set_plain-requires
set_plain-requires c = omega (arith, row_deleted _ _ _ c.requires.inside (sym c.requires.full ∙ c.if-full.true), c.content-content.ensures)

pub wipe_rule-requires : goal.wipe_rule-requires
wipe_rule-requires c = rule_deleted _ _ _ c.requires.inside (sym c.requires.full ∙ c.if-full.true)

pub returns : goal.returns
returns c =
    let a = c.args in
    elim c.if-full.branch [
      | then-full w ↦
          rw (w.ledger-is, w.rules-is)
          (deleted a.ledger.now a.titles.now a.rules.now a.entry a.fillers w.content-content.result.0
          (sym c.requires.full ∙ w.if-full.true) w.content-content.ensures
          w.set_plain.ensures c.wipe_title.ensures w.wipe_rule.ensures)
      | else-full w ↦
          rw (w.ledger-is, w.rules-is)
          (deleted_copy a.ledger.now a.titles.now a.rules.now a.entry a.fillers
          (sym c.requires.full ∙ w.if-full.false) c.wipe_title.ensures)
    ]
