-- `tables::format::format_card` meets its contract.
-- Assumes nothing.
use mathlib.Core.Path.{refl, ◌∙◌}
use borrow.Author.Tests.{eq-eqb}
use Rattle.formats.specs.Head.{fresh_titles, fresh_rules}
use Rattle.calls.proofs.Refusals.{holds, end, changed}
use Rattle.tables.specs.Format.{card_formatting, formatted_titles, formatted_rules}
use Rattle.tables.proofs.format.format_card.Goals as goal

pub returns : goal.returns
unfolding card_formatting formatted_titles formatted_rules fresh_titles fresh_rules
returns c =
    let titles = c.if-titles-ne16000.false in
    let rules = c.if-rules-ne32000.false in
    let e = holds 8 _ _ (eq-eqb _ _ titles) (holds 9 _ _ (eq-eqb _ _ rules) end) in
    record {
      answer = e;
      titles_formatted = rw (titles, c.titles_identifier.ensures) at c.fresh_table.ensures ∙ changed _ _ e refl;
      rules_formatted = rw (rules, c.rules_identifier.ensures, c.from.ensures) at c.fresh_table-2.ensures ∙ changed _ _ e refl;
    }
