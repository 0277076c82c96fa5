-- `line` makes the line of the definition, state by state.
-- Assumes nothing.
use Rattle.std.proofs.Common.{rules}
use mathlib.Core.Path.{sym, ◌∙◌}
use Rattle.closing_sheet.specs.Sheet.{line_with}
use Rattle.closing_sheet.proofs.sheet.Sheet.line.Goals as goal
use Rattle.closing_sheet.proofs.sheet.Sheet.line.Goals.{in-Empty, in-Here, in-Away, in-Gone, in-NoState}

pub returns : goal.returns
unfolding line_with
returns c =
    let e = sym c.requires in
    elim c.match-state.branch [
      | in-Empty w ↦ rw (w.state-is, e ∙ w.in-Empty.is) (search rules)
      | in-Here w ↦ rw (w.state-is, e ∙ w.in-Here.is) (search rules)
      | in-Away w ↦ rw (w.state-is, e ∙ w.in-Away.is) (search rules)
      | in-Gone w ↦ rw (w.state-is, e ∙ w.in-Gone.is) (search rules)
      | in-NoState w ↦ rw (w.state-is, e ∙ w.in-NoState.is) (search rules)
    ]
