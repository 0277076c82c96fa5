-- `formats::entry::Entry::is_vacant_in_turn` meets its contract: an entry is vacant where neither half is usable.
-- Assumes nothing.
use Rattle.std.proofs.Common.{refl, sym, ap, ◌∙◌}
use mathlib.Core.Bool.{not}
use Rattle.formats.proofs.entry.Laws.{vacant_by}
use Rattle.formats.proofs.entry.Entry.is_vacant_in_turn.Goals as goal

pub returns-then-not-usable : goal.returns-then-not-usable
returns-then-not-usable c = ap not c.usable-then-not-usable.ensures ∙ vacant_by _ _ (sym c.usable.ensures ∙ c.if-not-usable.true) refl

pub returns-else-not-usable : goal.returns-else-not-usable
returns-else-not-usable c = ap not c.if-not-usable.false ∙ vacant_by _ _ (sym c.usable.ensures ∙ c.if-not-usable.false) refl
