-- `formats::entry::Entry::is_vacant` meets its contract: an entry is free or spent where no half is usable.
-- Assumes nothing.
use mathlib.Core.Path.{refl}
use Rattle.formats.proofs.half.Laws.{without_id, with_id}
use Rattle.formats.proofs.entry.Laws.{vacant_by}
use Rattle.formats.proofs.entry.Entry.is_vacant.Goals as goal

pub returns-in-None-None : goal.returns-in-None-None
returns-in-None-None c =
    vacant_by _ _ (without_id _ c.usable_id.ensures c.in-None-None.is-0) (without_id _ c.usable_id-2.ensures c.in-None-None.is-1)

pub returns-in_default : goal.returns-in_default
returns-in_default c =
    vacant_by _ _ (without_id _ c.usable_id.ensures c.in_default.is-0) (with_id _ c.usable_id-2.ensures c.in_default.is-1).0

pub returns-in_default-2 : goal.returns-in_default-2
returns-in_default-2 c =
    let (usable, id) = with_id _ c.usable_id.ensures c.in_default.is-0 in
    vacant_by _ _ usable refl
