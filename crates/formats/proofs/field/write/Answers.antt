-- `formats::field::write` meets its contract: the last of eight bytes, or all of them behind zeros.
-- Assumes nothing.
use Rattle.formats.proofs.field.Laws.{low_field, long_field}
use Rattle.formats.proofs.field.write.Goals as goal

pub returns-then-size-le8 : goal.returns-then-size-le8
returns-then-size-le8 c = low_field _ c.args.x c.if-size-le8.true c.to_be_bytes-bytes.ensures c.copy_from_slice.ensures.after

pub returns-else-size-le8 : goal.returns-else-size-le8
returns-else-size-le8 c =
    long_field c.args.field.now c.args.x c.if-size-le8.false c.ranges.x.fits
    (c.fill.ensures.after (λ y e. e))
    c.to_be_bytes-bytes.ensures
    c.copy_from_slice-else-size-le8.ensures.after
