-- `formats::row::write_plain` meets its contract: three fields of eight bytes.
-- Assumes nothing.
use Prim.Native.Nat.{ℕ, ◌*◌, ◌%◌, ◌^◌}
use mathlib.Core.Path.{ap, ◌∙◌}
use lib.ListN.{length}
use Rattle.formats.specs.Part.{part}
use Rattle.formats.specs.Field.{bytes_of}
use Rattle.formats.proofs.row.Laws.{plain_length, plain_fields, three_fields}
use Rattle.formats.proofs.row.write_plain.Goals as goal

pub returns : goal.returns
returns c =
    let s = c.args.state in
    three_fields _ _ _ c.args.row.now c.if-row-ne24.false (plain_length s) (plain_fields s c.ranges.state.fits) (c.write.ensures ∙ ap (λ (n : ℕ). bytes_of (length (part c.args.row.now 0 8)) ((n * 2 ^ 56) % 2 ^ 64)) c.from.ensures) c.write-2.ensures c.write-3.ensures
