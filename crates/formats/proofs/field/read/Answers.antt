-- `formats::field::read` meets its contract: eight bytes as they are, and fewer one by one.
-- Assumes nothing.
use Rattle.std.proofs.Common.{◌∙◌, ap, arith}
use Rattle.std.specs.Int.{w64, from_be_bytes}
use Rattle.formats.specs.Part.{part}
use Rattle.formats.proofs.Part.{part_length}
use Rattle.formats.proofs.field.Laws.{from_be, read_start, read_next}
use Rattle.formats.proofs.field.read.Goals as goal

pub returns-in-Some : goal.returns-in-Some
returns-in-Some c =
    let l = c.args.field.now in
    let first = c.in-Some.ensures.cases in
    c.from_be_bytes.ensures ∙ ap (from_be_bytes w64) first.same ∙ from_be (part l 0 8) (part_length 0 8 l first.enough)

pub loop-byte-init : goal.loop-byte-init
loop-byte-init c = read_start _

pub loop-byte-preserved : goal.loop-byte-preserved
loop-byte-preserved c =
    let few = c.in_default.ensures in
    let byte = c.type_inv.field c.loop-byte.byte-index in
    read_next c.loop-byte.invariant c.loop-byte-test.true (omega (arith, few.cases, c.loop-byte-test.true)) c.from.ensures (omega (arith, c.from.ensures, byte.fits))
