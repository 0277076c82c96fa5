-- `formats::rule::wipe` meets its contract: bytes 16 to 31 after the wipe of what all halves have.
-- Assumes nothing.
use mathlib.Core.Path.{◌≡◌, sym, ap, ◌∙◌}
use mathlib.Core.List.{List, ◌++◌}
use native.Mathlib.Omega.{arith}
use lib.ListN.{length}
use Prim.Native.Nat.{ℕ}
use Rattle.formats.specs.Part.{put}
use Rattle.formats.specs.Field.{bytes_of}
use Rattle.formats.specs.Half.{wiped}
use Rattle.formats.specs.Rule.{wiped_rule}
use Rattle.formats.proofs.Part.{replaced_whole}
use Rattle.formats.proofs.Writes.{wrote_start, wrote_field}
use Rattle.formats.proofs.half.Laws.{changed_half_lem}
use Rattle.formats.proofs.rule.wipe.Goals as goal

pub returns : goal.returns
unfolding wiped_rule
returns c =
    let rule = c.args.rule.now in
    let f = c.args.fillers in
    let size : length rule ≡ 32 = c.if-rule-ne32.false in
    let first : c.wipe.new.half ≡ wiped rule f.f2 = c.wipe.ensures ∙ changed_half_lem (wiped rule f.f2) rule (omega arith) in
    let third = wrote_field 8 f.f3 (wrote_start 16 c.wipe.new.half (omega arith)) (omega arith) c.write.ensures in
    (wrote_field 8 f.f4 third (omega arith) c.write-2.ensures).is
    ∙ ap (λ (w : List ℕ). put w 16 (bytes_of 8 f.f3 ++ bytes_of 8 f.f4)) first
    ∙ sym (replaced_whole 32 (wiped_rule rule f) rule size)
