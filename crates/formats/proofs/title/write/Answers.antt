-- `formats::title::write` meets its contract: the first 16 bytes of a title half are all of it.
-- Assumes nothing.
use Prim.Native.Nat.{ℕ}
use mathlib.Core.Path.{◌≡◌, sym, ap, ◌∙◌}
use native.Mathlib.Omega.{arith}
use lib.Bits.{bit_and}
use lib.ListN.{length}
use Rattle.formats.specs.Part.{put}
use Rattle.formats.specs.Half.{half_bytes}
use Rattle.formats.specs.Title.{title_half}
use Rattle.formats.proofs.Bits.{low_two}
use Rattle.formats.proofs.Part.{put_whole, replaced_whole}
use Rattle.formats.proofs.half.Laws.{length_half_bytes, changed_half_lem}
use Rattle.formats.proofs.title.write.Goals as goal

pub returns : goal.returns
unfolding title_half
returns c =
    let a = c.args in
    let title = a.title.now in
    let id = a.content.0 in
    let size : length title ≡ 16 = c.if-title-ne16.false in
    let new = half_bytes (bit_and a.cci 3) a.key id in
    c.write.ensures
    ∙ changed_half_lem (put title 0 new) title (omega arith)
    ∙ put_whole title new (length_half_bytes (bit_and a.cci 3) a.key id ∙ sym size)
    ∙ ap (λ (first : ℕ). half_bytes first a.key id) (low_two a.cci)
    ∙ sym (replaced_whole 16 (title_half a.cci a.key id) title size)
