-- `formats::half::write` meets its contract: bytes 0 to 7 as one field, and bytes 8 to 15 as another.
-- Assumes nothing.
use Prim.Native.Nat.{ℕ, ◌+◌, ◌-◌, ◌*◌, ◌/◌, ◌%◌, ◌^◌, ◌<◌}
use mathlib.Core.Path.{◌≡◌, sym, ap, ap₂, ◌∙◌}
use mathlib.Core.List.{List, ◌∷◌, ◌++◌}
use native.Mathlib.Omega.{arith}
use lib.Bits.{bit_and, bit_or, and_mask, or_shifted}
use lib.Dec.{lit≤}
use Rattle.formats.specs.Part.{put}
use Rattle.formats.specs.Field.{bytes_of}
use Rattle.formats.specs.Half.{half_bytes}
use Rattle.formats.proofs.Bits.{joined}
use Rattle.formats.proofs.Writes.{wrote_start, wrote_field}
use Rattle.formats.proofs.field.Joined.{low_bytes, joined_bytes}
use Rattle.formats.proofs.half.Laws.{changed_half_lem, marked}
use Rattle.formats.proofs.half.write.Goals as goal

-- the first byte above the 56 bits of the key
front : (first key : ℕ) → first < 256 → bytes_of 8 (bit_or ((first * 2 ^ 56) % 2 ^ 64) (bit_and key (2 ^ 56 - 1))) ≡ first ∷ bytes_of 7 key
unfolding bytes_of
front first key small =
    let k : key % 2 ^ 56 < 2 ^ 56 = omega arith in
    let f : first / 2 ^ 0 % 256 ≡ first = omega arith in
    let m : key % 2 ^ 56 % 2 ^ 56 ≡ key % 2 ^ 56 = omega arith in
    ap (bytes_of 8)
    (ap (bit_or ((first * 2 ^ 56) % 2 ^ 64)) (and_mask key 56) ∙ joined 8 56 64 first (key % 2 ^ 56) small (lit≤ tt) k)
    ∙ joined_bytes 1 7 first (key % 2 ^ 56) k
    ∙ ap₂ (λ (b : ℕ) (l : List ℕ). b ∷ l) f (low_bytes 7 (key % 2 ^ 56) key m)

-- the flag above the ten bits of the ID
mark : (id : ℕ) → bit_or (2 ^ 63) (bit_and id 1023) ≡ 2 ^ 63 + id % 1024
mark id = ap (bit_or (2 ^ 63)) (and_mask id 10) ∙ or_shifted 1 63 (id % 1024) (omega arith)

pub returns : goal.returns
unfolding half_bytes
returns c =
    let a = c.args in
    let h = a.half.now in
    let id = a.content.0 in
    let top = λ (n : ℕ). bit_or ((n * 2 ^ 56) % 2 ^ 64) (bit_and a.key (2 ^ 56 - 1)) in
    let w = wrote_field 8 (top c.from.result) (wrote_start 0 h (omega arith)) (omega arith) c.write.ensures in
    (wrote_field 8 (bit_or (2 ^ 63) (bit_and id 1023)) w (omega arith) c.write-2.ensures).is
    ∙ ap₂ (λ (y z : List ℕ). put h 0 (y ++ z)) (ap (λ (n : ℕ). bytes_of 8 (top n)) c.from.ensures ∙ front a.first a.key (omega arith)) (ap (bytes_of 8) (mark id) ∙ marked id)
    ∙ sym (changed_half_lem (put h 0 (half_bytes a.first a.key id)) h (omega arith))
