-- `formats::rule::write` meets its contract: the bytes that all halves have, and two fields of eight bytes after them.
-- Assumes nothing.
use Prim.Native.Nat.{ℕ, ◌+◌, ◌*◌, ◌/◌, ◌%◌, ◌^◌, ◌<◌}
use mathlib.Core.Path.{◌≡◌, sym, ap, ap₂, ◌∙◌}
use mathlib.Core.List.{List, [], ◌∷◌, ◌++◌, append_assoc}
use native.Mathlib.Omega.{arith}
use lib.Bits.{bit_or, or_shifted}
use lib.ListN.{length}
use Rattle.formats.specs.Rule.{rule_half}
use Rattle.formats.specs.Part.{put}
use Rattle.formats.specs.Field.{bytes_of}
use Rattle.formats.specs.Half.{half_bytes}
use Rattle.formats.proofs.Writes.{Wrote, wrote_field}
use Rattle.formats.proofs.field.Laws.{bytes_of_zero}
use Rattle.formats.proofs.field.Joined.{joined_bytes}
use Rattle.formats.proofs.rule.Laws.{length_rule_half}
use Rattle.formats.proofs.Part.{put_whole, replaced_whole}
use Rattle.formats.proofs.half.Laws.{length_half_bytes, changed_half_lem}
use Rattle.formats.proofs.rule.write.Goals as goal

-- bytes 16 to 23: trigger and counts above the upper 48 bits of the hash
upper : (t n hash : ℕ) → t < 2 → n < 256 → hash < 2 ^ 64
    → bytes_of 8 (bit_or ((t * 32768 + n) * 2 ^ 48) (hash / 2 ^ 16)) ≡ t * 128 ∷ n ∷ bytes_of 6 (hash / 2 ^ 16)
unfolding bytes_of
upper t n hash ht hn small =
    let s : hash / 2 ^ 16 < 2 ^ 48 = omega arith in
    let first : (t * 32768 + n) / 2 ^ 8 % 256 ≡ t * 128 = omega arith in
    let second : (t * 32768 + n) / 2 ^ 0 % 256 ≡ n = omega arith in
    ap (bytes_of 8) (or_shifted (t * 32768 + n) 48 (hash / 2 ^ 16) s)
    ∙ joined_bytes 2 6 (t * 32768 + n) (hash / 2 ^ 16) s
    ∙ ap₂ (λ (a b : ℕ). a ∷ b ∷ bytes_of 6 (hash / 2 ^ 16)) first second

-- bytes 24 to 31: the lower 16 bits of the hash, and zeros
lower : (hash : ℕ) → bytes_of 8 (hash * 2 ^ 48 % 2 ^ 64) ≡ bytes_of 2 (hash % 2 ^ 16) ++ (0 ∷ 0 ∷ 0 ∷ 0 ∷ 0 ∷ 0 ∷ [])
lower hash =
    let e : hash * 2 ^ 48 % 2 ^ 64 ≡ hash % 2 ^ 16 * 2 ^ 48 + 0 = omega arith in
    ap (bytes_of 8) e ∙ joined_bytes 2 6 (hash % 2 ^ 16) 0 (omega arith) ∙ ap (λ (l : List ℕ). bytes_of 2 (hash % 2 ^ 16) ++ l) (bytes_of_zero 6)

-- the hash, in the two parts that it is stored in
halves : (hash : ℕ) → bytes_of 6 (hash / 2 ^ 16) ++ bytes_of 2 (hash % 2 ^ 16) ≡ bytes_of 8 hash
halves hash =
    let e : hash / 2 ^ 16 * 2 ^ 16 + hash % 2 ^ 16 ≡ hash = omega arith in
    sym (joined_bytes 6 2 (hash / 2 ^ 16) (hash % 2 ^ 16) (omega arith)) ∙ ap (bytes_of 8) e

-- the bytes one after the other
assembled : (h : List ℕ) (t n hash : ℕ) → t < 2 → n < 256 → hash < 2 ^ 64
    → (h ++ bytes_of 8 (bit_or ((t * 32768 + n) * 2 ^ 48) (hash / 2 ^ 16))) ++ bytes_of 8 (hash * 2 ^ 48 % 2 ^ 64)
    ≡ h ++ (t * 128 ∷ n ∷ (bytes_of 8 hash ++ (0 ∷ 0 ∷ 0 ∷ 0 ∷ 0 ∷ 0 ∷ [])))
assembled h t n hash ht hn small =
    ap₂ (λ (a b : List ℕ). (h ++ a) ++ b) (upper t n hash ht hn small) (lower hash)
    ∙ append_assoc h (t * 128 ∷ n ∷ bytes_of 6 (hash / 2 ^ 16)) (bytes_of 2 (hash % 2 ^ 16) ++ (0 ∷ 0 ∷ 0 ∷ 0 ∷ 0 ∷ 0 ∷ []))
    ∙ ap (λ (l : List ℕ). h ++ (t * 128 ∷ n ∷ l))
    (sym (append_assoc (bytes_of 6 (hash / 2 ^ 16)) (bytes_of 2 (hash % 2 ^ 16)) (0 ∷ 0 ∷ 0 ∷ 0 ∷ 0 ∷ 0 ∷ []))
    ∙ ap (λ (l : List ℕ). l ++ (0 ∷ 0 ∷ 0 ∷ 0 ∷ 0 ∷ 0 ∷ [])) (halves hash))

pub returns : goal.returns
unfolding rule_half
returns c =
    let rule = c.args.rule.now in
    let f = c.args.facts in
    let hash = c.args.hash in
    let id = c.args.content.0 in
    let long : length rule ≡ 32 = c.if-rule-ne32.false in
    let h = half_bytes 0 f.sti_key id in
    let size = length_half_bytes 0 f.sti_key id in
    let t = f.trigger % 2 in
    let k = f.rights % 16 * 16 + f.permits % 16 in
    let counted : c.counts.result ≡ (t * 32768 + k) * 2 ^ 48 = c.counts.ensures ∙ omega arith in
    let start : Wrote 0 rule h c.write.new.half 16 = record { is = c.write.ensures ∙ changed_half_lem (put rule 0 h) rule (omega arith); end = omega arith; room = omega arith } in
    let first = wrote_field 8 (bit_or c.counts.result (hash / 2 ^ 16)) start (omega arith) c.write-2.ensures in
    (wrote_field 8 (hash * 2 ^ 48 % 2 ^ 64) first (omega arith) c.write-3.ensures).is
    ∙ ap (put rule 0)
    (ap (λ (x : ℕ). (h ++ bytes_of 8 (bit_or x (hash / 2 ^ 16))) ++ bytes_of 8 (hash * 2 ^ 48 % 2 ^ 64)) counted
    ∙ assembled h t k hash (omega arith) (omega arith) c.ranges.hash.fits)
    ∙ put_whole rule (rule_half f hash id) (length_rule_half f hash id ∙ sym long)
    ∙ sym (replaced_whole 32 (rule_half f hash id) rule long)
