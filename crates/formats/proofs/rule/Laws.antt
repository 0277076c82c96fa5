-- The laws of rule halves: what a written one reads as, and what a wipe leaves of one.
-- Assumes nothing.
use Prim.Native.Nat.{ℕ, ◌+◌, ◌*◌, ◌%◌, ◌^◌, ◌≤◌, ◌<◌}
use mathlib.Core.Path.{◌≡◌, ◌∙◌}
use mathlib.Core.List.{List, [], ◌∷◌, ◌++◌}
use native.Mathlib.Omega.{arith}
use lib.ListN.{length, length-append}
use Rattle.formats.specs.Field.{bytes_of}
use Rattle.formats.specs.Half.{half_bytes, wiped}
use Rattle.formats.specs.Rule.{trigger_of, rights_of, permits_of, hash_of, rule_half, wiped_rule}
use Rattle.formats.specs.declared.facts.Facts.{Facts}
use Rattle.formats.specs.declared.facts.Fillers.{Fillers}
use Rattle.formats.proofs.Part.{put_length}
use Rattle.formats.proofs.field.Laws.{length_bytes_of, number_whole}
use Rattle.formats.specs.Bytes.{Bytes}
use Rattle.formats.proofs.Bytes.{more, bytes, then, zeros, field, bytes_put}
use Rattle.formats.proofs.half.Laws.{length_half_bytes, Written, half_written, half_bytes_lem, Wiped, half_wiped, still_wiped, wiped_length, wiped_bytes}

module _ (f : Facts) (hash id : ℕ) where
  -- a written rule half is 32 bytes
  pub length_rule_half : length (rule_half f hash id) ≡ 32
  unfolding rule_half
  length_rule_half = simp (length-append, length_half_bytes, length_bytes_of)

  -- its key, flag and ID
  pub rule_written_lem : Written (rule_half f hash id) f.sti_key id
  unfolding rule_half
  rule_written_lem =
      half_written 0 f.sti_key id
      (f.trigger % 2 * 128 ∷ (f.rights % 16 * 16 + f.permits % 16) ∷ (bytes_of 8 hash ++ (0 ∷ 0 ∷ 0 ∷ 0 ∷ 0 ∷ 0 ∷ [])))

  -- the trigger reads back
  pub rule_trigger : f.trigger < 2 → trigger_of (rule_half f hash id) ≡ f.trigger
  unfolding rule_half half_bytes bytes_of
  rule_trigger small = omega arith

  -- the move rights
  pub rule_rights : f.rights < 16 → rights_of (rule_half f hash id) ≡ f.rights
  unfolding rule_half half_bytes bytes_of
  rule_rights small = omega arith

  -- the permits
  pub rule_permits : f.permits < 16 → permits_of (rule_half f hash id) ≡ f.permits
  unfolding rule_half half_bytes bytes_of
  rule_permits small = omega arith

  -- C_HASH
  pub rule_hash : hash < 2 ^ 64 → hash_of (rule_half f hash id) ≡ hash
  unfolding rule_half half_bytes bytes_of
  rule_hash small = number_whole 8 small

  -- it holds bytes
  pub rule_bytes : Bytes (rule_half f hash id)
  unfolding rule_half
  rule_bytes =
      bytes (then (half_bytes_lem 0 f.sti_key id (omega arith)) (more (f.trigger % 2 * 128) (omega arith) (more (f.rights % 16 * 16 + f.permits % 16) (omega arith) (then (field 8 hash) (zeros 6)))))

-- the last 16 bytes of a wiped rule half
abbrev last : Fillers → List ℕ
last f = bytes_of 8 f.f3 ++ bytes_of 8 f.f4

module _ (r : List ℕ) (f : Fillers) (size : length r ≡ 32) where
  room : 16 + length (last f) ≤ length (wiped r f.f2)
  room = simp (length-append, length_bytes_of) (omega (arith, wiped_length r f.f2 (omega arith)))

  -- a wiped rule half keeps its length
  pub wiped_rule_length : length (wiped_rule r f) ≡ length r
  unfolding wiped_rule
  wiped_rule_length = put_length (wiped r f.f2) (last f) 16 room ∙ wiped_length r f.f2 (omega arith)

  -- its key is f2's low bytes, and the rest of its first 16 bytes is kept but for the flag
  pub rule_wiped : Wiped r f.f2 (wiped_rule r f)
  unfolding wiped_rule
  rule_wiped = still_wiped (last f) room (half_wiped r f.f2)

-- a wiped rule half holds bytes
pub wiped_rule_bytes : (r : List ℕ) (f : Fillers) → Bytes r → Bytes (wiped_rule r f)
unfolding wiped_rule
wiped_rule_bytes r f b = bytes_put (wiped r f.f2) 16 (wiped_bytes r f.f2 b) (then (field 8 f.f3) (field 8 f.f4))
