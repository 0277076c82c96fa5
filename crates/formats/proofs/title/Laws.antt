-- The laws of title halves: what a written one reads as.
-- Assumes nothing.
use Prim.Native.Nat.{ℕ, ◌%◌, ◌<◌}
use mathlib.Core.Path.{◌≡◌}
use mathlib.Core.List.{[]}
use native.Mathlib.Omega.{arith}
use lib.ListN.{length}
use Rattle.formats.specs.Field.{bytes_of}
use Rattle.formats.specs.Half.{half_bytes}
use Rattle.formats.specs.Title.{cci_of, title_half}
use Rattle.formats.specs.Bytes.{Bytes}
use Rattle.formats.proofs.Bytes.{bytes}
use Rattle.formats.proofs.half.Laws.{length_half_bytes, Written, half_written, half_bytes_lem}

module _ (cci key id : ℕ) where
  -- a written title half is 16 bytes
  pub length_title_half : length (title_half cci key id) ≡ 16
  unfolding title_half
  length_title_half = length_half_bytes (cci % 4) key id

  -- its key, flag and ID
  pub title_written_lem : Written (title_half cci key id) key id
  unfolding title_half half_bytes bytes_of
  title_written_lem = half_written (cci % 4) key id []

  -- the CCI reads back
  pub title_cci : cci < 4 → cci_of (title_half cci key id) ≡ cci
  unfolding title_half half_bytes
  title_cci small = omega arith

  -- it holds bytes
  pub title_bytes : Bytes (title_half cci key id)
  unfolding title_half
  title_bytes = bytes (half_bytes_lem (cci % 4) key id (omega arith))
