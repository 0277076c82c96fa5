-- The title half of an entry: 16 bytes.
use Rattle.std.specs.Prelude.{ℕ, ◌%◌, List, get_or}
use Rattle.formats.specs.Half.{half_bytes}

-- "byte 0 has the copy control information, CCI, in its low two bits"
abbrev pub cci_of : List ℕ → ℕ
cci_of t = get_or t 0 0 % 4

-- a written title half
unfoldable pub title_half : ℕ → ℕ → ℕ → List ℕ
title_half cci key id = half_bytes (cci % 4) key id
