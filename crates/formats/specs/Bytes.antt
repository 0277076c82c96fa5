-- Lists of bytes.
use Rattle.std.specs.Prelude.{ℕ, ◌<◌, List, get_or}

-- every element of l is a byte, and so is what counts for a place past its end
abbrev pub Bytes : List ℕ → Type 0
Bytes l = (i : ℕ) → get_or l i 0 < 256
