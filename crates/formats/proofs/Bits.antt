-- The masks and shifts of the layouts, as division and remainder.
-- Assumes nothing.
use Prim.Native.Nat.{ℕ, ◌+◌, ◌*◌, ◌%◌, ◌^◌, ◌<◌, ◌≤◌}
use mathlib.Core.Path.{◌≡◌, ap, ◌∙◌}
use lib.Bits.{bit_and, bit_or, and_mask, or_shifted}
use lib.Pow.{shl_exact}

-- the low bits of x: the masks 03h, 0Fh, 7Fh and FFh
pub low_two : (x : ℕ) → bit_and x 3 ≡ x % 4
low_two x = and_mask x 2

pub low_four : (x : ℕ) → bit_and x 15 ≡ x % 16
low_four x = and_mask x 4

pub low_seven : (x : ℕ) → bit_and x 127 ≡ x % 128
low_seven x = and_mask x 7

pub low_eight : (x : ℕ) → bit_and x 255 ≡ x % 256
low_eight x = and_mask x 8

pub low_one : (x : ℕ) → bit_and x 1 ≡ x % 2
low_one x = and_mask x 1

-- a number moved up by k bits, with k bits under it, in a word of w bits
pub joined : (j k w hi lo : ℕ) → hi < 2 ^ j → j + k ≤ w → lo < 2 ^ k → bit_or ((hi * 2 ^ k) % 2 ^ w) lo ≡ hi * 2 ^ k + lo
joined j k w hi lo h fits l = ap (λ (n : ℕ). bit_or n lo) (shl_exact j k w h fits) ∙ or_shifted hi k lo l
