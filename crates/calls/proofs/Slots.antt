-- Tables of slots of one width, as rows and halves are: what is read after a slot is written.
-- Assumes nothing.
use Prim.Native.Nat.{ℕ, zero, suc, ◌+◌, ◌*◌, ◌≤◌, ◌<◌}
use mathlib.Core.Path.{◌≡◌, refl, sym, ap}
use mathlib.Core.Logic.{◌≢◌}
use mathlib.Core.List.{List}
use native.Mathlib.Omega.{arith}
use native.Mathlib.Decide.{dec_lt}
use lib.ListN.{length}
use Rattle.std.specs.Prelude.{Option, Some}
use Rattle.formats.specs.Part.{part, put}
use Rattle.formats.proofs.Part.{put_length, part_put_same, part_put_before, part_put_after}
use Rattle.calls.specs.Untouched.{SlotsKept}

-- a slot ends where the next begins
pub slot_ends : (width i j : ℕ) → i < j → width * i + width ≤ width * j
slot_ends width i zero less = omega arith
slot_ends width i (suc j) less =
    elim (dec_lt i j) [ yes l ↦ let before = slot_ends width i j l in omega arith | no l ↦ let e : i ≡ j = omega arith in rw e (omega arith) ]

module _ (width : ℕ) (l p : List ℕ) (j : ℕ) (within : width * j + width ≤ length l) (size : length p ≡ width) where
  -- the slot that was written
  pub slot_same : part (put l (width * j) p) (width * j) width ≡ p
  slot_same = part_put_same l p (width * j) (omega arith) width size

  -- any other
  slot_else : (i : ℕ) → width * i + width ≤ length l → i ≢ j → part (put l (width * j) p) (width * i) width ≡ part l (width * i) width
  slot_else i inside other =
      elim (dec_lt i j) [
        | yes before ↦ part_put_before l p (width * j) (omega arith) (width * i) width (slot_ends width i j before)
        | no after ↦
            let e = slot_ends width j i (omega arith) in
            part_put_after l p (width * j) (omega arith) (width * i) width inside (omega arith)
      ]

  -- all but that one, and the head, are as they were
  pub slots_kept : 1 ≤ j → SlotsKept width (Some j) l (put l (width * j) p)
  slots_kept behind =
      record {
        same_length = put_length l p (width * j) (omega arith);
        head = let e = slot_ends width 0 j (omega arith) in part_put_before l p (width * j) (omega arith) 0 width (omega arith);
        others = λ i inside other. slot_else i inside (λ e. other (ap Some (sym e)));
      }

-- where nothing is written
pub all_kept : (width : ℕ) (written : Option ℕ) (l : List ℕ) → SlotsKept width written l l
all_kept width written l = record { same_length = refl; head = refl; others = λ i inside other. refl }
