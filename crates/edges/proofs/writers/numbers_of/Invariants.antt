-- The loop of `edges::writers::numbers_of`: the numbers before the next one are read.
-- Assumes nothing.
use Rattle.std.proofs.Common.{ℕ, ◌≡◌, ◌+◌, ◌*◌, ◌<◌, length}
use Rattle.formats.specs.Part.{part}
use Rattle.formats.specs.Field.{number}
use Rattle.edges.specs.Cases.{number_at}
use Rattle.edges.proofs.writers.numbers_of.Given as goal

abbrev pub invariant-loop-i : goal.invariant-loop-i
invariant-loop-i l =
    record {
      eight : length l.number-items ≡ 8;
      each : (k : ℕ) → k < l.i → number_at l.number-items k ≡ number (part l.case (8 * k + 1) 8);
    }
