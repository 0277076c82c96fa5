-- Counts of which 15 means unlimited: permits and move rights.
use Rattle.std.specs.Prelude.{ℕ, ◌+◌, ◌-◌, cond, ltb}

-- "less 1, or 15 unchanged"
unfoldable pub one_less : ℕ → ℕ
one_less n = cond (ltb n 15) (n - 1) n

-- "plus 1, or 15 unchanged"
unfoldable pub one_more : ℕ → ℕ
one_more n = cond (ltb n 15) (n + 1) n
