-- `inspection::counts` meets its contract: the row, where it is here, and the full entries are the holders.
-- Assumes nothing.
use Prim.Native.Nat.{ℕ, ◌+◌, ◌≤◌}
use mathlib.Core.Path.{ap₂}
use mathlib.Core.List.{[], ◌∷◌}
use mathlib.Core.Bool.{Bool, true, false}
use native.Mathlib.Omega.{arith}
use Rattle.calls.specs.Buffers.{is_here, one, state_in, full_entries}
use Rattle.calls.specs.History.{holders}
use Rattle.tables.specs.Copies.{full_at}
use Rattle.tables.proofs.PerTitle.{ones}
use Rattle.inspection.proofs.counts.Goals as goal

at_most_one : (b : Bool) → one b ≤ 1
at_most_one true = omega arith
at_most_one false = omega arith

pub overflow_add-result : goal.overflow_add-result
unfolding full_entries
overflow_add-result c =
    let few = ones 999 (full_at c.args.content.0 c.args.shop.card.titles.now c.args.shop.card.rules.now) in
    let row = at_most_one (is_here (state_in c.args.shop.ledger.now c.args.content.0)) in
    omega (arith, c.holders_in_row.ensures, c.with_title-found.ensures.full)

pub returns : goal.returns
unfolding holders
returns c =
    let found = c.with_title-found.ensures in
    ap₂ (λ (h n : ℕ). h ∷ n ∷ []) (ap₂ (λ (h n : ℕ). h + n) c.holders_in_row.ensures found.full) found.copies
