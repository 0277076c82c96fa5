-- What the calls that are given no facts test before they look at the state of a row or an entry.
use Rattle.std.specs.Prelude.{ℕ, List, ◌∷◌}
use Rattle.formats.specs.declared.head.Pair.{Pair}
use Rattle.calls.specs.Buffers.{Buffers}
use Rattle.calls.specs.Refusal.{Condition}
use Rattle.requests.specs.declared.request.Argument.TheVariants.{Content, Entry}
use Rattle.calls.specs.Conditions.{◌limits◌, all_head_conditions}

-- 5 j not 1 to 999; 7, 8 and 9 the heads
abbrev pub before_entry_conditions : Pair → ℕ → Buffers → List Condition
before_entry_conditions pair j b = Entry limits j ∷ all_head_conditions pair b

-- 4 c not 1 to 999, before them
abbrev pub before_both_conditions : Pair → ℕ → ℕ → Buffers → List Condition
before_both_conditions pair c j b = Content limits c ∷ before_entry_conditions pair j b
