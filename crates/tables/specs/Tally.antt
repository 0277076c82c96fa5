-- "Tally (c, card) answers the number of copies with ID c."
use Rattle.std.specs.Prelude.{ℕ, List, [], ◌∷◌}
use Rattle.formats.specs.declared.head.Pair.{Pair}
use Rattle.formats.specs.Answer.{Answer}
use Rattle.requests.specs.declared.request.Argument.TheVariants.{Content}
use Rattle.calls.specs.Buffers.{copies}
use Rattle.calls.specs.Conditions.{◌limits◌}
use Rattle.calls.specs.Refusal.{Condition}
use Rattle.tables.specs.Told.{told_after, card_head_conditions}

-- "4 c not 1 to 999", then 8 and 9: "Checks of a call or tally go in number order over what it takes."
abbrev pub tally_conditions : Pair → List ℕ → List ℕ → ℕ → List Condition
tally_conditions pair titles rules c = Content limits c ∷ card_head_conditions pair titles rules

-- "answers the number of copies with ID c", or the refusal
unfoldable pub tallied : Pair → List ℕ → List ℕ → ℕ → Answer
tallied pair titles rules c = told_after (tally_conditions pair titles rules c) (copies c titles rules ∷ [])
