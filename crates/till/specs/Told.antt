-- The places that a till lends for numbers: for what tally and inspection tell, and for the count of bytes that were read or written.
use Rattle.std.specs.Prelude.{ℕ, List, cond, get_or, eqb}
use Rattle.formats.specs.Answer.{Answer}
use Rattle.formats.specs.Part.{part}

-- what stands in the place for value i of an answer: that value where it is done; on a refusal what stood there before
abbrev pub value_after : ℕ → Answer → ℕ → ℕ
value_after i answer before = cond (eqb answer.number 0) (get_or answer.values i 0) before

-- and in the six places for facts, which are the values from place i on
abbrev pub facts_after : ℕ → Answer → List ℕ → List ℕ
facts_after i answer before = cond (eqb answer.number 0) (part answer.values i 6) before
