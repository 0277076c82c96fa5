-- "If an answer is an enum, a definition sets out this paper's number and values for each of the enum's cases."
use Rattle.std.specs.Prelude.{ℕ, List, []}

-- the paper's number of a case, and its values
pub record Answer : Type 0 where
  pub number : ℕ
  pub values : List ℕ

-- the answer of a case that has this number and these values
abbrev pub case : ℕ → List ℕ → Answer
case number values = record { number = number; values = values }

-- "Done is 0": an answer that is no refusal, with its values
abbrev pub done : List ℕ → Answer
done values = case 0 values

-- a refusal has its number alone
abbrev pub refused : ℕ → Answer
refused n = case n []
