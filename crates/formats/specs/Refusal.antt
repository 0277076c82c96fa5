-- Refusals: the paper's numbers of them, and of what answers one or is done.
use Rattle.std.specs.Prelude.{ℕ, List, Bool, true, false, Result, Ok, Err}
use Rattle.formats.specs.Answer.{Answer, done, refused}
use Rattle.formats.specs.declared.refusal.Refusal.{Refusal}
use Rattle.formats.specs.declared.refusal.Refusal.TheVariants.{TooShort, Number, Kind, ContentId, EntryNumber, Facts, Ledger, Titles, Rules, KindOfEntry, StateOfRow, NothingLeft, Hash, CopyOut, PermitsFull, Filler, Basket, Scratch}

-- the paper's number of a refusal
abbrev pub number_of : Refusal → ℕ
number_of TooShort = 1
number_of Number = 2
number_of Kind = 3
number_of ContentId = 4
number_of EntryNumber = 5
number_of Facts = 6
number_of Ledger = 7
number_of Titles = 8
number_of Rules = 9
number_of KindOfEntry = 10
number_of StateOfRow = 11
number_of NothingLeft = 12
number_of Hash = 13
number_of CopyOut = 14
number_of PermitsFull = 15
number_of Filler = 16
number_of Basket = 17
number_of Scratch = 18

-- "Done is 0": the number that stands for an answer
abbrev pub answer_number : {A : Type 0} → Result A Refusal → ℕ
answer_number (Ok a) = 0
answer_number (Err w) = number_of w

-- the paper's number and values of each case of an answer, where done has the values of what it found
abbrev pub answer_of : {A : Type 0} → (A → List ℕ) → Result A Refusal → Answer
answer_of values (Ok a) = done (values a)
answer_of values (Err w) = refused (number_of w)

-- "Done is 0": 0 where the test passes, else the refusal
abbrev pub refused_unless : Bool → ℕ → ℕ
refused_unless true w = 0
refused_unless false w = w
