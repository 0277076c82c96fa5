-- A request as the code holds, reads and writes it: a kind, and the values of the arguments in nine places, with zeros after them.
use Rattle.std.specs.Prelude.{ℕ, ◌-◌, ◌≡◌, List, [], ◌∷◌, ◌++◌, Option, None, Some, cond, length, take, replicate, eqb}
use Rattle.formats.specs.Answer.{Answer, done, refused}
use Rattle.requests.specs.Number.{Written, NotWritten}
use Rattle.requests.specs.Request.{schema, kind_passes, kind_limit, kind_of, values_of, request_of, numbers, RequestRead, Read, Refused, writing_request, request_written_to}
use Rattle.requests.specs.declared.request.Request.{Request}

-- values, and zeros up to the nth place
unfoldable pub filled : ℕ → List ℕ → List ℕ
filled n vs = vs ++ replicate (n - length vs) 0

-- a request's kind, and its values in nine places
pub record Holds (q : Request) (kind : ℕ) (values : List ℕ) : Type 0 where
  pub kind_is : kind ≡ kind_of q
  pub values_are : values ≡ filled 9 (values_of q)

-- the request that numbers are: none where the kind is not 1 to 7
unfoldable pub request_in : ℕ → List ℕ → Option Request
request_in kind values = cond (kind_passes kind) (Some (request_of kind values)) None

-- the paper's number and value of each case of reading a request into places for its numbers: the count of its bytes
abbrev pub length_answer : RequestRead → Answer
length_answer (Read q k) = done (k ∷ [])
length_answer (Refused w) = refused w

-- and those places afterwards: its kind, and its arguments in their order with zeros up to nine; on a refusal, what stood there before
abbrev pub kind_after : RequestRead → ℕ → ℕ
kind_after (Read q k) before = kind_of q
kind_after (Refused w) before = before

abbrev pub values_after : RequestRead → List ℕ → List ℕ
values_after (Read q k) before = filled 9 (values_of q)
values_after (Refused w) before = before

-- the written form of a kind and its values, whatever stands behind them
unfoldable pub written_numbers : ℕ → List ℕ → List ℕ
written_numbers kind values = numbers (kind ∷ take (length (schema kind)) values)

-- "Writing tests 3 to 6, then 1", of a kind that is any number, so that 3 is tested here
unfoldable pub writing_numbers : ℕ → List ℕ → List ℕ → Written
writing_numbers kind values out =
    cond (eqb (kind_limit kind) 0) (writing_request (request_of kind values) out) (NotWritten (kind_limit kind))

-- "done, it changes the first n bytes": the buffer afterwards
unfoldable pub numbers_written_to : ℕ → List ℕ → List ℕ → List ℕ
numbers_written_to kind values out = cond (eqb (kind_limit kind) 0) (request_written_to (request_of kind values) out) out
