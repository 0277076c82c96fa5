-- Demand 1 of reading and of writing a request, in the form in which it is said of the calls: their tests as conditions.
use Rattle.std.specs.Prelude.{ℕ, ◌≡◌, List, [], ◌∷◌, ◌++◌, Bool, false, cond, length, get_or, drop, ltb, eqb}
use Rattle.formats.specs.Answer.{done}
use Rattle.formats.specs.Bytes.{Bytes}
use Rattle.formats.specs.Part.{put}
use Rattle.requests.specs.Number.{NumberRead, Number, Refused, read_number, written_answer}
use Rattle.requests.specs.Request.{refusal_of, kind_passes, schema, kind_of, values_of, written, limit_of, read_request, request_answer, remainder_of, writing_request, request_written_to}
use Rattle.requests.specs.declared.request.Argument.{Argument}
use Rattle.requests.specs.declared.request.Argument.TheVariants.{Content, Entry, Cci, Trigger, Rights, Permits, Key, Any}
use Rattle.requests.specs.declared.request.Request.{Request}
use Rattle.calls.specs.Refusal.{Condition, ◌when◌, ◌unless◌, first, RefusedFirst}
use Rattle.calls.specs.Conditions.{◌limits◌, argument_conditions}

-- THE CONDITIONS

-- 4, 5 or 6 of one argument, none of an argument without a limit
abbrev pub limit_conditions : Argument → ℕ → List Condition
limit_conditions a v = cond (eqb (refusal_of a) 0) [] (a limits v ∷ [])

-- 1 and 2 of the number at the front of bytes: it is refused with that number, which `NumberRefused` says of the bytes
abbrev pub is_refused : ℕ → NumberRead → Bool
is_refused w (Number v k) = false
is_refused w (Refused n) = eqb n w

abbrev pub number_conditions : List ℕ → List Condition
number_conditions s = 1 when is_refused 1 (read_number s) ∷ 2 when is_refused 2 (read_number s) ∷ []

-- its value, and the bytes after it; of bytes that are no number these do not matter, since 1 or 2 was tested before
abbrev pub value_read : NumberRead → ℕ
value_read (Number v k) = v
value_read (Refused w) = 0

abbrev pub bytes_after : List ℕ → NumberRead → List ℕ
bytes_after s (Number v k) = drop k s
bytes_after s (Refused w) = s

-- "Each number is tested for 1, for 2 and for its own limit (3 to 6) before the next is read."
unfoldable pub arguments_conditions : List Argument → List ℕ → List Condition
arguments_conditions [] s = []
arguments_conditions (a ∷ rest) s =
    number_conditions s ++ (limit_conditions a (value_read (read_number s)) ++ arguments_conditions rest (bytes_after s (read_number s)))

-- "3 kind not 1 to 7"
abbrev pub kind_condition : ℕ → Condition
kind_condition kind = 3 unless kind_passes kind

-- of a request at the front of s, its kind first
unfoldable pub reading_conditions : List ℕ → List Condition
reading_conditions s =
    number_conditions s
    ++ (kind_condition (value_read (read_number s)) ∷ arguments_conditions (schema (value_read (read_number s))) (bytes_after s (read_number s)))

-- of the values of a request that is to be written: "Writing tests 3 to 6, then 1"
unfoldable pub values_conditions : List Argument → List ℕ → List Condition
values_conditions [] vs = []
values_conditions (a ∷ rest) [] = []
values_conditions (a ∷ rest) (v ∷ vs) = limit_conditions a v ++ values_conditions rest vs

unfoldable pub writing_conditions : Request → List ℕ → List Condition
writing_conditions q out = values_conditions (schema (kind_of q)) (values_of q) ++ (1 when ltb (length out) (length (written q)) ∷ [])

-- THE NUMBERS in their order

abbrev pub limit_numbers : Argument → List ℕ
limit_numbers Content = 4 ∷ []
limit_numbers Entry = 5 ∷ []
limit_numbers Cci = 6 ∷ []
limit_numbers Trigger = 6 ∷ []
limit_numbers Rights = 6 ∷ []
limit_numbers Permits = 6 ∷ []
limit_numbers Key = 6 ∷ []
limit_numbers Any = []

abbrev pub arguments_numbers : List Argument → List ℕ
arguments_numbers [] = []
arguments_numbers (a ∷ rest) = 1 ∷ 2 ∷ (limit_numbers a ++ arguments_numbers rest)

abbrev pub values_numbers : List Argument → List ℕ
values_numbers [] = []
values_numbers (a ∷ rest) = limit_numbers a ++ values_numbers rest

-- THE STATEMENTS

-- reading: "on a refusal the remainder is all of them", and else what stands after the request
abbrev pub Reads : List ℕ → Type 0
Reads s =
    RefusedFirst (List ℕ) (1 ∷ 2 ∷ 3 ∷ arguments_numbers (schema (value_read (read_number s)))) (reading_conditions s) (request_answer (read_request s)).number
    s (remainder_of s (read_request s)) (drop (get_or (request_answer (read_request s)).values 0 0) s)

-- writing: "done, it changes the first n bytes and answers n"
pub record Writes (q : Request) (out : List ℕ) : Type 0 where
  pub refused_first : RefusedFirst (List ℕ) (values_numbers (schema (kind_of q)) ++ (1 ∷ [])) (writing_conditions q out) (written_answer (writing_request q out)).number
      out (request_written_to q out) (put out 0 (written q))
  pub answers_length : (written_answer (writing_request q out)).number ≡ 0 → written_answer (writing_request q out) ≡ done (length (written q) ∷ [])
  pub same_length : length (request_written_to q out) ≡ length out
  pub stays_bytes : Bytes out → Bytes (request_written_to q out)

-- DEMAND 1, of requests
pub record Demand1Requests : Type 0 where
  pub reading : (s : List ℕ) → Reads s
  pub writing : (q : Request) (out : List ℕ) → Writes q out
  -- 4 to 6 of a call are the limits of its request
  pub same_limits : (k : Request) → first (argument_conditions k) ≡ limit_of k
