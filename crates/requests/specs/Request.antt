-- "A request is its kind and its arguments in the order above."
use Rattle.std.specs.Prelude.{ℕ, ◌+◌, List, [], ◌∷◌, ◌++◌, Bool, true, ◌&&◌, cond, get_or, drop, leb, eqb, Result, Ok, Err}
use Rattle.formats.specs.Answer.{Answer, done, refused}
use Rattle.formats.specs.Facts.{fact_values, numbered, cci_passes, trigger_passes, count_passes, key_passes}
use Rattle.requests.specs.Number.{NumberRead, Number, Refused as NoNumber, Written, NotWritten, groups, read_number, writing, written_to}
use Rattle.formats.specs.Refusal.{refused_unless, number_of}
use Rattle.formats.specs.declared.refusal.Refusal.{Refusal}
use Rattle.formats.specs.declared.facts.Facts.{Facts}
use Rattle.formats.specs.declared.facts.Fillers.{Fillers}
use Rattle.requests.specs.declared.request.Argument.{Argument}
use Rattle.requests.specs.declared.request.Argument.TheVariants.{Content, Entry, Cci, Trigger, Rights, Permits, Key, Any}
use Rattle.requests.specs.declared.request.Request.{Request}
use Rattle.requests.specs.declared.request.Request.TheVariants.{Register, Record, CheckOut, CheckIn, MoveOut, MoveIn, Delete}
use Rattle.requests.specs.declared.read.Read.{Read as Found}

-- what a value must be in order to pass as an argument: c and j "1 to 999", the facts in their ranges; "f1 to f4 are 64-bit fillers,
-- h a 64-bit C_HASH", which have no limit of their own
abbrev pub passes : Argument → ℕ → Bool
passes Content v = numbered v
passes Entry v = numbered v
passes Cci v = cci_passes v
passes Trigger v = trigger_passes v
passes Rights v = count_passes v
passes Permits v = count_passes v
passes Key v = key_passes v
passes Any v = true

-- the number of a value that does not: "4 c not 1 to 999 .. 5 j not 1 to 999 .. 6 CCI 1 or above 3, trigger above 1, rights or
-- permits above 15, a key of 2^56 or more"; 0 of an argument without a limit
abbrev pub refusal_of : Argument → ℕ
refusal_of Content = 4
refusal_of Entry = 5
refusal_of Cci = 6
refusal_of Trigger = 6
refusal_of Rights = 6
refusal_of Permits = 6
refusal_of Key = 6
refusal_of Any = 0

-- the refusal of the value v for an argument, 0 where it is within its limit
abbrev pub limit : Argument → ℕ → ℕ
limit a v = refused_unless (passes a v) (refusal_of a)

-- "Facts are CCI, trigger, rights, permits, title key, STI key"
abbrev pub fact_arguments : List Argument
fact_arguments = Cci ∷ Trigger ∷ Rights ∷ Permits ∷ Key ∷ Key ∷ []

-- the arguments of each kind: 1 register (c, facts), 2 record (c, j, facts, h), 3 check-out (c, j), 4 check-in (j, f1),
-- 5 move out (j, h, f1-f4), 6 move in (c, j, h), 7 delete (j, f1-f4)
unfoldable pub schema : ℕ → List Argument
schema kind =
    cond (eqb kind 1) (Content ∷ fact_arguments)
    (cond (eqb kind 2) (Content ∷ Entry ∷ (fact_arguments ++ (Any ∷ [])))
    (cond (eqb kind 3) (Content ∷ Entry ∷ [])
    (cond (eqb kind 4) (Entry ∷ Any ∷ [])
    (cond (eqb kind 5) (Entry ∷ Any ∷ Any ∷ Any ∷ Any ∷ Any ∷ [])
    (cond (eqb kind 6) (Content ∷ Entry ∷ Any ∷ [])
    (cond (eqb kind 7) (Entry ∷ Any ∷ Any ∷ Any ∷ Any ∷ []) []))))))

-- "3 kind not 1 to 7"
abbrev pub kind_passes : ℕ → Bool
kind_passes kind = leb 1 kind && leb kind 7

abbrev pub kind_limit : ℕ → ℕ
kind_limit kind = refused_unless (kind_passes kind) 3

-- the kind of a request, and the values of its arguments
abbrev pub kind_of : Request → ℕ
kind_of (Register c f) = 1
kind_of (Record c j f h) = 2
kind_of (CheckOut c j) = 3
kind_of (CheckIn j f) = 4
kind_of (MoveOut j h f) = 5
kind_of (MoveIn c j h) = 6
kind_of (Delete j f) = 7

abbrev pub filler_values : Fillers → List ℕ
filler_values f = f.f1 ∷ f.f2 ∷ f.f3 ∷ f.f4 ∷ []

abbrev pub values_of : Request → List ℕ
values_of (Register c f) = c.0 ∷ fact_values f
values_of (Record c j f h) = c.0 ∷ j.0 ∷ (fact_values f ++ (h ∷ []))
values_of (CheckOut c j) = c.0 ∷ j.0 ∷ []
values_of (CheckIn j f) = j.0 ∷ f ∷ []
values_of (MoveOut j h f) = j.0 ∷ h ∷ filler_values f
values_of (MoveIn c j h) = c.0 ∷ j.0 ∷ h ∷ []
values_of (Delete j f) = j.0 ∷ filler_values f

-- the facts, and the fillers, that stand in a list of values from place i on
abbrev pub facts_from : List ℕ → ℕ → Facts
facts_from vs i =
    record {
      cci = get_or vs i 0;
      trigger = get_or vs (i + 1) 0;
      rights = get_or vs (i + 2) 0;
      permits = get_or vs (i + 3) 0;
      title_key = get_or vs (i + 4) 0;
      sti_key = get_or vs (i + 5) 0;
    }

abbrev pub fillers_from : List ℕ → ℕ → Fillers
fillers_from vs i = record { f1 = get_or vs i 0; f2 = get_or vs (i + 1) 0; f3 = get_or vs (i + 2) 0; f4 = get_or vs (i + 3) 0 }

-- the request of a kind from 1 to 7 with these values
unfoldable pub request_of : ℕ → List ℕ → Request
request_of kind vs =
    cond (eqb kind 1) (Register (record { 0 = get_or vs 0 0 }) (facts_from vs 1))
    (cond (eqb kind 2) (Record (record { 0 = get_or vs 0 0 }) (record { 0 = get_or vs 1 0 }) (facts_from vs 2) (get_or vs 8 0))
    (cond (eqb kind 3) (CheckOut (record { 0 = get_or vs 0 0 }) (record { 0 = get_or vs 1 0 }))
    (cond (eqb kind 4) (CheckIn (record { 0 = get_or vs 0 0 }) (get_or vs 1 0))
    (cond (eqb kind 5) (MoveOut (record { 0 = get_or vs 0 0 }) (get_or vs 1 0) (fillers_from vs 2))
    (cond (eqb kind 6) (MoveIn (record { 0 = get_or vs 0 0 }) (record { 0 = get_or vs 1 0 }) (get_or vs 2 0))
    (Delete (record { 0 = get_or vs 0 0 }) (fillers_from vs 1)))))))

-- numbers one after the other, each in its written form
unfoldable pub numbers : List ℕ → List ℕ
numbers [] = []
numbers (v ∷ vs) = groups v ++ numbers vs

-- the written form of a request
unfoldable pub written : Request → List ℕ
written q = numbers (kind_of q ∷ values_of q)

-- the first limit that a list of values meets, 0 where there is none
unfoldable pub first_limit : List Argument → List ℕ → ℕ
first_limit [] vs = 0
first_limit (a ∷ rest) [] = 0
first_limit (a ∷ rest) (v ∷ vs) = cond (eqb (limit a v) 0) (first_limit rest vs) (limit a v)

-- "Writing tests 3 to 6": the first limit that a request's arguments meet; its kind is one of the seven
unfoldable pub limit_of : Request → ℕ
limit_of q = first_limit (schema (kind_of q)) (values_of q)

-- what reading a list of arguments finds: the values and the count of their bytes, or a refusal
pub data ArgumentsRead : Type 0 where
  Values : List ℕ → ℕ → ArgumentsRead
  Fault : ℕ → ArgumentsRead

-- a value of k bytes in front of what was read after it
abbrev pub with_value : ℕ → ℕ → ArgumentsRead → ArgumentsRead
with_value v k (Values vs n) = Values (v ∷ vs) (k + n)
with_value v k (Fault w) = Fault w

-- what comes of the number at the front of the bytes: its own refusal, or what follows from its value and length
abbrev pub on_number : NumberRead → (ℕ → ℕ → ArgumentsRead) → ArgumentsRead
on_number (Number v k) next = next v k
on_number (NoNumber w) next = Fault w

-- "Each number is tested for 1, for 2 and for its own limit (3 to 6) before the next is read."
unfoldable pub read_arguments : List Argument → List ℕ → ArgumentsRead
read_arguments [] s = Values [] 0
read_arguments (a ∷ rest) s =
    on_number (read_number s) (λ v k. cond (eqb (limit a v) 0) (with_value v k (read_arguments rest (drop k s))) (Fault (limit a v)))

-- what reading a request finds: the request and the count of its bytes, or a refusal, 1 to 6
pub data RequestRead : Type 0 where
  Read : Request → ℕ → RequestRead
  Refused : ℕ → RequestRead

abbrev pub as_request : ℕ → ℕ → ArgumentsRead → RequestRead
as_request kind k (Values vs n) = Read (request_of kind vs) (k + n)
as_request kind k (Fault w) = Refused w

abbrev pub on_kind : NumberRead → (ℕ → ℕ → RequestRead) → RequestRead
on_kind (Number v k) next = next v k
on_kind (NoNumber w) next = Refused w

-- what reading finds at the front of s: a request and the count of its bytes, or a refusal
unfoldable pub read_request : List ℕ → RequestRead
read_request s =
    on_kind (read_number s)
    (λ kind k. cond (eqb (kind_limit kind) 0) (as_request kind k (read_arguments (schema kind) (drop k s))) (Refused (kind_limit kind)))

-- the values of a request that the code read: the count of its bytes, its kind and its arguments
abbrev pub request_values : Found Request → List ℕ
request_values r = r.len ∷ kind_of r.value ∷ values_of r.value

-- what the code's answer says was found
abbrev pub reading_of : Result (Found Request) Refusal → RequestRead
reading_of (Ok r) = Read r.value r.len
reading_of (Err w) = Refused (number_of w)

-- the paper's number and values of each case of reading a request: the count of its bytes, its kind and its arguments
abbrev pub request_answer : RequestRead → Answer
request_answer (Read q k) = done (k ∷ kind_of q ∷ values_of q)
request_answer (Refused w) = refused w

-- "A read request comes with the unread remainder ..; on a refusal the remainder is all of them."
abbrev pub remainder_of : List ℕ → RequestRead → List ℕ
remainder_of s (Read q k) = drop k s
remainder_of s (Refused w) = s

-- "Writing tests 3 to 6, then 1; done, it changes the first n bytes and answers n."
unfoldable pub writing_request : Request → List ℕ → Written
writing_request q out = cond (eqb (limit_of q) 0) (writing (written q) out) (NotWritten (limit_of q))

unfoldable pub request_written_to : Request → List ℕ → List ℕ
request_written_to q out = cond (eqb (limit_of q) 0) (written_to (written q) out) out
