-- "A number is groups of seven bits, low group first, top bit set in all bytes but the last."
use Rattle.std.specs.Prelude.{ℕ, zero, suc, ◌+◌, ◌-◌, ◌*◌, ◌/◌, ◌%◌, List, [], ◌∷◌, Bool, true, false, cond, not, ◌&&◌, length, leb, ltb, eqb}
use Rattle.formats.specs.Answer.{Answer, done, refused}
use Rattle.formats.specs.Part.{put}
use Rattle.requests.specs.declared.read.Read.{Read}

-- the groups of n, at most suc k of them; `last` says that n is below 128, so that it is a single group
unfoldable pub groups_in : ℕ → Bool → ℕ → List ℕ
groups_in zero last n = n ∷ []
groups_in (suc k) true n = n ∷ []
groups_in (suc k) false n = (128 + n % 128) ∷ groups_in k (ltb (n / 128) 128) (n / 128)

-- the written form of n, whatever its size: n has at most n + 1 groups
unfoldable pub groups : ℕ → List ℕ
groups n = groups_in n (ltb n 128) n

-- what reading finds: a number and the count of its bytes, or a refusal, 1 or 2
pub data NumberRead : Type 0 where
  Number : ℕ → ℕ → NumberRead
  Refused : ℕ → NumberRead

-- what writing answers: the count of bytes written, or a refusal
pub data Written : Type 0 where
  Wrote : ℕ → Written
  NotWritten : ℕ → Written

-- what was read, with one more group in front of it
abbrev pub with_group : ℕ → NumberRead → NumberRead
with_group low (Number v k) = Number (low + 128 * v) (k + 1)
with_group low (Refused w) = Refused w

-- what reading finds in groups, however many there are; `only` says that no group stands before them:
-- 1 where the bytes end inside the number, 2 where its last group is 0 and not the only one, which is not the shortest form
unfoldable pub read_groups : Bool → List ℕ → NumberRead
read_groups only [] = Refused 1
read_groups only (b ∷ s) =
    cond (ltb b 128)
    (cond (not only && eqb b 0) (Refused 2) (Number b 1))
    (with_group (b - 128) (read_groups false s))

-- whether a byte other than 01h follows k bytes with the top bit set
unfoldable pub exceeds : ℕ → List ℕ → Bool
exceeds zero [] = false
exceeds zero (b ∷ s) = not (eqb b 1)
exceeds (suc k) [] = false
exceeds (suc k) (b ∷ s) = leb 128 b && exceeds k s

-- "A tenth byte other than 01h is 2, and nothing after it counts":
-- what reading finds at the front of s, a number and the count of its bytes, or a refusal
unfoldable pub read_number : List ℕ → NumberRead
read_number s = cond (exceeds 9 s) (Refused 2) (read_groups true s)

-- the values of a number that the code read: itself and the count of its bytes
abbrev pub number_values : Read ℕ → List ℕ
number_values n = n.value ∷ n.len ∷ []

-- the value of what the code wrote: the count of its bytes
abbrev pub count_values : ℕ → List ℕ
count_values n = n ∷ []

-- the paper's number and values of each case of a reading: the number and the count of its bytes
abbrev pub number_answer : NumberRead → Answer
number_answer (Number v k) = done (v ∷ k ∷ [])
number_answer (Refused w) = refused w

-- and of each case of a writing: the count of bytes written
abbrev pub written_answer : Written → Answer
written_answer (Wrote n) = done (n ∷ [])
written_answer (NotWritten w) = refused w

-- "1 .. the buffer for a written request is too short"; "done, it changes the first n bytes and answers n":
-- the answer of writing the bytes w into a buffer `out`
unfoldable pub writing : List ℕ → List ℕ → Written
writing w out = cond (ltb (length out) (length w)) (NotWritten 1) (Wrote (length w))

-- and that buffer afterwards
unfoldable pub written_to : List ℕ → List ℕ → List ℕ
written_to w out = cond (ltb (length out) (length w)) out (put out 0 w)
