-- How many bytes a request within its limits is written in, at most: those of the kind and of each argument at its longest.
-- Assumes nothing.
use Rattle.std.proofs.Common.{ℕ, suc, ◌+◌, ◌^◌, ◌≤◌, ◌<◌, ◌≡◌, List, [], ◌∷◌, ◌++◌, ap, ◌∙◌, arith, length, take, length-append}
use mathlib.Core.Bool.{Bool, true, false, cond}
use borrow.Author.Tests.{leb-true, ltb-true}
use lib.Dec.{leb, eqb}
use Rattle.formats.proofs.Tests.{split, passed}
use Rattle.requests.specs.Number.{groups}
use Rattle.requests.specs.Request.{limit, kind_limit, schema, kind_of, values_of, numbers, written, first_limit, limit_of}
use Rattle.requests.specs.Forms.{Below}
use Rattle.requests.specs.Values.{written_numbers}
use Rattle.requests.specs.declared.request.Argument.{Argument}
use Rattle.requests.specs.declared.request.Argument.TheVariants.{Content, Entry, Cci, Trigger, Rights, Permits, Key, Any}
use Rattle.requests.proofs.number.Laws.{groups_last}
use Rattle.requests.proofs.number.Lengths.{groups_within, at_most_ten}
use lib.Seq.{take_all}
use Rattle.requests.specs.declared.request.Request.{Request}
use Rattle.requests.proofs.request.Laws.{limits_split, values_size, kind_passes_lem}
use Rattle.requests.proofs.request.Loops.{written_parts, written_length}

-- the bytes of each argument at its longest
longest : Argument → ℕ
longest Content = 2
longest Entry = 2
longest Cci = 1
longest Trigger = 1
longest Rights = 1
longest Permits = 1
longest Key = 8
longest Any = 10

argument_within : (a : Argument) (v : ℕ) → limit a v ≡ 0 → v < 2 ^ 64 → length (groups v) ≤ longest a
unfolding longest
argument_within Content v z b = let t = split (leb 1 v) (leb v 999) (passed _ 4 (omega arith) z) in groups_within 1 v (omega (arith, leb-true v 999 t.1))
argument_within Entry v z b = let t = split (leb 1 v) (leb v 999) (passed _ 5 (omega arith) z) in groups_within 1 v (omega (arith, leb-true v 999 t.1))
argument_within Cci v z b = let t = split (leb v 3) _ (passed _ 6 (omega arith) z) in groups_within 0 v (omega (arith, leb-true v 3 t.0))
argument_within Trigger v z b = groups_within 0 v (omega (arith, leb-true v 1 (passed _ 6 (omega arith) z)))
argument_within Rights v z b = groups_within 0 v (omega (arith, leb-true v 15 (passed _ 6 (omega arith) z)))
argument_within Permits v z b = groups_within 0 v (omega (arith, leb-true v 15 (passed _ 6 (omega arith) z)))
argument_within Key v z b = groups_within 7 v (omega (arith, ltb-true v (2 ^ 56) (passed _ 6 (omega arith) z)))
argument_within Any v z b = at_most_ten v b

total : List Argument → ℕ
total [] = 0
total (a ∷ rest) = longest a + total rest

arguments_within : (sch : List Argument) (vs : List ℕ) → first_limit sch vs ≡ 0 → Below vs → length (numbers (take (length sch) vs)) ≤ total sch
unfolding total numbers
arguments_within [] vs z b = omega arith
arguments_within (a ∷ rest) [] z b = omega arith
arguments_within (a ∷ rest) (v ∷ vs) z b =
    let l = limits_split a rest v vs z in
    omega (arith, length-append (groups v) (numbers (take (length rest) vs)), argument_within a v l.0 (b 0), arguments_within rest vs l.1 (λ j. b (suc j)))

total_cond : (t : Bool) (a b : List Argument) → total a ≤ 52 → total b ≤ 52 → total (cond t a b) ≤ 52
total_cond true a b p q = p
total_cond false a b p q = q

schema_within : (k : ℕ) → total (schema k) ≤ 52
unfolding schema total longest
schema_within k =
    total_cond (eqb k 1) _ _ (omega arith)
    (total_cond (eqb k 2) _ _ (omega arith)
    (total_cond (eqb k 3) _ _ (omega arith)
    (total_cond (eqb k 4) _ _ (omega arith)
    (total_cond (eqb k 5) _ _ (omega arith)
    (total_cond (eqb k 6) _ _ (omega arith) (total_cond (eqb k 7) _ _ (omega arith) (omega arith)))))))

pub numbers_within : (k : ℕ) (vs : List ℕ) → kind_limit k ≡ 0 → first_limit (schema k) vs ≡ 0 → Below vs → length (written_numbers k vs) ≤ 53
numbers_within k vs p z b =
    let t = split (leb 1 k) (leb k 7) (passed _ 3 (omega arith) p) in
    omega (arith, written_length k vs, ap length (groups_last k (omega (arith, leb-true k 7 t.1))), arguments_within (schema k) vs z b, schema_within k)

-- the same of a request
written_again : (q : Request) → written_numbers (kind_of q) (values_of q) ≡ written q
unfolding written numbers
written_again q =
    written_parts (kind_of q) (values_of q)
    ∙ ap (λ (vs : List ℕ). groups (kind_of q) ++ numbers vs) (take_all (length (schema (kind_of q))) (values_of q) (omega (arith, values_size q)))

pub request_within : (q : Request) → limit_of q ≡ 0 → Below (values_of q) → length (written q) ≤ 53
unfolding limit_of
request_within q z b = omega (arith, ap length (written_again q), numbers_within (kind_of q) (values_of q) (kind_passes_lem q) z b)
