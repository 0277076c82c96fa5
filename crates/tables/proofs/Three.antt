-- Three entries looked at together: by flag and ID, and by what they are.
-- Assumes nothing.
use Prim.Native.Nat.{ℕ, ◌+◌, ◌*◌, ◌/◌, ◌≤◌, ◌<◌}
use mathlib.Core.Path.{◌≡◌, refl, sym, ap, ◌∙◌}
use mathlib.Core.Logic.{◌≢◌}
use mathlib.Core.List.{List}
use mathlib.Core.Bool.{Bool, true, false, not, ◌||◌, true≢false}
use native.Mathlib.Omega.{arith}
use lib.Dec.{eqb}
use borrow.Author.Tests.{eq-eqb, ne_eqb}
use lib.ListN.{length}
use Rattle.formats.specs.Half.{flagged_with}
use Rattle.calls.specs.Buffers.{title_at, rule_at, one, first_of, copies, first_copy, entries_searched}
use Rattle.tables.specs.Copies.{copy_at, full_at, may_hold, in_three, first_of_three}
use Rattle.calls.proofs.First.{first_at_most, first_after, none_after}
use Rattle.calls.proofs.Report.{no_copies, no_first_copy, searched_first, searched_all}
use Rattle.tables.proofs.Counting.{Counted, three, three_over, moved, not_copy, not_full}

-- neither part of an alternative that fails holds
neither : (a b : Bool) → false ≡ (a || b) → (false ≡ a) × (false ≡ b)
neither true b e = absurd (true≢false (sym e))
neither false b e = (refl, e)

few : (b : Bool) → one b ≤ 1
few true = omega arith
few false = omega arith

-- three are three at most
pub at_most_three : (t : ℕ → Bool) (j : ℕ) → in_three t j ≤ 3
unfolding in_three
at_most_three t j = omega (arith, few (t j), few (t (j + 1)), few (t (j + 2)))

-- a test that holds of no entry without the flag and the ID of c
abbrev pub NeedsFlag : ℕ → List ℕ → (ℕ → Bool) → Type 0
NeedsFlag c titles t = (i : ℕ) → false ≡ flagged_with c (title_at titles i) → false ≡ t i

pub copy_needs_flag : (c : ℕ) (titles rules : List ℕ) → NeedsFlag c titles (copy_at c titles rules)
copy_needs_flag c titles rules i = not_copy c (title_at titles i) (rule_at rules i)

pub full_needs_flag : (c : ℕ) (titles rules : List ℕ) → NeedsFlag c titles (full_at c titles rules)
full_needs_flag c titles rules i = not_full c (title_at titles i) (rule_at rules i)

module _ (c : ℕ) (titles : List ℕ) {t : ℕ → Bool} (needs : NeedsFlag c titles t) where
  -- where it may hold of none of three, it holds of none
  none_held : (j : ℕ) → false ≡ may_hold c titles j → (false ≡ t j) × ((false ≡ t (j + 1)) × (false ≡ t (j + 2)))
  unfolding may_hold
  none_held j e =
      let (_, flags) = neither (not (eqb (length titles) 16000)) (flagged_with c (title_at titles j) || (flagged_with c (title_at titles (j + 1)) || flagged_with c (title_at titles (j + 2)))) e in
      let (first, rest) = neither (flagged_with c (title_at titles j)) (flagged_with c (title_at titles (j + 1)) || flagged_with c (title_at titles (j + 2))) flags in
      let (second, third) = neither (flagged_with c (title_at titles (j + 1))) (flagged_with c (title_at titles (j + 2))) rest in
      (needs j first, (needs (j + 1) second, needs (j + 2) third))

  pub none_of_three : {k n m : ℕ} → Counted t (3 * k + 1) n → k < 333 → false ≡ may_hold c titles (3 * k + 1) → m ≡ n → Counted t (3 * (k + 1) + 1) m
  none_of_three {k} r within held e =
      let (first, (second, third)) = none_held (3 * k + 1) held in
      moved (three_over r (omega arith) first second third) (omega arith) (sym e)

-- a turn of a loop over the threes: the three from entry 3k + 1 on are counted, or, above, they hold none
pub all_three : {t : ℕ → Bool} {k n m : ℕ} → Counted t (3 * k + 1) n → k < 333 → m ≡ n + in_three t (3 * k + 1) → Counted t (3 * (k + 1) + 1) m
unfolding in_three
all_three r within e = moved (three r (omega arith)) (omega arith) (sym e)

-- the first of three, tried in turn
module _ (t : ℕ → Bool) where
  pub first_1 : t 1 ≡ true → first_of 3 t ≡ 1
  unfolding first_of
  first_1 e = rw e refl

  pub first_2 : t 1 ≡ false → t 2 ≡ true → first_of 3 t ≡ 2
  unfolding first_of
  first_2 e1 e2 = rw (e1, e2) refl

  pub first_3 : t 1 ≡ false → t 2 ≡ false → t 3 ≡ true → first_of 3 t ≡ 3
  unfolding first_of
  first_3 e1 e2 e3 = rw (e1, e2, e3) refl

  pub none_of_3 : t 1 ≡ false → t 2 ≡ false → t 3 ≡ false → first_of 3 t ≡ 0
  unfolding first_of
  none_of_3 e1 e2 e3 = rw (e1, e2, e3) refl

pub third_at_most : (c : ℕ) (titles rules : List ℕ) (n : ℕ) → first_of_three c titles rules n ≤ 3
third_at_most c titles rules n = first_at_most (λ i. copy_at c titles rules (n + i)) 3

-- a turn of a search by threes: no entry up to 3k is a copy
module _ (c : ℕ) (titles rules : List ℕ) {k : ℕ} (z : first_of (3 * k) (copy_at c titles rules) ≡ 0) (within : k < 333) where
  abbrev place : ℕ
  place = first_of_three c titles rules (3 * k)

  -- one of the next three is the first, which the search has read to
  first_is_there : place ≢ 0 → first_copy c titles rules ≡ 3 * k + place
  unfolding first_copy
  first_is_there some = first_after (copy_at c titles rules) (3 * k) z 3 999 (omega arith) some

  module _ {bytes : ℕ} (e : bytes ≡ 16 * place) where
    a_place : bytes ≢ 0 → place ≢ 0
    a_place some z = some (omega (arith, e, z))

    pub found_in_three : bytes ≢ 0 → true ≡ not (eqb (copies c titles rules) 0)
    found_in_three some =
        let first = first_is_there (a_place some) in
        sym (ap not (ne_eqb (copies c titles rules) 0 (λ none. a_place some (omega (arith, first, no_first_copy c titles rules none)))))

    pub read_to_it : bytes ≢ 0 → (48 * k + bytes) / 16 ≡ entries_searched c titles rules
    read_to_it some =
        let first = first_is_there (a_place some) in
        let read : (48 * k + bytes) / 16 ≡ first_copy c titles rules = omega (arith, e, first) in
        read ∙ sym (searched_first c titles rules (λ z. a_place some (omega (arith, first, z))))

  -- none of them is
  not_there : place ≡ 0 → first_of (3 * (k + 1)) (copy_at c titles rules) ≡ 0
  not_there z' =
      let x : 3 * k + 3 ≡ 3 * (k + 1) = omega arith in
      rw x at (none_after (copy_at c titles rules) (3 * k) z 3 z')

  pub not_in_three : {bytes : ℕ} → bytes ≡ 16 * place → bytes ≡ 0 → first_of (3 * (k + 1)) (copy_at c titles rules) ≡ 0
  not_in_three e none = not_there (omega (arith, e, none))

  -- as where none may be one
  pub none_may_be : false ≡ may_hold c titles (3 * k + 1) → first_of (3 * (k + 1)) (copy_at c titles rules) ≡ 0
  none_may_be held =
      let (first, (second, third)) = none_held c titles (copy_needs_flag c titles rules) (3 * k + 1) held in
      let second_place : 3 * k + 1 + 1 ≡ 3 * k + 2 = omega arith in
      let third_place : 3 * k + 1 + 2 ≡ 3 * k + 3 = omega arith in
      not_there (none_of_3 (λ i. copy_at c titles rules (3 * k + i)) (sym first) (rw second_place at (sym second)) (rw third_place at (sym third)))

-- the search has come to the end: no entry is a copy
module _ (c : ℕ) (titles rules : List ℕ) {k : ℕ} (z : first_of (3 * k) (copy_at c titles rules) ≡ 0) (end : k ≡ 333) where
  none_first : first_copy c titles rules ≡ 0
  unfolding first_copy
  none_first =
      let x : 3 * k ≡ 999 = omega arith in
      rw x at z

  pub none_on_card : false ≡ not (eqb (copies c titles rules) 0)
  none_on_card = sym (ap not (eq-eqb (copies c titles rules) 0 (no_copies c titles rules none_first)))

  pub all_read : 999 ≡ entries_searched c titles rules
  all_read = sym (searched_all c titles rules none_first)
