-- What a move in reports of its check for copies: by the checks before it, and by the first copy.
-- Assumes nothing.
use Prim.Native.Nat.{ℕ, ◌≤◌}
use mathlib.Core.Path.{◌≡◌, refl, sym, ap, ◌∙◌}
use mathlib.Core.Logic.{◌≢◌}
use mathlib.Core.List.{List, [], ◌∷◌}
use mathlib.Core.Bool.{Bool, cond, not, true, false, true≢false}
use native.Mathlib.Omega.{arith}
use native.Mathlib.Decide.{ℕ_discrete}
use lib.Dec.{eqb}
use borrow.Author.Tests.{eq-eqb, ne_eqb, eqb-true}
use Rattle.formats.specs.Entry.{is_copy}
use Rattle.formats.proofs.Tests.{split, both}
use Rattle.formats.specs.declared.head.Pair.{Pair}
use Rattle.formats.specs.declared.facts.ContentId.{ContentId}
use Rattle.formats.specs.declared.facts.EntryNumber.{EntryNumber}
use Rattle.requests.specs.declared.request.Request.TheVariants.{MoveIn}
use Rattle.calls.specs.Buffers.{Buffers, title_at, rule_at, kind_at, content_at, copy_of, first_of, copies, first_copy, entries_searched}
use Rattle.calls.specs.Refusal.{Condition, ◌unless◌, first, tested_before}
use Rattle.calls.specs.Conditions.{conditions}
use Rattle.calls.specs.Perform.{refusal, perform}
use Rattle.calls.specs.Report.{move_in_report, FirstCopy, Reports, MoveInReports}
use Rattle.calls.proofs.First.{first_holds, first_least, count_is_0, first_is_0, read_at_most}
use Rattle.calls.proofs.Passed.{is_copy_lem}
use Rattle.calls.proofs.Refusals.{hit, skip, end, holds, fails, first_stage, next_stage, first_most}

-- THE FIRST COPY of c on a card
module _ (c : ℕ) (titles rules : List ℕ) where
  abbrev copy_at : ℕ → Bool
  copy_at j = copy_of c (title_at titles j) (rule_at rules j)

  -- there is one exactly where the number of copies is not 0
  pub no_copies : first_copy c titles rules ≡ 0 → copies c titles rules ≡ 0
  unfolding copies first_copy
  no_copies none = count_is_0 copy_at 999 none

  pub no_first_copy : copies c titles rules ≡ 0 → first_copy c titles rules ≡ 0
  unfolding copies first_copy
  no_first_copy none = first_is_0 copy_at 999 none

  -- what a search for it reads
  searched_at_most : entries_searched c titles rules ≤ 999
  unfolding entries_searched first_copy
  searched_at_most = read_at_most copy_at 999

  pub searched_first : first_copy c titles rules ≢ 0 → entries_searched c titles rules ≡ first_copy c titles rules
  unfolding entries_searched
  searched_first some = rw (ne_eqb (first_copy c titles rules) 0 some) refl

  pub searched_all : first_copy c titles rules ≡ 0 → entries_searched c titles rules ≡ 999
  unfolding entries_searched
  searched_all none = rw (eq-eqb (first_copy c titles rules) 0 none) refl

-- THE REPORT of a move in whose checks before 14 have answered w
module _ (pair : Pair) (c : ContentId) (j : EntryNumber) (h : ℕ) (b : Buffers) {w : ℕ} (e : w ≡ first (tested_before 14 (conditions pair (MoveIn c j h) b))) where
  abbrev earlier : List Condition
  earlier = tested_before 14 (conditions pair (MoveIn c j h) b)

  abbrev last : List Condition
  last = 14 unless eqb (copies c.0 b.titles b.rules) 0 ∷ []

  abbrev read : ℕ
  read = entries_searched c.0 b.titles b.rules

  -- they refuse
  pub refused_earlier : w ≢ 0 → w ≡ refusal pair (MoveIn c j h) b
  unfolding refusal conditions
  refused_earlier some = first_stage earlier last e some

  pub nothing_read : w ≢ 0 → 0 ≡ move_in_report pair c j h b
  unfolding move_in_report
  nothing_read some =
      let none : cond (eqb (first earlier) 0) read 0 ≡ 0 = ap (λ (x : Bool). cond x read 0) (ne_eqb (first earlier) 0 (λ z. some (e ∙ z))) in
      sym none

  -- none of them does: the search for a copy decides, and it is reported
  pub by_search : w ≡ 0 → {n : ℕ} → n ≡ first last → n ≡ refusal pair (MoveIn c j h) b
  unfolding refusal conditions
  by_search zero q = next_stage earlier last refl (sym e ∙ zero) q

  pub search_read : w ≡ 0 → read ≡ move_in_report pair c j h b
  unfolding move_in_report
  search_read zero =
      let all : cond (eqb (first earlier) 0) read 0 ≡ read = ap (λ (x : Bool). cond x read 0) (eq-eqb (first earlier) 0 (sym e ∙ zero)) in
      sym all

  -- their numbers are below 14
  below_14 : w ≤ 12
  unfolding conditions
  below_14 = omega (arith, e, first_most 12 earlier refl)

-- 14, the last check, by whether a copy was found
module _ (c : ℕ) (titles rules : List ℕ) where
  pub copy_found : not (eqb (copies c titles rules) 0) ≡ true → 14 ≡ first (14 unless eqb (copies c titles rules) 0 ∷ [])
  copy_found e = hit 14 _ [] e

  pub copy_not_found : not (eqb (copies c titles rules) 0) ≡ false → 0 ≡ first (14 unless eqb (copies c titles rules) 0 ∷ [])
  copy_not_found e = skip 14 0 _ [] e end

-- THE STATEMENT
module _ (c : ℕ) (b : Buffers) where
  -- the first copy, where there is one
  first_copy_is : first_copy c b.titles b.rules ≢ 0 → FirstCopy b c (first_copy c b.titles b.rules)
  unfolding first_copy
  first_copy_is some =
      let t = copy_at c b.titles b.rules in
      let (place, holds) = first_holds t 999 some in
      let (kind, id) = split (is_copy (kind_at b (first_of 999 t))) (eqb (content_at b (first_of 999 t)) c) holds in
      record {
        on_card = place;
        is_copy = is_copy_lem _ (ap not kind);
        of_title = eqb-true _ c id;
        none_before = λ k l less kind id. true≢false (sym (both (ap is_copy kind) (eq-eqb _ c id)) ∙ first_least t 999 k l less);
      }

module _ (pair : Pair) (c : ContentId) (j : EntryNumber) (h : ℕ) (b : Buffers) where
  abbrev answer : ℕ
  answer = refusal pair (MoveIn c j h) b

  abbrev report : ℕ
  report = move_in_report pair c j h b

  -- an earlier check refuses with w
  by_earlier : (w : ℕ) → w ≢ 0 → w ≤ 12 → w ≡ answer → 0 ≡ report → Reports b c.0 answer report
  by_earlier w some few e r =
      record {
        earlier = λ refused other. sym r;
        copy_out = λ out. absurd (omega (arith, few, e, out));
        done = λ zero. absurd (some (e ∙ zero));
        at_most = omega (arith, r);
      }

  -- none does, and the search finds a copy
  with_copy : first_copy c.0 b.titles b.rules ≢ 0 → 14 ≡ answer → entries_searched c.0 b.titles b.rules ≡ report → Reports b c.0 answer report
  with_copy some e r =
      record {
        earlier = λ refused other. absurd (other (sym e));
        copy_out = λ out. rw (sym (searched_first c.0 b.titles b.rules some) ∙ r) at (first_copy_is c.0 b some);
        done = λ zero. absurd (omega (arith, e, zero));
        at_most = omega (arith, r, searched_at_most c.0 b.titles b.rules);
      }

  -- or none
  without : first_copy c.0 b.titles b.rules ≡ 0 → 0 ≡ answer → entries_searched c.0 b.titles b.rules ≡ report → Reports b c.0 answer report
  without none e r =
      record {
        earlier = λ refused other. absurd (refused (sym e));
        copy_out = λ out. absurd (omega (arith, e, out));
        done = λ zero. sym r ∙ searched_all c.0 b.titles b.rules none;
        at_most = omega (arith, r, searched_at_most c.0 b.titles b.rules);
      }

  reports : Reports b c.0 (perform pair (MoveIn c j h) b).answer (move_in_report pair c j h b)
  unfolding perform
  reports = by (ℕ_discrete w 0) (ℕ_discrete (copies c.0 b.titles b.rules) 0)
    where
      w : ℕ
      w = first (tested_before 14 (conditions pair (MoveIn c j h) b))

      by : Dec (w ≡ 0) → Dec (copies c.0 b.titles b.rules ≡ 0) → Reports b c.0 answer report
      by (no some) _ = by_earlier w some (below_14 pair c j h b refl) (refused_earlier pair c j h b refl some) (nothing_read pair c j h b refl some)
      by (yes zero) (yes none) =
          without (no_first_copy c.0 b.titles b.rules none) (by_search pair c j h b refl zero (holds 14 _ [] (eq-eqb _ 0 none) end)) (search_read pair c j h b refl zero)
      by (yes zero) (no some) =
          with_copy (λ z. some (no_copies c.0 b.titles b.rules z)) (by_search pair c j h b refl zero (fails 14 _ [] (λ e. some (eqb-true _ 0 e)))) (search_read pair c j h b refl zero)

pub move_in_reports : MoveInReports
move_in_reports = record { reports = reports; first_where_some = λ c titles rules some z. some (no_copies c titles rules z); no_first_where_none = no_first_copy }
