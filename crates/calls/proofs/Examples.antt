-- The ten examples of the paper's table, and document 02's of a check-out.
-- Assumes nothing.
use Prim.Native.Nat.{ℕ, ◌≤◌, ◌<◌}
use mathlib.Core.Path.{◌≡◌, refl, sym, ap, ◌∙◌}
use mathlib.Core.Logic.{◌≢◌, inl, inr}
use mathlib.Core.List.{List, ◌++◌}
use mathlib.Core.Bool.{Bool, true, false, not, ◌&&◌, ◌||◌, true≢false}
use native.Mathlib.Omega.{arith}
use native.Mathlib.Decide.{ℕ_discrete}
use lib.Dec.{leb, eqb}
use lib.ListN.{length, get_or}
use borrow.Author.Tests.{eq-eqb}
use Rattle.formats.specs.declared.head.Pair.{Pair}
use Rattle.formats.specs.Field.{number, bytes_of}
use Rattle.formats.specs.Half.{half_bytes, flag_of, usable_of, id_of}
use Rattle.formats.specs.Title.{cci_of, title_half}
use Rattle.formats.specs.Entry.{kind_of}
use Rattle.formats.specs.Head.{rules_pass, rules_application, ledger_application}
use Rattle.requests.specs.Number.{groups_in, groups, read_groups, exceeds, read_number}
use Rattle.requests.specs.Request.{kind_of as call_of, numbers as numbers_in, written, read_request, read_arguments, schema, request_of}
use Rattle.formats.specs.declared.facts.EntryNumber.{EntryNumber}
use Rattle.formats.specs.declared.entry.EntryKind.TheVariants.{Torn}
use Rattle.requests.specs.declared.request.Request.{Request}
use Rattle.requests.specs.declared.request.Request.TheVariants.{Register, Record, CheckOut, CheckIn, MoveOut, MoveIn, Delete}
use Rattle.formats.proofs.Tests.{both, and_false, refuted}
use Rattle.formats.proofs.entry.Laws.{kind_copy, torn_cci, torn_ids}
use Rattle.formats.proofs.head.Laws.{ledger_passes_lem, titles_pass_lem, table_head_lem, rules_head, rules_pass_lem}
use Rattle.calls.specs.Count.{one_less, one_more}
use Rattle.calls.specs.Buffers.{Buffers, row_facts, content_at}
use Rattle.calls.specs.Effect.{copy_cci}
use Rattle.calls.specs.Conditions.{all_head_conditions, state_conditions, conditions}
use Rattle.calls.specs.Perform.{perform}
use Rattle.calls.specs.Needs.{MetBelow, needs_of}
use Rattle.calls.specs.Examples.{E1, E2, E3, E4, E5, ChecksOut, OneGeneration, Moves, E6, E7, E8, ChecksIn, E9, E10, TenExamples}
use Rattle.calls.proofs.Refusals.{of_first, meets, refused_by, holds_not, fails_so}
use Rattle.calls.proofs.Limits.{after_arguments}
use Rattle.calls.proofs.Done.{work_is_done}

example_1 : E1
unfolding groups groups_in read_number read_groups exceeds
example_1 = ((refl, refl), (refl, refl), (refl, refl))

example_2 : E2
unfolding read_number read_groups exceeds
example_2 = (λ rest. refl, refl)

example_3 : E3
unfolding groups groups_in read_number read_groups exceeds
example_3 = ((refl, refl), λ rest. refl)

example_4 : E4
unfolding groups groups_in read_number read_groups exceeds numbers_in written read_request read_arguments schema request_of
example_4 = (refl, refl)

example_5 : E5
unfolding title_half half_bytes bytes_of number
example_5 =
    record {
      written = refl;
      copy = kind_copy 2 0x11223344556677 999 (omega arith) (omega arith) (omega arith) (λ e. omega arith);
      cci_read = refl;
      key_read = refl;
      id_read = refl;
    }

-- a CCI of which the copy's is `first`
checks_out : (cci first : ℕ) → copy_cci cci ≡ first → first < 4 → ChecksOut cci first
unfolding title_half half_bytes
checks_out cci first e small pair b c j are_bytes n is =
    let w = work_is_done pair (CheckOut c j) b in
    let l = w.leaves are_bytes n in
    let f = row_facts b c.0 in
    let made : copy_cci f.cci ≡ first = ap copy_cci is ∙ e in
    (w.answered.done n, ap (λ (t : List ℕ). get_or t 0 0) l.title_half ∙ omega arith)

pub one_generation : OneGeneration
unfolding copy_cci
one_generation =
    record {
      of_2 = checks_out 2 0x03 refl (omega arith);
      of_0 = checks_out 0 0x00 refl (omega arith);
      of_3 = checks_out 3 0x03 refl (omega arith);
    }

-- a test of which only the failing is a condition
fails : (x : Bool) → (not x || false) ≡ true → x ≡ false
fails true e = absurd (true≢false (sym e))
fails false e = refl

-- what condition 9 tests
abbrev same_application : Buffers → Bool
same_application b = eqb (rules_application b.rules) (ledger_application b.ledger)

abbrev rules_ok : Pair → Buffers → Bool
rules_ok pair b = rules_pass pair b.rules && same_application b

-- rights of which one less is `after`
moves : (before after : ℕ) → one_less before ≡ after → Moves before after
moves before after e =
    record {
      moved_out = λ pair b j h f are_bytes n are.
          let w = work_is_done pair (MoveOut j h f) b in
          let l = w.leaves are_bytes n in
          (w.answered.done n, record { here = l.row.reads; are = l.facts.rights_are ∙ ap one_less are ∙ e });
      moved_in = λ pair b c j h are_bytes n are.
          let w = work_is_done pair (MoveIn c j h) b in
          let l = w.leaves are_bytes n in
          (w.answered.done n, record { full = l.entry.full; id = l.entry.id; are = l.facts.rights_are ∙ ap one_less are ∙ e });
    }

example_6 : E6
unfolding one_less
example_6 = (moves 15 15 refl, moves 14 13 refl, moves 1 0 refl)

-- a call that is lent the card has no other condition 9
only_9 : (pair : Pair) (k : Request) (b : Buffers) → call_of k ≢ 1 → meets 9 (conditions pair k b) ≡ true → rules_ok pair b ≡ false
unfolding conditions
only_9 pair (Register c f) b lent met = absurd (lent refl)
only_9 pair (Record c j f h) b lent met = fails (rules_ok pair b) met
only_9 pair (CheckOut c j) b lent met = fails (rules_ok pair b) met
only_9 pair (CheckIn j f1) b lent met = fails (rules_ok pair b) met
only_9 pair (MoveOut j h f) b lent met = fails (rules_ok pair b) met
only_9 pair (MoveIn c j h) b lent met = fails (rules_ok pair b) met
only_9 pair (Delete j f) b lent met = fails (rules_ok pair b) met

example_7 : E7
example_7 =
    record {
      version_12 = λ pair k b lent rest version refused.
          let passes : rules_pass pair b.rules ≡ true = rules_pass_lem (record { table = table_head_lem rest.table; version = omega arith }) in
          let ok : rules_ok pair b ≡ true = both passes (eq-eqb (rules_application b.rules) (ledger_application b.ledger) rest.application) in
          true≢false (sym ok ∙ only_9 pair k b lent (refused_by pair k b 9 (λ e. omega arith) refused));
      version_10 = λ pair k b lent before version.
          let fails : rules_pass pair b.rules ≡ false = refuted (λ e. omega (arith, (rules_head e).version)) in
          let wrong : rules_ok pair b ≡ false = ap (λ (x : Bool). x && same_application b) fails in
          after_arguments pair k b lent before.until_8.its_arguments
          ∙ of_first 9 (all_head_conditions pair b ++ state_conditions pair k b) (inr (holds_not (ledger_passes_lem before.until_8.ledger), inr (holds_not (titles_pass_lem before.titles), inl (fails_so wrong, refl))));
    }

-- usable halves with two IDs, whatever the CCI
torn_by : (t r : List ℕ) → usable_of t ≡ true → usable_of r ≡ true → id_of t ≤ 999 → id_of t ≢ id_of r → kind_of t r ≡ Torn
torn_by t r t-yes r-yes in_range_lem other =
    elim (ℕ_discrete (cci_of t) 1) [ yes one ↦ torn_cci t r t-yes one | no not_one ↦ torn_ids t r t-yes in_range_lem not_one r-yes other ]

unusable : (h : List ℕ) → flag_of h ≡ true → id_of h ≡ 0 → usable_of h ≡ false
unfolding usable_of
unusable h flag none = simp (flag, none) (and_false (leb 16 (length h)))

example_8 : E8
example_8 = (
  unusable,
  λ t r t-yes r-yes x y. torn_by t r t-yes r-yes (omega arith) (λ e. omega arith),
  λ t r t-yes r-yes x y. torn_by t r t-yes r-yes (omega arith) (λ e. omega arith),
)

-- permits of which one more is `after`
checks_in : (before after : ℕ) → one_more before ≡ after → ChecksIn before after
checks_in before after e pair b j f1 are_bytes n are =
    let w = work_is_done pair (CheckIn j f1) b in
    let l = w.leaves are_bytes n in
    (w.answered.done n, record { here = l.row.here; are = l.row.facts.permits_are ∙ ap one_more are ∙ e })

-- at permits 14 it is refused
at_14 : (pair : Pair) (b : Buffers) (j : EntryNumber) (f1 : ℕ) → MetBelow 15 (needs_of pair (CheckIn j f1) b) → (row_facts b (content_at b j.0)).permits ≡ 14
    → (perform pair (CheckIn j f1) b).answer ≡ 15
at_14 pair b j f1 (entry, (ledger, (titles, (rules, (copy, (here, rest)))))) e =
    (work_is_done pair (CheckIn j f1) b).answered.refused 15 (inr (entry, inr (ledger, inr (titles, inr (rules, inr (copy, inr (here, inl (λ other. other e, refl))))))))

example_9 : E9
unfolding one_more
example_9 = record { at_13 = checks_in 13 14 refl; at_14 = at_14; at_15 = checks_in 15 15 refl }

example_10 : E10
unfolding read_number read_groups exceeds read_request
example_10 = (λ rest. refl, refl)

-- "They form one theorem of ten parts about the definitions."
pub ten_examples : TenExamples
ten_examples =
    record {
      e1 = example_1;
      e2 = example_2;
      e3 = example_3;
      e4 = example_4;
      e5 = example_5;
      e6 = example_6;
      e7 = example_7;
      e8 = example_8;
      e9 = example_9;
      e10 = example_10;
    }
