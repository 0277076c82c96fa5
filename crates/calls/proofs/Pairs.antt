-- Tables of the other pair, and what a picture call looks at.
-- Assumes nothing.
use Prim.Native.Nat.{ℕ, ◌%◌, ◌^◌}
use mathlib.Core.Path.{◌≡◌, refl, ap, ◌∙◌}
use mathlib.Core.Logic.{inl, inr}
use mathlib.Core.List.{List, ◌++◌}
use mathlib.Core.Bool.{Bool, false, ◌&&◌}
use native.Mathlib.Omega.{arith}
use lib.Dec.{eqb}
use Rattle.formats.specs.Head.{TitlesHead, RulesHead, titles_pass, rules_pass, rules_application, ledger_application}
use Rattle.formats.specs.declared.head.Pair.{Pair}
use Rattle.formats.specs.declared.head.Pair.TheVariants.{Audio, Picture}
use Rattle.formats.specs.declared.facts.EntryNumber.{EntryNumber}
use Rattle.formats.specs.declared.facts.Fillers.{Fillers}
use Rattle.formats.specs.declared.entry.EntryKind.TheVariants.{Full}
use Rattle.formats.proofs.Tests.{refuted}
use Rattle.formats.proofs.head.Laws.{ledger_passes_lem, titles_head, titles_pass_lem, rules_head, titles_of_one, rules_of_one}
use Rattle.requests.specs.declared.request.Request.TheVariants.{MoveOut, Delete}
use Rattle.calls.specs.Buffers.{Buffers, kind_at, sti_key_at}
use Rattle.calls.specs.Conditions.{all_head_conditions, state_conditions, conditions}
use Rattle.calls.specs.Perform.{refusal, perform}
use Rattle.calls.specs.Needs.{MetBelow, WipesTitleKey, needs_of}
use Rattle.calls.specs.Pairs.{other_pair, OtherPair, f2_answer, PictureByF1}
use Rattle.calls.proofs.Refusals.{of_first, holds_not, fails_so}
use Rattle.calls.proofs.Limits.{after_arguments}
use Rattle.calls.proofs.Done.{work_is_done}

-- a table of the other pair is not of this one
pub other_titles : (pair : Pair) (t : List ℕ) → TitlesHead (other_pair pair) t → TitlesHead pair t → ⊥
other_titles Audio t h e = titles_of_one t e h
other_titles Picture t h e = titles_of_one t h e

pub other_rules : (pair : Pair) (r : List ℕ) → RulesHead (other_pair pair) r → RulesHead pair r → ⊥
other_rules Audio r h e = rules_of_one r e h
other_rules Picture r h e = rules_of_one r h e

pub of_other_pair : OtherPair
of_other_pair =
    record {
      titles = λ pair k b lent before t.
          let wrong : titles_pass pair b.titles ≡ false = refuted (λ e. other_titles pair b.titles t (titles_head e)) in
          after_arguments pair k b lent before.its_arguments
          ∙ of_first 8 (all_head_conditions pair b ++ state_conditions pair k b) (inr (holds_not (ledger_passes_lem before.ledger), inl (fails_so wrong, refl)));
      rules = λ pair k b lent before r.
          let fails : rules_pass pair b.rules ≡ false = refuted (λ e. other_rules pair b.rules r (rules_head e)) in
          let wrong = ap (λ (x : Bool). x && eqb (rules_application b.rules) (ledger_application b.ledger)) fails in
          after_arguments pair k b lent before.until_8.its_arguments
          ∙ of_first 9 (all_head_conditions pair b ++ state_conditions pair k b)
          (inr (holds_not (ledger_passes_lem before.until_8.ledger), inr (holds_not (titles_pass_lem before.titles), inl (fails_so wrong, refl))));
    }

-- an f2 that is the STI key
moved_out : (pair : Pair) (j : EntryNumber) (h : ℕ) (f : Fillers) (b : Buffers) → MetBelow 16 (needs_of pair (MoveOut j h f) b) → WipesTitleKey b j.0 f.f1
    → f.f2 % 2 ^ 56 ≡ sti_key_at b j.0 → (perform pair (MoveOut j h f) b).answer ≡ f2_answer pair
moved_out Audio j h f b (entry, (ledger, (titles, (rules, (full, (away, (may_move, (hash, rest)))))))) f1 same =
    (work_is_done Audio (MoveOut j h f) b).answered.refused 16
    (inr (entry, inr (ledger, inr (titles, inr (rules, inr (full, inr (away, inr (may_move, inr (hash, inl (λ keys. keys.1 refl same, refl))))))))))
moved_out Picture j h f b (entry, (ledger, (titles, (rules, (full, (away, (may_move, (hash, rest)))))))) f1 same =
    (work_is_done Picture (MoveOut j h f) b).answered.done
    (entry, (ledger, (titles, (rules, (full, (away, (may_move, (hash, ((f1, λ audio. let z : ◌≡◌ {A = ℕ} 0 1 = cc in absurd (omega arith)), tt)))))))))

deleted : (pair : Pair) (j : EntryNumber) (f : Fillers) (b : Buffers) → MetBelow 16 (needs_of pair (Delete j f) b) → kind_at b j.0 ≡ Full
    → WipesTitleKey b j.0 f.f1 → f.f2 % 2 ^ 56 ≡ sti_key_at b j.0 → (perform pair (Delete j f) b).answer ≡ f2_answer pair
deleted Audio j f b (entry, (ledger, (titles, (rules, (kind, (away, rest)))))) full f1 same =
    (work_is_done Audio (Delete j f) b).answered.refused 16
    (inr (entry, inr (ledger, inr (titles, inr (rules, inr (kind, inr (away, inl (λ keys. keys.1 full refl same, refl))))))))
deleted Picture j f b (entry, (ledger, (titles, (rules, (kind, (away, rest)))))) full f1 same =
    (work_is_done Picture (Delete j f) b).answered.done
    (entry, (ledger, (titles, (rules, (kind, (away, ((f1, λ full audio. let z : ◌≡◌ {A = ℕ} 0 1 = cc in absurd (omega arith)), tt)))))))

pub picture_by_f1 : PictureByF1
unfolding perform refusal conditions
picture_by_f1 =
    record {
      moved_out = moved_out;
      deleted = deleted;
      any_move_out = λ j h f g b same. rw same refl;
      any_delete = λ j f g b same. rw same refl;
    }
