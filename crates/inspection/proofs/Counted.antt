-- What is told of a title, by the kinds and the content IDs of the entries.
-- Assumes nothing.
use Prim.Native.Nat.{ℕ, ◌≤◌}
use mathlib.Core.Path.{◌≡◌, refl, ap}
use mathlib.Core.Logic.{◌≢◌}
use mathlib.Core.Bool.{Bool, true, false, ◌&&◌}
use native.Mathlib.Omega.{arith}
use lib.Dec.{eqb}
use borrow.Author.Tests.{eq-eqb, eqb-true}
use Rattle.formats.specs.Entry.{is_copy, is_full}
use Rattle.formats.specs.declared.facts.Facts.{Facts}
use Rattle.formats.specs.declared.row.RowState.{RowState}
use Rattle.formats.specs.declared.row.RowState.TheVariants.{Empty, Here, Away, Gone, NoState}
use Rattle.formats.proofs.Tests.{both}
use Rattle.calls.specs.Buffers.{Buffers, title_at, rule_at, state_at, kind_at, content_at, is_here, one, copy_of, full_with, copies, full_entries}
use Rattle.calls.specs.History.{holders}
use Rattle.calls.proofs.Passed.{is_copy_lem, is_full_lem}
use Rattle.calls.proofs.Refusals.{holds_not}
use Rattle.tables.proofs.PerTitle.{ones}
use Rattle.inspection.specs.Demand1.{TitleShows}

-- two tests that do not hold together count nothing
no_count : (x y : Bool) → (x ≡ true → y ≡ true → ⊥) → one (x && y) ≡ 0
no_count false y h = refl
no_count true false h = refl
no_count true true h = absurd (h refl refl)

row_counts : (r : RowState) → ((f : Facts) → r ≢ Here f) → one (is_here r) ≡ 0
row_counts Empty h = refl
row_counts (Here f) h = absurd (h f refl)
row_counts Away h = refl
row_counts Gone h = refl
row_counts NoState h = refl

row_at_most : (r : RowState) → one (is_here r) ≤ 1
row_at_most Empty = omega arith
row_at_most (Here f) = omega arith
row_at_most Away = omega arith
row_at_most Gone = omega arith
row_at_most NoState = omega arith

module _ (b : Buffers) (c : ℕ) where
  abbrev pub row : ℕ
  row = one (is_here (state_at b c))

  abbrev pub full : ℕ → ℕ
  full j = one (full_with c (title_at b.titles j) (rule_at b.rules j))

  abbrev pub copied : ℕ → ℕ
  copied j = one (copy_of c (title_at b.titles j) (rule_at b.rules j))

  pub title_shows : TitleShows b c row full copied
  unfolding holders copies full_entries
  title_shows =
      let fulls = ones 999 (λ j. full_with c (title_at b.titles j) (rule_at b.rules j)) in
      record {
        told = refl;
        here = λ f e. ap (λ r. one (is_here r)) e;
        not_here = row_counts (state_at b c);
        of_full = λ j kind id. ap one (both (ap is_full kind) (eq-eqb (content_at b j) c id));
        of_no_full = λ j h. no_count (is_full (kind_at b j)) (eqb (content_at b j) c) (λ x y. h (is_full_lem (kind_at b j) (holds_not x)) (eqb-true (content_at b j) c y));
        of_copy = λ j kind id. ap one (both (ap is_copy kind) (eq-eqb (content_at b j) c id));
        of_no_copy = λ j h. no_count (is_copy (kind_at b j)) (eqb (content_at b j) c) (λ x y. h (is_copy_lem (kind_at b j) (holds_not x)) (eqb-true (content_at b j) c y));
        most_holders = omega (arith, row_at_most (state_at b c), fulls);
        most_copies = ones 999 (λ j. copy_of c (title_at b.titles j) (rule_at b.rules j));
      }
