-- What the sheet shows.
-- Assumes nothing.
use Prim.Native.Nat.{ℕ, zero, suc, ◌+◌, ◌≤◌, ◌<◌}
use Rattle.std.specs.Prelude.{codes}
use mathlib.Core.Path.{◌≡◌, refl, sym, ap, ap₂, ◌∙◌}
use mathlib.Core.Logic.{◌≢◌}
use mathlib.Core.List.{List, [], ◌++◌, append-nil}
use mathlib.Core.Bool.{Bool, true, false, true≢false}
use native.Mathlib.Omega.{arith}
use native.Mathlib.Decide.{ℕ_discrete}
use lib.Dec.{eqb}
use borrow.Author.Tests.{eq-eqb, ne_eqb, eqb-true}
use Rattle.formats.specs.Head.{rows_of}
use Rattle.formats.specs.declared.head.Pair.{Pair}
use Rattle.formats.specs.declared.entry.EntryKind.{EntryKind}
use Rattle.formats.specs.declared.entry.EntryKind.TheVariants.{Free, Copy, Full, Torn, Spent}
use Rattle.formats.specs.Entry.{entry_facts, is_full, is_spent}
use Rattle.formats.proofs.Tests.{split, both, refuted}
use Rattle.formats.proofs.head.Laws.{fresh_rows}
use Rattle.calls.specs.Buffers.{Buffers, state_at, kind_at, content_at, is_empty, one, total, fresh, Within, title_at, rule_at, full_with}
use Rattle.calls.proofs.Passed.{is_full_lem}
use Rattle.calls.proofs.Refusals.{holds_not}
use Rattle.calls.proofs.First.{first_holds, first_is}
use Rattle.calls.proofs.Fresh.{fresh_empty, fresh_free}
use Rattle.calls.proofs.History.Totals.{total_none}
use Rattle.tables.specs.ByTitle.{first_full, spent_at, spent_entries}
use Rattle.text.specs.Text.{decimal_in, decimal, field, line}
use Rattle.closing_sheet.specs.Sheet.{line_with, line_of, rows_text, permits_added, copies_added, permits_total, copies_total, total_line, spent_line, last_lines, sheet_text, line_text}
use Rattle.closing_sheet.specs.Shows.{NoFullBefore, LineShows, TextOf, Totals, SpentCounted, SampleLines, SheetShows}
use Rattle.closing_sheet.proofs.Sample.{sample_sheet}
use Rattle.closing_sheet.proofs.sheet.Laws.{not_empty, row_empty, row_printed, rows_next}

-- THE FACTS ON THE CARD

module _ (b : Buffers) (c : ℕ) where
  abbrev test : ℕ → Bool
  test j = full_with c (title_at b.titles j) (rule_at b.rules j)

  pub holds_at : (j : ℕ) → kind_at b j ≡ Full → content_at b j ≡ c → test j ≡ true
  holds_at j kind id = both (ap is_full kind) (eq-eqb (content_at b j) c id)

  pub says : (j : ℕ) → test j ≡ true → (kind_at b j ≡ Full) × (content_at b j ≡ c)
  says j e = let (kind, id) = split (is_full (kind_at b j)) (eqb (content_at b j) c) e in (is_full_lem (kind_at b j) (holds_not kind), eqb-true (content_at b j) c id)

  fails_before : (j i : ℕ) → NoFullBefore b c j → Within 999 i → i < j → test i ≡ false
  fails_before j i none l h = refuted (λ e. let (kind, id) = says i e in none i l.from h kind id)

  -- the first full entry
  first_at : (j : ℕ) → Within 999 j → kind_at b j ≡ Full → content_at b j ≡ c → NoFullBefore b c j → first_full c b.titles b.rules ≡ j
  unfolding first_full
  first_at j l kind id none = first_is test 999 j l (holds_at j kind id) (λ i m h. fails_before j i none m h)

  first_nowhere : NoFullBefore b c 1000 → first_full c b.titles b.rules ≡ 0
  unfolding first_full
  first_nowhere none =
      elim (ℕ_discrete (first_full c b.titles b.rules) 0) [
        | yes z ↦ z
        | no d ↦ let (l, e) = first_holds test 999 d in absurd (true≢false (sym e ∙ fails_before 1000 _ none l (omega (arith, l.to))))
      ]

  -- A LINE
  pub line_shows : LineShows b c
  unfolding line_with entry_facts
  line_shows =
      record {
        here = λ f e. rw e refl;
        away = λ j e l kind id none. simp (e, first_at j l kind id none, ne_eqb j 0 (λ z. omega (arith, l.from)));
        away_nowhere = λ e none. simp (e, first_nowhere none);
        gone = λ e. rw e refl;
        no_state = λ e. rw e refl;
      }

-- THE TEXT

module _ (b : Buffers) where
  text_of : TextOf b (λ n. rows_text n b)
  text_of =
      record {
        starts = unfold rows_text in refl;
        printed = λ c some. rows_next b c ∙ ap (λ (l : List ℕ). rows_text c b ++ l) (row_printed b (c + 1) (not_empty (state_at b (c + 1)) some)).0;
        not_printed = λ c none. rows_next b c ∙ ap (λ (l : List ℕ). rows_text c b ++ l) (row_empty b (c + 1) (ap is_empty none)).0 ∙ append-nil (rows_text c b);
        ends = unfold sheet_text last_lines in refl;
      }

  sums : Totals b (permits_added b) (copies_added b)
  sums =
      record {
        permits_total = unfold permits_total in refl;
        copies_total = unfold copies_total in refl;
        unlimited = λ c e. unlimited_adds c e (is_empty (state_at b c)) refl;
        limited = λ c some other. (row_printed b c (not_empty (state_at b c) some)).1 ∙ rw (ne_eqb (line_of b c).permits 15 other) refl;
        copies_of = λ c some. (row_printed b c (not_empty (state_at b c) some)).2;
        empty = λ c none. let (text, permits, copies) = row_empty b c (ap is_empty none) in (permits, copies);
      }
    where
      unlimited_adds : (c : ℕ) → (line_of b c).permits ≡ 15 → (x : Bool) → is_empty (state_at b c) ≡ x → permits_added b c ≡ 0
      unlimited_adds c e true f = (row_empty b c f).1
      unlimited_adds c e false f = (row_printed b c f).1 ∙ rw (eq-eqb (line_of b c).permits 15 e) refl

-- THE SPENT ENTRIES

spent_counts : (k : EntryKind) → k ≢ Spent → one (is_spent k) ≡ 0
spent_counts Free other = refl
spent_counts Copy other = refl
spent_counts Full other = refl
spent_counts Torn other = refl
spent_counts Spent other = absurd (other refl)

spent_counted : (b : Buffers) → SpentCounted b (λ j. one (spent_at b.titles b.rules j))
spent_counted b =
    record {
      number = unfold spent_entries in refl;
      of_spent = λ j e. ap (λ k. one (is_spent k)) e;
      of_other = λ j other. spent_counts (kind_at b j) other;
    }

-- A FRESH LEDGER AND CARD

module _ (pair : Pair) (rows application card_application : ℕ) (low : 1 ≤ rows) (high : rows ≤ 999) where
  abbrev b₀ : Buffers
  b₀ = fresh pair rows application card_application

  nothing_printed : (n : ℕ) → n ≤ rows → (rows_text n b₀ ≡ []) × (total n (permits_added b₀) ≡ 0) × (total n (copies_added b₀) ≡ 0)
  unfolding rows_text total
  nothing_printed zero few = (refl, refl, refl)
  nothing_printed (suc n) few =
      let (text, permits, copies) = nothing_printed n (omega arith) in
      let (t, p, c) = row_empty b₀ (suc n) (ap is_empty (fresh_empty pair rows application card_application high (suc n) (record { from = omega arith; to = few }))) in
      (ap₂ ◌++◌ text t, omega arith, omega arith)

  none_spent : spent_entries b₀.titles b₀.rules ≡ 0
  unfolding spent_entries
  none_spent = total_none 999 _ (λ j l. ap (λ k. one (is_spent k)) (fresh_free pair rows application card_application j l))

  fresh_sheet : sheet_text b₀ ≡ codes "total 0 0\nspent 0\n"
  unfolding sheet_text permits_total copies_total last_lines total_line spent_line line field decimal decimal_in
  fresh_sheet =
      let r : rows_of b₀.ledger ≡ rows = fresh_rows rows application (omega arith) in
      let (text, permits, copies) = nothing_printed rows (omega arith) in
      rw (r, text, permits, copies, none_spent) refl

-- FIVE NUMBERS, each another, two sums, and a number of spent entries
samples : SampleLines
unfolding line_text total_line spent_line line field decimal decimal_in
samples = record { a_line = refl; the_totals = refl; the_last = refl }

-- ALL OF IT
pub sheet_shows : SheetShows
sheet_shows = record { lines = line_shows; text = λ b. (_, text_of b); sums = λ b. (_, _, sums b); spent = λ b. (_, spent_counted b); samples = samples; a_sheet = sample_sheet; fresh_sheet = fresh_sheet }
