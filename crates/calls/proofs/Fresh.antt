-- A freshly formatted ledger and card: heads that pass, rows that are empty, entries that are free, and bytes all over.
-- Assumes nothing.
use Prim.Native.Nat.{ℕ, ◌≤◌, ◌<◌, ◌^◌}
use mathlib.Core.Path.{◌≡◌, ap, ap₂, ◌∙◌}
use mathlib.Core.Bool.{Bool, cond}
use native.Mathlib.Omega.{arith}
use lib.Dec.{leb}
use borrow.Author.Tests.{leb-true}
use Rattle.formats.specs.declared.head.Pair.{Pair}
use Rattle.formats.specs.Head.{rows_of, fresh_ledger}
use Rattle.formats.specs.Half.{id_of}
use Rattle.formats.specs.Entry.{kind_of}
use Rattle.formats.specs.Row.{state_of}
use Rattle.formats.specs.declared.entry.EntryKind.TheVariants.{Free}
use Rattle.formats.specs.declared.row.RowState.TheVariants.{Empty, NoState}
use Rattle.formats.proofs.Tests.{split, refuted}
use Rattle.formats.proofs.entry.Laws.{kind_zeros}
use Rattle.formats.proofs.row.Laws.{state_zeros}
use Rattle.formats.proofs.head.Laws.{ledger_head, titles_head, rules_head, fresh_ledger_application, fresh_rows, fresh_ledger_passes, fresh_row, fresh_titles_pass, fresh_title, fresh_rules_application, fresh_rules_pass, fresh_rule, fresh_ledger_bytes, fresh_titles_bytes, fresh_rules_bytes}
use Rattle.calls.specs.Buffers.{row_at, state_in, state_at, kind_at, content_at, fresh, Within}
use Rattle.calls.specs.Perform.{AreBytes}
use Rattle.calls.specs.Fresh.{RowsByNumber, FreshIsReady}
use Rattle.calls.proofs.Named.{HeadsPass, Heads, heads_pass}
use Rattle.calls.proofs.Views.{state_of_row}

module _ (pair : Pair) (rows application card_application : ℕ) where
  pub fresh_empty : rows ≤ 999 → (c : ℕ) → Within rows c → state_at (fresh pair rows application card_application) c ≡ Empty
  fresh_empty high c is =
      let r = fresh_rows rows application (omega arith) in
      state_of_row _ c is.from (omega (arith, is.to)) ∙ ap state_of (fresh_row rows application c is.from is.to) ∙ state_zeros

  pub fresh_free : (j : ℕ) → Within 999 j → kind_at (fresh pair rows application card_application) j ≡ Free
  fresh_free j l = ap₂ kind_of (fresh_title pair j l.from l.to) (fresh_rule pair card_application j l.from l.to) ∙ kind_zeros

  -- no entry has an ID
  pub fresh_content : (j : ℕ) → Within 999 j → content_at (fresh pair rows application card_application) j ≡ 0
  fresh_content j l = ap id_of (fresh_title pair j l.from l.to)

  pub fresh_bytes : AreBytes (fresh pair rows application card_application)
  fresh_bytes = record { ledger = fresh_ledger_bytes rows application; titles = fresh_titles_bytes pair; rules = fresh_rules_bytes pair card_application }

pub each_fresh_head : (pair : Pair) (rows application card_application : ℕ) → 1 ≤ rows → rows ≤ 999 → application < 2 ^ 16 → card_application < 2 ^ 16
    → Heads pair application card_application (fresh pair rows application card_application)
each_fresh_head pair rows application card_application low high small card_small =
    record {
      ledger = ledger_head (fresh_ledger rows application) (fresh_ledger_passes rows application low high);
      titles = titles_head (fresh_titles_pass pair);
      rules = rules_head (fresh_rules_pass pair card_application);
      of_ledger = fresh_ledger_application rows application small;
      of_card = fresh_rules_application pair card_application card_small;
    }

-- of one application
pub fresh_heads : (pair : Pair) (rows application : ℕ) → 1 ≤ rows → rows ≤ 999 → application < 2 ^ 16 → HeadsPass pair (fresh pair rows application application)
fresh_heads pair rows application low high small = heads_pass (each_fresh_head pair rows application application low high small small)

-- ROWS BY THEIR NUMBER

pub rows_by_number : RowsByNumber
unfolding state_in
rows_by_number =
    record {
      of_ledger = λ ledger c is. state_of_row ledger c is.from is.to;
      no_other = λ ledger c none.
          ap (λ (x : Bool). cond x (state_of (row_at ledger c)) NoState)
          (refuted (λ e. let (p, q) = split (leb 1 c) (leb c (rows_of ledger)) e in none (record { from = leb-true _ _ p; to = leb-true _ _ q })));
    }

pub fresh_is_ready : FreshIsReady
fresh_is_ready pair rows application in_range_lem small =
    let p = fresh_heads pair rows application in_range_lem.from in_range_lem.to small in
    record {
      rows_are = fresh_rows rows application (omega (arith, in_range_lem.to));
      bytes = fresh_bytes pair rows application application;
      ledger = p.ledger;
      titles = p.titles;
      rules = p.rules;
      empty = fresh_empty pair rows application application in_range_lem.to;
      free = fresh_free pair rows application application;
    }
