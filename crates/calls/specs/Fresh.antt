-- What every list of calls starts from: a freshly formatted ledger and card are right, and everything in them is free to be used.
use Rattle.std.specs.Prelude.{ℕ, ◌*◌, ◌<◌, ◌^◌, ◌≡◌, List}
use Rattle.formats.specs.Part.{part}
use Rattle.formats.specs.Head.{LedgerHead, TitlesHead, rows_of, fresh_ledger, fresh_titles}
use Rattle.formats.specs.Row.{state_of}
use Rattle.formats.specs.declared.head.Pair.{Pair}
use Rattle.formats.specs.declared.entry.EntryKind.TheVariants.{Free}
use Rattle.formats.specs.declared.row.RowState.TheVariants.{Empty, NoState}
use Rattle.calls.specs.Buffers.{state_in, state_at, kind_at, fresh, Within}
use Rattle.calls.specs.Perform.{AreBytes}
use Rattle.calls.specs.Needs.{RulesOfLedger}

-- "Row c (1 to R) starts at 24 × c": what a row of a ledger is; there is no other
pub record RowsByNumber : Type 0 where
  pub of_ledger : (ledger : List ℕ) (c : ℕ) → Within (rows_of ledger) c → state_in ledger c ≡ state_of (part ledger (24 * c) 24)
  pub no_other : (ledger : List ℕ) (c : ℕ) → (Within (rows_of ledger) c → ⊥) → state_in ledger c ≡ NoState

-- a ledger and a card of one application pass every check of their heads, every row is empty and every entry free
pub record Ready (pair : Pair) (rows application : ℕ) : Type 0 where
  pub rows_are : rows_of (fresh_ledger rows application) ≡ rows
  pub bytes : AreBytes (fresh pair rows application application)
  pub ledger : LedgerHead (fresh_ledger rows application)
  pub titles : TitlesHead pair (fresh_titles pair)
  pub rules : RulesOfLedger pair (fresh pair rows application application)
  pub empty : (c : ℕ) → Within rows c → state_at (fresh pair rows application application) c ≡ Empty
  pub free : (j : ℕ) → Within 999 j → kind_at (fresh pair rows application application) j ≡ Free

-- "whatever R and the application numbers"
abbrev pub FreshIsReady : Type 0
FreshIsReady = (pair : Pair) (rows application : ℕ) → Within 999 rows → application < 2 ^ 16 → Ready pair rows application
