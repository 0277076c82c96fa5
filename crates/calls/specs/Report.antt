-- What a move in reports (document 02, W5): "Move in, when its check for copies is reached, shall also report how many entries that
-- check read". It belongs to no log: the answer and the bytes of a move in are what `perform` says.
use Rattle.std.specs.Prelude.{ℕ, ◌≤◌, ◌<◌, ◌≡◌, ◌≢◌, List, cond, eqb}
use Rattle.formats.specs.declared.head.Pair.{Pair}
use Rattle.formats.specs.declared.facts.ContentId.{ContentId}
use Rattle.formats.specs.declared.facts.EntryNumber.{EntryNumber}
use Rattle.formats.specs.declared.entry.EntryKind.TheVariants.{Copy}
use Rattle.requests.specs.declared.request.Request.TheVariants.{MoveIn}
use Rattle.calls.specs.Buffers.{Buffers, kind_at, content_at, Within, copies, first_copy, entries_searched}
use Rattle.calls.specs.Refusal.{first, tested_before}
use Rattle.calls.specs.Conditions.{conditions}
use Rattle.calls.specs.Perform.{perform}

-- the report of a move in of title c to entry j with C_HASH h: what its check for copies, 14, reads. "If an earlier check refuses, the
-- report is 0."
unfoldable pub move_in_report : Pair → ContentId → EntryNumber → ℕ → Buffers → ℕ
move_in_report pair c j h b =
    cond (eqb (first (tested_before 14 (conditions pair (MoveIn c j h) b))) 0) (entries_searched c.0 b.titles b.rules) 0

-- THE STATEMENT

-- entry i is a copy of c, and no entry before it is one
pub record FirstCopy (b : Buffers) (c i : ℕ) : Type 0 where
  pub on_card : Within 999 i
  pub is_copy : kind_at b i ≡ Copy
  pub of_title : content_at b i ≡ c
  pub none_before : (k : ℕ) → Within 999 k → k < i → kind_at b k ≡ Copy → content_at b k ≢ c

-- a move in of c that is answered `answer` reports `report`
pub record Reports (b : Buffers) (c answer report : ℕ) : Type 0 where
  -- "If an earlier check refuses, the report is 0."
  pub earlier : answer ≢ 0 → answer ≢ 14 → report ≡ 0
  -- "the number of the first copy's entry if there is one"
  pub copy_out : answer ≡ 14 → FirstCopy b c report
  -- "else 999"
  pub done : answer ≡ 0 → report ≡ 999
  -- "The count is never above 999."
  pub at_most : report ≤ 999

-- of every move in, on tables of either pair and on all buffers, damaged ones included; and there is a first copy exactly where the
-- number of copies is not 0
pub record MoveInReports : Type 0 where
  pub reports : (pair : Pair) (c : ContentId) (j : EntryNumber) (h : ℕ) (b : Buffers) → Reports b c.0 (perform pair (MoveIn c j h) b).answer (move_in_report pair c j h b)
  pub first_where_some : (c : ℕ) (titles rules : List ℕ) → copies c titles rules ≢ 0 → first_copy c titles rules ≢ 0
  pub no_first_where_none : (c : ℕ) (titles rules : List ℕ) → copies c titles rules ≡ 0 → first_copy c titles rules ≡ 0
