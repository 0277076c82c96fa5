-- The three demands: where a reviewer starts. Each part is a statement about the definitions, in the file that its name is taken
-- from, and all of them are proved (`demands`). The library's code meets the definitions by its contracts: every function equates
-- its answer, and every byte that it was lent, with one of them. What the two programs print is in contracts of their own crates,
-- `counter_printed` and `sheet_printed`, which stand above this one. The quotes are the buyer's request.
use Rattle.std.specs.Prelude.{ℕ, ◌≡◌, length, List, [], ◌∷◌, ◌++◌}
use Rattle.formats.specs.Answer.{done}
use Rattle.formats.specs.Bytes.{Bytes}
use Rattle.formats.specs.Part.{put}
use Rattle.formats.specs.Layout.{Layout}
use Rattle.requests.specs.Number.{written_answer}
use Rattle.requests.specs.Request.{schema, kind_of, request_of, written}
use Rattle.requests.specs.Forms.{GroupsOfSeven, NumberForm, NumberRefused, LengthsFromTable, RequestForm}
use Rattle.calls.specs.Refusal.{RefusedFirst}
use Rattle.calls.specs.Perform.{Demand1Calls}
use Rattle.calls.specs.Requests.{kind_condition, writing_conditions, values_numbers, Demand1Requests}
use Rattle.calls.specs.Work.{WorkIsDone, RegisterByLedger, GoneStays}
use Rattle.calls.specs.Report.{MoveInReports}
use Rattle.calls.specs.Pairs.{OtherPair, PictureByF1}
use Rattle.calls.specs.Fresh.{RowsByNumber, FreshIsReady}
use Rattle.calls.specs.Examples.{TenExamples, OneGeneration}
use Rattle.calls.specs.SampleRun.{SampleRun, EveryCallDone}
use Rattle.calls.specs.FourKinds.{AsWithFourKinds}
use Rattle.calls.specs.History.{History, NoOthers}
use Rattle.calls.specs.Entries.{EntriesTell}
use Rattle.calls.specs.Preview.{Demand1Preview}
use Rattle.calls.specs.Steps.{PreviewsInLists}
use Rattle.tables.specs.Demand1.{Demand1Tables}
use Rattle.tables.specs.History.{FormattedHistory}
use Rattle.text.specs.Forms.{DecimalForm}
use Rattle.inspection.specs.Demand1.{Demand1Inspection}
use Rattle.inspection.specs.History.{InspectsOne}
use Rattle.closing_sheet.specs.Demand1.{Demand1Sheet}
use Rattle.closing_sheet.specs.Shows.{SheetShows}
use Rattle.closing_sheet.specs.History.{SheetAddsUp}
use Rattle.music_counter.specs.SampleRun.{SampleStream}
use Rattle.music_counter.specs.History.{ServedHistory}
use Rattle.requests.specs.Values.{writing_numbers, numbers_written_to}

-- a till's kind is any number, so that its writing tests 3 before all else
pub record WritesNumbers (kind : ℕ) (arguments out : List ℕ) : Type 0 where
  pub refused_first : RefusedFirst (List ℕ) (3 ∷ (values_numbers (schema (kind_of (request_of kind arguments))) ++ (1 ∷ [])))
      (kind_condition kind ∷ writing_conditions (request_of kind arguments) out)
      (written_answer (writing_numbers kind arguments out)).number out (numbers_written_to kind arguments out) (put out 0 (written (request_of kind arguments)))
  pub answers_length : (written_answer (writing_numbers kind arguments out)).number ≡ 0
      → written_answer (writing_numbers kind arguments out) ≡ done (length (written (request_of kind arguments)) ∷ [])
  pub same_length : length (numbers_written_to kind arguments out) ≡ length out
  pub stays_bytes : Bytes out → Bytes (numbers_written_to kind arguments out)

-- 1: "Refused first: every call that meets a refusal condition .. gets that number, the first in the order of testing .., and no byte
-- changes. Accepted then: every other call, and each one ends in bounds."
pub record Demand1 : Type 0 where
  -- the seven calls, by their conditions; by what each needs, in the papers' words, they stand in demand 2 (`work`)
  pub calls : Demand1Calls
  pub fresh : FreshIsReady
  pub rows : RowsByNumber
  pub register_by_ledger : RegisterByLedger
  -- each call answers what it did with four kinds of entry
  pub as_with_four_kinds : AsWithFourKinds
  -- what a move in reports beside its answer
  pub move_in_reports : MoveInReports
  -- tables of the other pair are refused, and a picture call looks at f1 only
  pub of_other_pair : OtherPair
  pub picture_by_f1 : PictureByF1
  -- formatting and tally
  pub tables : Demand1Tables
  -- inspection, what it shows as facts, and that a later rule version is inspected like any other
  pub inspection : Demand1Inspection
  -- the closing sheet
  pub sheet : Demand1Sheet
  -- requests that are read and written, and where the bytes are no number
  pub requests : Demand1Requests
  pub numbers : NumberRefused
  pub till_writes : (kind : ℕ) (arguments out : List ℕ) → WritesNumbers kind arguments out
  -- previews, and requests that a till gives in numbers
  pub preview : Demand1Preview

-- 2: "Entries are read and written as the SD-Audio Part, revision 0.97, lays them out, and the calls change them by the rules of
-- document 01. Each request has one written form; reading it back yields that request.", and what is in the papers to compare with
pub record Demand2 : Type 0 where
  pub layout : Layout
  -- each call is done exactly where the rules say, and then changes what they say; and a run in which each is done
  pub work : WorkIsDone
  pub every_call : EveryCallDone
  pub gone_stays : GoneStays
  pub groups : GroupsOfSeven
  pub number_form : NumberForm
  pub lengths_from_table : LengthsFromTable
  pub request_form : RequestForm
  pub examples : TenExamples
  pub one_generation : OneGeneration
  pub sample_run : SampleRun
  pub sample_stream : SampleStream
  -- the closing sheet: its numbers, its lines, its sums and its spent entries
  pub decimal_form : DecimalForm
  pub sheet_shows : SheetShows

-- 3: "What follows holds for every list of register, record, check-out, check-in, move out, move in and delete calls, refused ones
-- included, that starts from one freshly formatted ledger and card." One claim about the whole list; and beside it: of titles that were
-- not granted in it, of what formatting leaves, of every stream that is served, with previews between the calls and of what is committed
-- as it was previewed, of the numbers on the sheet, of what inspection tells of each title, and of which entry once had which loan
pub record Demand3 : Type 0 where
  pub history : History
  pub no_others : NoOthers
  pub formatted : FormattedHistory
  pub served : ServedHistory
  pub previews : PreviewsInLists
  pub sheet_adds_up : SheetAddsUp
  pub inspects_one : InspectsOne
  pub entries_tell : EntriesTell

pub record Demands : Type 0 where
  pub first : Demand1
  pub second : Demand2
  pub third : Demand3
