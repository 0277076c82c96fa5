-- The three demands are met.
-- Assumes nothing.
use Prim.Native.Nat.{ℕ}
use mathlib.Core.Path.{◌≡◌, refl}
use mathlib.Core.List.{List, [], ◌∷◌, ◌++◌}
use mathlib.Core.Bool.{Bool, true, false, cond}
use native.Mathlib.Omega.{arith}
use lib.Dec.{eqb}
use lib.ListN.{length}
use Rattle.formats.specs.Answer.{done}
use Rattle.formats.specs.Bytes.{Bytes}
use Rattle.formats.specs.Part.{put}
use Rattle.formats.specs.Refusal.{refused_unless as limit}
use Rattle.requests.specs.Number.{Written, NotWritten, written_answer}
use Rattle.requests.specs.Request.{kind_passes, schema, kind_of, request_of, written, writing_request, request_written_to}
use Rattle.requests.specs.declared.request.Request.{Request}
use Rattle.formats.proofs.Layouts.{layout}
use Rattle.requests.proofs.Forms.{groups_of_seven, number_form, number_refused, lengths_from_table, one_written_form}
use Rattle.calls.specs.Refusal.{◌unless◌, RefusedFirst}
use Rattle.calls.specs.Requests.{values_numbers, writing_conditions, Writes}
use Rattle.calls.proofs.Refusals.{in_front}
use Rattle.calls.proofs.InBounds.{demand_1_calls}
use Rattle.calls.proofs.Requests.{demand_1_requests}
use Rattle.calls.proofs.Done.{work_is_done, register_by_ledger, gone_stays}
use Rattle.calls.proofs.FourKinds.{as_with_four_kinds}
use Rattle.calls.proofs.Entries.{entries_tell}
use Rattle.calls.proofs.Report.{move_in_reports}
use Rattle.calls.proofs.Preview.{demand_1_preview}
use Rattle.calls.proofs.Steps.{previews_in_lists}
use Rattle.calls.proofs.Pairs.{of_other_pair, picture_by_f1}
use Rattle.calls.proofs.Fresh.{rows_by_number, fresh_is_ready}
use Rattle.calls.proofs.Examples.{ten_examples, one_generation}
use Rattle.calls.proofs.SampleRun.{sample_run, every_call_done}
use Rattle.calls.proofs.History.Always.{history, no_others}
use Rattle.tables.proofs.Demand1.{demand_1_tables}
use Rattle.tables.proofs.History.{formatted_history}
use Rattle.text.proofs.Forms.{decimal_form}
use Rattle.inspection.proofs.Demand1.{demand_1_inspection}
use Rattle.inspection.proofs.History.{inspects_one}
use Rattle.closing_sheet.proofs.Demand1.{demand_1_sheet}
use Rattle.closing_sheet.proofs.Shows.{sheet_shows}
use Rattle.closing_sheet.proofs.History.{sheet_adds_up}
use Rattle.music_counter.proofs.SampleRun.{sample_stream}
use Rattle.music_counter.proofs.History.{served_history}
use Rattle.requests.specs.Values.{writing_numbers, numbers_written_to}
use Rattle.till.specs.Demands.{WritesNumbers, Demands}

-- WRITING NUMBERS: the kind is tested before the rest
writes_numbers : (kind : ℕ) (arguments out : List ℕ) → WritesNumbers kind arguments out
unfolding writing_numbers numbers_written_to
writes_numbers kind arguments out =
    let x = kind_passes kind in
    record { refused_first = first_of_all x; answers_length = tells x; same_length = same x; stays_bytes = bytes x }
  where
    q : Request
    q = request_of kind arguments

    whole : Writes q out
    whole = demand_1_requests.writing q out

    answer : Bool → Written
    answer x = cond (eqb (limit x 3) 0) (writing_request q out) (NotWritten (limit x 3))

    left : Bool → List ℕ
    left x = cond (eqb (limit x 3) 0) (request_written_to q out) out

    first_of_all : (x : Bool) → RefusedFirst (List ℕ) (3 ∷ (values_numbers (schema (kind_of q)) ++ (1 ∷ []))) (3 unless x ∷ writing_conditions q out)
        (written_answer (answer x)).number out (left x) (put out 0 (written q))
    first_of_all true = in_front 3 false (λ e. omega arith) whole.refused_first
    first_of_all false = in_front 3 true (λ e. omega arith) whole.refused_first

    tells : (x : Bool) → (written_answer (answer x)).number ≡ 0 → written_answer (answer x) ≡ done (length (written q) ∷ [])
    tells true e = whole.answers_length e
    tells false e = absurd (omega (arith, e))

    same : (x : Bool) → length (left x) ≡ length out
    same true = whole.same_length
    same false = refl

    bytes : (x : Bool) → Bytes out → Bytes (left x)
    bytes true e = whole.stays_bytes e
    bytes false e = e

-- THE DEMANDS
pub demands : Demands
demands =
    record {
      first =
          record {
            calls = demand_1_calls;
            fresh = fresh_is_ready;
            rows = rows_by_number;
            register_by_ledger = register_by_ledger;
            as_with_four_kinds = as_with_four_kinds;
            move_in_reports = move_in_reports;
            of_other_pair = of_other_pair;
            picture_by_f1 = picture_by_f1;
            tables = demand_1_tables;
            inspection = demand_1_inspection;
            sheet = demand_1_sheet;
            requests = demand_1_requests;
            numbers = number_refused;
            till_writes = writes_numbers;
            preview = demand_1_preview;
          };
      second =
          record {
            layout = layout;
            work = work_is_done;
            every_call = every_call_done;
            gone_stays = gone_stays;
            groups = groups_of_seven;
            number_form = number_form;
            lengths_from_table = lengths_from_table;
            request_form = one_written_form;
            examples = ten_examples;
            one_generation = one_generation;
            sample_run = sample_run;
            sample_stream = sample_stream;
            decimal_form = decimal_form;
            sheet_shows = sheet_shows;
          };
      third =
          record {
            history = history;
            no_others = no_others;
            formatted = formatted_history;
            served = served_history;
            previews = previews_in_lists;
            sheet_adds_up = sheet_adds_up;
            inspects_one = inspects_one;
            entries_tell = entries_tell;
          };
    }
