-- There always is a sheet to print.
-- Assumes nothing.
use Prim.Native.Nat.{ℕ, ◌≤◌}
use mathlib.Core.Path.{◌≡◌, ap, ◌∙◌}
use mathlib.Core.List.{List, [], ◌∷◌}
use native.Mathlib.Omega.{arith}
use lib.ListN.{length, take, get_or}
use Rattle.std.specs.Prelude.{Result, Ok, Err}
use Rattle.std.specs.Result.{result_unwrap_or}
use Rattle.formats.specs.Answer.{Answer, done}
use Rattle.formats.specs.Refusal.{answer_of}
use Rattle.formats.specs.declared.refusal.Refusal.{Refusal}
use Rattle.formats.specs.Part.{put}
use Rattle.formats.specs.declared.head.Pair.TheVariants.{Audio}
use Rattle.requests.specs.Number.{count_values, written_answer}
use Rattle.calls.specs.Buffers.{Buffers}
use Rattle.music_counter.specs.Serve.{stream_of, program_run}
use Rattle.closing_sheet.specs.Sheet.{sheet_text, sheet_writing, sheet_written_to}
use Rattle.closing_sheet.specs.Demand1.{WritesSheet}
use Rattle.text.proofs.Placed.{at_front}
use Rattle.closing_sheet.proofs.Demand1.{demand_1_sheet}
use Rattle.sheet.specs.Printed.{sheet_printed}

-- an answer that tells a count is that count, and no refusal
count_told : (a : Result ℕ Refusal) (n : ℕ) → answer_of count_values a ≡ done (n ∷ []) → result_unwrap_or a 0 ≡ n
count_told (Ok m) n e = ap (λ (z : Answer). get_or z.values 0 0) e
count_told (Err w) n e = let z : ◌≡◌ {A = ℕ} 0 1 = ap (λ (z : Answer). length z.values) e in absurd (omega arith)

module _ (s text : List ℕ) (long : length text ≡ 18432) where
  abbrev b : Buffers
  b = (program_run s).buffers

  accepted : (written_answer (sheet_writing Audio b text)).number ≡ 0
  accepted = demand_1_sheet.after_calls Audio 64 0 (record { from = omega arith; to = omega arith }) (omega arith) (stream_of s).requests text (omega arith)

  module _ {after : Buffers} (served : after ≡ b) (a : Result ℕ Refusal) {left : List ℕ}
      (e : (answer_of count_values a ≡ written_answer (sheet_writing Audio after text)) × (left ≡ sheet_written_to Audio after text)) where
    writes : WritesSheet Audio b text
    writes = demand_1_sheet.writes Audio b text

    answer : answer_of count_values a ≡ done (length (sheet_text b) ∷ [])
    answer = e.0 ∙ ap (λ (z : Buffers). written_answer (sheet_writing Audio z text)) served ∙ writes.answers_length accepted

    -- it is written, and n is the count that is told
    pub is_printed : {n : ℕ} → n ≡ result_unwrap_or a 0
        → (n ≡ length (sheet_printed s)) × (((n ≤ length left) × (n ≡ length (take n left))) × ((take n left ≡ sheet_printed s) × (left ≡ put text 0 (sheet_printed s))))
    unfolding sheet_printed
    is_printed f =
        let room : length (sheet_text b) ≤ length text = (writes.answered.only_done accepted).1.1.1.0 in
        let is : left ≡ put text 0 (sheet_text b) = e.1 ∙ ap (λ (z : Buffers). sheet_written_to Audio z text) served ∙ writes.refused_first.carried_out accepted in
        at_front text (sheet_text b) room (f ∙ count_told a (length (sheet_text b)) answer) is
