-- What is printed of document 01's example.
-- Assumes nothing.
use mathlib.Core.Path.{◌≡◌, refl, ap, ap₂, ◌∙◌}
use mathlib.Core.List.{List, [], ◌∷◌, ◌++◌}
use Prim.Native.Nat.{ℕ}
use Rattle.formats.specs.declared.head.Pair.TheVariants.{Audio}
use Rattle.calls.specs.Buffers.{fresh}
use Rattle.calls.specs.History.{from, run, in_order, answers_in}
use Rattle.calls.specs.SampleRun.{sample_requests}
use Rattle.calls.proofs.SampleRun.{sample_run}
use Rattle.text.specs.Text.{decimal_in, decimal, field, line}
use Rattle.music_counter.specs.Serve.{Stream, kinds_in}
use Rattle.music_counter.proofs.SampleRun.{sample_stream}
use Rattle.counter.specs.Printed.{answer_lines, end_line, counter_printed, SamplePrinted}

-- the kinds are those of the calls, whatever they answer
kinds : kinds_in (run Audio sample_requests (from (fresh Audio 64 0 0))) ≡ 1 ∷ 3 ∷ 3 ∷ 6 ∷ 4 ∷ 6 ∷ []
unfolding run in_order
kinds = refl

pub sample_printed : SamplePrinted
unfolding counter_printed answer_lines end_line line field decimal decimal_in
sample_printed =
    ap (λ (s : Stream). answer_lines (kinds_in (run Audio s.requests (from (fresh Audio 64 0 0)))) (answers_in (run Audio s.requests (from (fresh Audio 64 0 0)))) ++ end_line s.stop) sample_stream
    ∙ ap₂ (λ (k a : List ℕ). answer_lines k a ++ end_line 0) kinds (sample_run Audio)
