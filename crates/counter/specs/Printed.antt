-- What the program prints: the lines of the requests, in their order, and the last line. The quotes are document 01's.
use Rattle.std.specs.Prelude.{ℕ, ◌≡◌, List, [], ◌∷◌, ◌++◌, codes, map}
use Rattle.calls.specs.History.{answers_in}
use Rattle.text.specs.Text.{line}
use Rattle.music_counter.specs.declared.serve.Note.{Note}
use Rattle.music_counter.specs.Serve.{stream_of, program_run, kinds_in}
use Rattle.music_counter.specs.SampleRun.{sample_bytes}

-- "a line per request, kind and answer in decimal with one space between": the kinds and the answers, in the order of the requests
unfoldable pub answer_lines : List ℕ → List ℕ → List ℕ
answer_lines [] answers = []
answer_lines (k ∷ kinds) [] = []
answer_lines (k ∷ kinds) (a ∷ answers) = line (k ∷ a ∷ []) ++ answer_lines kinds answers

-- the lines of requests of which these notes were taken
abbrev pub lines_noted : List Note → List ℕ
lines_noted notes = answer_lines (map (λ n. n.kind) notes) (map (λ n. n.answer) notes)

-- `end` and a space
abbrev pub end_word : List ℕ
end_word = codes "end "

-- "then `end` and 0 where no byte is left, or the number that stopped reading"
unfoldable pub end_line : ℕ → List ℕ
end_line stop = end_word ++ line (stop ∷ [])

-- of the bytes that were read from standard input, at most 4,096
unfoldable pub counter_printed : List ℕ → List ℕ
counter_printed s = answer_lines (kinds_in (program_run s)) (answers_in (program_run s)) ++ end_line (stream_of s).stop

-- "prints": document 01's example
abbrev pub SamplePrinted : Type 0
SamplePrinted = counter_printed sample_bytes ≡ codes "1 0\n3 0\n3 12\n6 14\n4 0\n6 0\nend 0\n"
