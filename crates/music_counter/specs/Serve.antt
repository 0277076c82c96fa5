-- Serving requests from their bytes: a stream of them, up to its end or the first fault.
use Rattle.std.specs.Prelude.{ℕ, zero, suc, ◌≡◌, List, [], ◌∷◌, map, length, drop}
use Rattle.formats.specs.declared.head.Pair.{Pair}
use Rattle.formats.specs.declared.head.Pair.TheVariants.{Audio}
use Rattle.formats.specs.Refusal.{answer_number}
use Rattle.requests.specs.Request.{RequestRead, Read, Refused, read_request, kind_of}
use Rattle.requests.specs.declared.request.Request.{Request}
use Rattle.calls.specs.Buffers.{Buffers, fresh}
use Rattle.calls.specs.History.{Answered, Run, from, run, in_order}
use Rattle.music_counter.specs.declared.serve.Served.{Served}
use Rattle.music_counter.specs.declared.serve.Note.{Note}

-- the requests that are read one after another, and "0 where no byte is left, or the number that stopped reading"
pub record Stream : Type 0 where
  pub requests : List Request
  pub stop : ℕ

-- after a request comes what is read from the bytes after it; a fault ends the stream
abbrev pub further : (List ℕ → Stream) → List ℕ → RequestRead → Stream
further more s (Read q k) = record { requests = q ∷ (more (drop k s)).requests; stop = (more (drop k s)).stop }
further more s (Refused w) = record { requests = []; stop = w }

-- at most n requests; each has a byte, so there are no more of them than bytes
unfoldable pub read_stream : ℕ → List ℕ → Stream
read_stream zero s = record { requests = []; stop = 0 }
read_stream (suc n) [] = record { requests = []; stop = 0 }
read_stream (suc n) (b ∷ s) = further (λ rest. read_stream n rest) (b ∷ s) (read_request (b ∷ s))

unfoldable pub stream_of : List ℕ → Stream
stream_of s = read_stream (length s) s

-- the run of a stream's requests, as calls of one pair, from what a server is lent
abbrev pub served_run : Pair → List ℕ → Buffers → Run
served_run pair s b = run pair (stream_of s).requests (from b)

-- "formats a ledger of 64 rows and a card, application number 0": the run of a stream in the programs, which are for audio
abbrev pub program_run : List ℕ → Run
program_run s = served_run Audio s (fresh Audio 64 0 0)

-- "a line per request, kind and answer": the kinds, beside `answers_in`, in the order of the requests
abbrev pub kinds_in : Run → List ℕ
kinds_in w = map (λ a. kind_of a.call) (in_order w.log)

-- what is noted of each request: its kind and its answer
abbrev pub note_of : Answered → Note
note_of a = record { kind = kind_of a.call; answer = a.answer }

abbrev pub notes_in : Run → List Note
notes_in w = map note_of (in_order w.log)

-- places for notes, with as many of these as there are places for; places after them keep what they had
unfoldable pub overwritten : List Note → List Note → List Note
overwritten [] notes = []
overwritten (x ∷ places) [] = x ∷ places
overwritten (x ∷ places) (n ∷ notes) = n ∷ overwritten places notes

-- the stream s was served, as calls of one pair, from the buffers `before`: what stopped it and how many requests it had, the buffers,
-- and the places for notes, as they were and as they are
pub record Serves (pair : Pair) (s : List ℕ) (before : Buffers) (r : Served) (after : Buffers) (notes notes' : List Note) : Type 0 where
  pub stop : answer_number r.stop ≡ (stream_of s).stop
  pub count : r.count ≡ length (stream_of s).requests
  pub buffers : after ≡ (served_run pair s before).buffers
  pub notes_are : notes' ≡ overwritten notes (notes_in (served_run pair s before))
