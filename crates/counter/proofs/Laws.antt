-- The lines that are printed: one after another, how many there are, how long they are, and that they stand at the front of the text.
-- Assumes nothing.
use Prim.Native.Nat.{ℕ, zero, suc, ◌+◌, ◌*◌, ◌≤◌, ◌<◌}
use mathlib.Core.Path.{◌≡◌, refl, sym, ap, ap₂, subst, ◌∙◌}
use mathlib.Core.List.{List, [], ◌∷◌, ◌++◌, map, append_assoc}
use native.Mathlib.Omega.{arith}
use native.Mathlib.Numerals.{add-one}
use native.Mathlib.Nat.{add-zero, zero-add, suc-add, add-suc}
use lib.ListN.{length, take, drop, get_or, replicate, length-append, length-take, length-replicate, drop_of_length-le}
use lib.Seq.{drop-cons}
use Rattle.std.specs.Prelude.{Result}
use Rattle.io.specs.Counts.{IsPrefixLen}
use Rattle.formats.specs.Part.{put}
use Rattle.formats.specs.declared.head.Pair.{Pair}
use Rattle.formats.specs.declared.head.Pair.TheVariants.{Audio}
use Rattle.formats.specs.Refusal.{answer_number}
use Rattle.formats.specs.declared.refusal.Refusal.{Refusal}
use Rattle.formats.proofs.refusal.Laws.{number_most}
use Rattle.formats.proofs.Part.{put_next, put_length}
use Rattle.formats.proofs.Stores.{Storing, start, stored}
use Rattle.requests.specs.Request.{RequestRead, Read, Refused, read_request, kind_of}
use Rattle.requests.specs.declared.request.Request.{Request}
use Rattle.requests.specs.declared.request.Request.TheVariants.{Register, Record, CheckOut, CheckIn, MoveOut, MoveIn, Delete}
use Rattle.calls.specs.Buffers.{Buffers, fresh}
use Rattle.calls.specs.History.{Answered, Log, Run, from, run, in_order, answers_in}
use Rattle.calls.proofs.Refusals.{answer_most}
use Rattle.text.specs.Text.{decimal, field, line, placed, place_after}
use Rattle.text.proofs.Placed.{next, at_front}
use Rattle.text.proofs.Decimal.{field_length, length_last, length_most}
use Rattle.music_counter.specs.declared.serve.Served.{Served}
use Rattle.music_counter.specs.declared.serve.Note.{Note}
use Rattle.music_counter.specs.Serve.{Stream, further, read_stream, stream_of, program_run, kinds_in, note_of, notes_in, overwritten, Serves}
use Rattle.counter.specs.Printed.{answer_lines, lines_noted, end_word, end_line, counter_printed}

-- A LINE: two numbers, a space and a line end
line_length : (k a : ℕ) → length (line (k ∷ a ∷ [])) ≡ length (decimal k) + length (decimal a) + 2
unfolding line
line_length k a = length-append (field k 32) (field a 10) ∙ omega (arith, field_length k 32, field_length a 10)

-- with those after it
lines_next : (n : Note) (notes : List Note) → lines_noted (n ∷ notes) ≡ field n.kind 32 ++ (field n.answer 10 ++ lines_noted notes)
unfolding answer_lines line
lines_next n notes = append_assoc (field n.kind 32) (field n.answer 10) (lines_noted notes)

-- without requests there is none
no_lines : lines_noted [] ≡ []
unfolding answer_lines
no_lines = refl

-- THE LOOP

-- the line of request i and those after it
lines_from : (notes : List Note) (i : ℕ) (e : Note) → i < length notes
    → lines_noted (drop i notes) ≡ field (get_or notes i e).kind 32 ++ (field (get_or notes i e).answer 10 ++ lines_noted (drop (i + 1) notes))
lines_from notes i e h =
    ap lines_noted (drop-cons notes i e h ∙ ap (λ (k : ℕ). get_or notes i e ∷ drop k notes) (sym (add-one i)))
    ∙ lines_next (get_or notes i e) (drop (i + 1) notes)

-- the lines of the requests before request i stand in the text, from the place on at which it was
pub record Writing (notes : List Note) (text₀ : List ℕ) (at₀ : ℕ) (text : List ℕ) (at i : ℕ) : Type 0 where
  pub room : at₀ + length (lines_noted notes) ≤ length text₀
  pub storing : Storing (lines_noted notes) text₀ at₀ text at (lines_noted (drop i notes))

module _ {notes : List Note} {text₀ : List ℕ} {at₀ : ℕ} {text : List ℕ} {at i : ℕ} (w : Writing notes text₀ at₀ text at i) where
  -- the two fields of the next line were written
  pub writing_next : (e : Note) → i < length notes → {at' : ℕ} {text' : List ℕ}
      → (at' ≡ place_after text at (field (get_or notes i e).kind 32)) × (text' ≡ placed text at (field (get_or notes i e).kind 32)) → {at'' : ℕ} {text'' : List ℕ}
      → (at'' ≡ place_after text' at' (field (get_or notes i e).answer 10)) × (text'' ≡ placed text' at' (field (get_or notes i e).answer 10))
      → Writing notes text₀ at₀ text'' at'' (i + 1)
  writing_next e h kind answer =
      record {
        room = w.room;
        storing =
            next (field (get_or notes i e).answer 10) w.room (next (field (get_or notes i e).kind 32) w.room (rw (lines_from notes i e h) at w.storing) kind) answer;
      }

  -- no request is left
  pub writing_all : length notes ≤ i → (at ≡ at₀ + length (lines_noted notes)) × (text ≡ put text₀ at₀ (lines_noted notes))
  writing_all h = stored w.storing (ap lines_noted (drop_of_length-le notes h) ∙ no_lines)

-- THE LAST LINE

end_fields : (stop : ℕ) → end_line stop ≡ end_word ++ field stop 10
unfolding end_line line
end_fields stop = refl

-- it is stored word by word
pub end_start : (stop : ℕ) (out : List ℕ) (at : ℕ) → Storing (end_line stop) out at out at (end_word ++ field stop 10)
end_start stop out at = subst (Storing (end_line stop) out at out at) (end_fields stop) (start (end_line stop) out at)

end_most : {A : Type 0} (stop : Result A Refusal) → length (end_line (answer_number stop)) ≤ 7
end_most stop =
    let n = answer_number stop in
    let digits = length_most 1 n (omega (arith, number_most stop)) in
    omega (arith, ap length (end_fields n), length-append end_word (field n 10), field_length n 10)

-- HOW MANY REQUESTS THERE ARE: no more than bytes

further_most : (more : List ℕ → Stream) (n : ℕ) (s : List ℕ) → ((rest : List ℕ) → length (more rest).requests ≤ n) → (x : RequestRead)
    → length (further more s x).requests ≤ suc n
further_most more n s most (Read q k) = omega (arith, most (drop k s))
further_most more n s most (Refused w) = omega arith

read_most : (n : ℕ) (s : List ℕ) → length (read_stream n s).requests ≤ n
unfolding read_stream
read_most zero s = omega arith
read_most (suc n) [] = omega arith
read_most (suc n) (b ∷ s) = further_most (λ rest. read_stream n rest) n (b ∷ s) (read_most n) (read_request (b ∷ s))

requests_most : (s : List ℕ) → length (stream_of s).requests ≤ length s
unfolding stream_of
requests_most s = read_most (length s) s

-- HOW LONG THEIR LINES ARE

-- n calls, each of which has answered 0 to 16
data Small : ℕ → Log → Type 0 where
  none : Small zero []
  more : {n : ℕ} {log : Log} (a : Answered) → a.answer ≤ 16 → Small n log → Small (suc n) (a ∷ log)

then : {n m : ℕ} {l k : Log} → Small n l → Small m k → Small (n + m) (l ++ k)
then {m = m} none q = rw (zero-add m) q
then {m = m} (more {n} a h p) q = rw (suc-add n m) (more a h (then p q))

-- in their order
in_order_lem : {n : ℕ} {log : Log} → Small n log → Small n (in_order log)
unfolding in_order
in_order_lem none = none
in_order_lem (more {n} a h p) = rw (add-one n) at (then (in_order_lem p) (more a h none))

-- carried out one after another
carried_out : (pair : Pair) (ks : List Request) {n : ℕ} (w : Run) → Small n w.log → Small (length ks + n) (run pair ks w).log
unfolding run
carried_out pair [] {n} w p = rw (zero-add n) p
carried_out pair (k ∷ ks) {n} w p = rw (suc-add (length ks) n, sym (add-suc (length ks) n)) (carried_out pair ks _ (more _ (answer_most pair k w.buffers) p))

-- how large the numbers are
kind_most : (q : Request) → kind_of q ≤ 7
kind_most (Register c f) = omega arith
kind_most (Record c j f h) = omega arith
kind_most (CheckOut c j) = omega arith
kind_most (CheckIn j f1) = omega arith
kind_most (MoveOut j h f) = omega arith
kind_most (MoveIn c j h) = omega arith
kind_most (Delete j f) = omega arith

-- a digit, a space, at most two digits and a line end
line_most : (k a : ℕ) → k ≤ 7 → a ≤ 16 → length (line (k ∷ a ∷ [])) ≤ 5
line_most k a kind answer =
    let one = length_last k (omega arith) in
    let two = length_most 1 a (omega arith) in
    omega (arith, line_length k a)

-- so n lines have at most 5 * n bytes
lines_most : {n : ℕ} {log : Log} → Small n log → length (answer_lines (map (λ a. kind_of a.call) log) (map (λ a. a.answer) log)) ≤ 5 * n
unfolding answer_lines
lines_most none = omega arith
lines_most (more {log = log} a h p) =
    let first = line (kind_of a.call ∷ a.answer ∷ []) in
    let others = answer_lines (map (λ (b : Answered). kind_of b.call) log) (map (λ (b : Answered). b.answer) log) in
    omega (arith, length-append first others, line_most (kind_of a.call) a.answer (kind_most a.call) h, lines_most p)

-- the calls of the program
program_small : (s : List ℕ) → Small (length (stream_of s).requests) (in_order (program_run s).log)
program_small s = in_order_lem (rw (add-zero (length (stream_of s).requests)) at (carried_out Audio (stream_of s).requests (from (fresh Audio 64 0 0)) none))

-- WHAT WAS NOTED of them stands in front
noted : (places notes : List Note) → length notes ≤ length places → take (length notes) (overwritten places notes) ≡ notes
unfolding overwritten
noted places [] h = refl
noted [] (n ∷ notes) h = absurd (omega arith)
noted (x ∷ places) (n ∷ notes) h = ap (λ (l : List Note). n ∷ l) (noted places notes (omega arith))

-- the lines of the notes are those of the kinds and the answers
lines_of_notes : (log : Log) → lines_noted (map note_of log) ≡ answer_lines (map (λ a. kind_of a.call) log) (map (λ a. a.answer) log)
unfolding answer_lines
lines_of_notes [] = refl
lines_of_notes (a ∷ log) = ap (λ (l : List ℕ). line (kind_of a.call ∷ a.answer ∷ []) ++ l) (lines_of_notes log)

-- as many as there are calls
notes_counted : {n : ℕ} {log : Log} → Small n log → length (map note_of log) ≡ n
notes_counted none = refl
notes_counted (more a h p) = ap suc (notes_counted p)

-- ALL OF IT

-- the lines of a stream's requests
abbrev lines_of : List ℕ → List ℕ
lines_of s = answer_lines (kinds_in (program_run s)) (answers_in (program_run s))

-- a stream s was served, and what was noted of its requests stands in front: their lines are those to print, and there is room for them
pub record InFront (s : List ℕ) (r : Served) (notes : List Note) : Type 0 where
  pub stop : answer_number r.stop ≡ (stream_of s).stop
  pub within : r.count ≤ length notes
  pub taken : r.count ≡ length (take r.count notes)
  pub lines_are : lines_noted (take r.count notes) ≡ lines_of s
  pub lines_short : length (lines_of s) ≤ 20480

module _ (s : List ℕ) (few : length s ≤ 4096) where
  pub served_in_front : {r : Served} {after : Buffers} {n : Note} {notes : List Note} → Serves Audio s (fresh Audio 64 0 0) r after (replicate 4096 n) notes → InFront s r notes
  served_in_front {r} {after} {n} {notes} e =
      let made = notes_in (program_run s) in
      let count : r.count ≡ length made = e.count ∙ sym (notes_counted (program_small s)) in
      let enough : length made ≤ length (replicate {A = Note} 4096 n) =
      omega (arith, notes_counted (program_small s), requests_most s, length-replicate {A = Note} 4096 n) in
      let in_front : take r.count notes ≡ made = ap₂ take count e.notes_are ∙ noted (replicate 4096 n) made enough in
      let all : r.count ≡ length (take r.count notes) = count ∙ sym (ap length in_front) in
      record {
        stop = e.stop;
        within = omega (arith, length-take r.count notes);
        taken = all;
        lines_are = ap lines_noted in_front ∙ lines_of_notes (in_order (program_run s).log);
        lines_short = omega (arith, lines_most (program_small s), requests_most s);
      }

module _ {s : List ℕ} {r : Served} {notes : List Note} (d : InFront s r notes) (text : List ℕ) (long : length text ≡ 20512) where
  pub lines_fit : 0 + length (lines_noted (take r.count notes)) ≤ length text
  lines_fit = omega (arith, ap length d.lines_are, d.lines_short)

  -- they were written
  module _ {at : ℕ} {m : List ℕ}
      (lines : (at ≡ 0 + length (lines_noted (take r.count notes))) × (m ≡ put text 0 (lines_noted (take r.count notes)))) where
    place : at ≡ length (lines_of s)
    place = omega (arith, lines.0, ap length d.lines_are)

    is : m ≡ put text 0 (lines_of s)
    is = lines.1 ∙ ap (put text 0) d.lines_are

    -- there is room for the last line after them
    pub end_fits : at + length (end_line (answer_number r.stop)) ≤ length m
    end_fits = omega (arith, place, d.lines_short, end_most r.stop, ap length is, put_length text (lines_of s) 0 (omega (arith, d.lines_short)))

    -- and with it all that is printed stands at the front
    pub is_printed : {n : ℕ} {left : List ℕ} → (n ≡ at + length (end_line (answer_number r.stop))) × (left ≡ put m at (end_line (answer_number r.stop)))
        → (n ≡ length (counter_printed s)) × (IsPrefixLen n left × ((take n left ≡ counter_printed s) × (left ≡ put text 0 (counter_printed s))))
    unfolding counter_printed
    is_printed {n} {left} e =
        let more = end_line (stream_of s).stop in
        let last_line : end_line (answer_number r.stop) ≡ more = ap end_line d.stop in
        let whole = length-append (lines_of s) more in
        let room : length (lines_of s ++ more) ≤ length text = omega (arith, d.lines_short, ap length last_line, end_most r.stop) in
        let count : n ≡ length (lines_of s ++ more) = omega (arith, e.0, place, ap length last_line) in
        at_front text (lines_of s ++ more) room count
        (e.1
        ∙ ap (put m at) last_line
        ∙ ap₂ (λ (k : ℕ) (l : List ℕ). put l k more) (place ∙ sym (zero-add (length (lines_of s)))) is
        ∙ put_next text (lines_of s) more 0 (omega arith))
