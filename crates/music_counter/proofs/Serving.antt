-- A stream of requests: one after another, to its end or to its first fault.
-- Assumes nothing.
use Prim.Native.Nat.{ℕ, zero, suc, ◌+◌, ◌≤◌, ◌<◌}
use mathlib.Core.Path.{◌≡◌, refl, sym, ap, ap₂, ◌∙◌}
use mathlib.Core.List.{List, [], ◌∷◌, ◌++◌, map, map-append}
use native.Mathlib.Omega.{arith}
use native.Mathlib.Numerals.{add-one}
use lib.ListN.{length, drop, set, length-drop, length-append, length-set, length-map}
use Rattle.formats.specs.declared.head.Pair.{Pair}
use Rattle.std.specs.Prelude.{Result, Ok, Err}
use Rattle.formats.specs.Refusal.{number_of, answer_number, answer_of}
use Rattle.formats.specs.declared.refusal.Refusal.{Refusal}
use Rattle.requests.specs.Request.{RequestRead, Read, Refused as Faulty, read_request, request_values, request_answer, reading_of, kind_of}
use Rattle.requests.specs.declared.request.Request.{Request}
use Rattle.requests.specs.declared.read.Read.{Read as Found}
use Rattle.requests.proofs.request.Laws.{request_form, same_reading}
use Rattle.calls.specs.Buffers.{Buffers}
use Rattle.calls.specs.Perform.{Performed, perform}
use Rattle.calls.specs.History.{Answered, Log, Run, run, in_order}
use Rattle.music_counter.specs.Answer.{Answers}
use Rattle.music_counter.specs.declared.serve.Note.{Note}
use Rattle.music_counter.specs.Serve.{Stream, further, read_stream, stream_of, served_run, note_of, notes_in, overwritten, Serves}

-- THE STREAM, request by request

-- a request that was read leaves fewer bytes
shorter : (s : List ℕ) {q : Request} {k : ℕ} → read_request s ≡ Read q k → length (drop k s) < length s
shorter s {k = k} e =
    let f = request_form s e in
    omega (arith, length-drop k s, f.within, f.positive)

-- what follows a request depends on the shorter rest only
same_further : (f g : List ℕ → Stream) (s : List ℕ) → ((t : List ℕ) → length t < length s → f t ≡ g t) → (x : RequestRead) → read_request s ≡ x
    → further (λ t. f t) s x ≡ further (λ t. g t) s x
same_further f g s same (Faulty w) e = refl
same_further f g s same (Read q k) e = ap (λ (t : Stream). record { requests = q ∷ t.requests; stop = t.stop }) (same (drop k s) (shorter s e))

-- the bound on the count does not matter where it is enough
enough : (n m : ℕ) (s : List ℕ) → length s ≤ n → length s ≤ m → read_stream n s ≡ read_stream m s
unfolding read_stream
enough zero zero s p q = refl
enough zero (suc m) [] p q = refl
enough zero (suc m) (b ∷ s) p q = absurd (omega arith)
enough (suc n) zero [] p q = refl
enough (suc n) zero (b ∷ s) p q = absurd (omega arith)
enough (suc n) (suc m) [] p q = refl
enough (suc n) (suc m) (b ∷ s) p q = same_further (read_stream n) (read_stream m) (b ∷ s) (λ t h. enough n m t (omega arith) (omega arith)) (read_request (b ∷ s)) refl

stream_ends : (s : List ℕ) → length s ≤ 0 → stream_of s ≡ record { requests = []; stop = 0 }
unfolding stream_of read_stream
stream_ends [] h = refl
stream_ends (b ∷ s) h = absurd (omega arith)

stream_fault : (s : List ℕ) {w : ℕ} → 0 < length s → read_request s ≡ Faulty w → stream_of s ≡ record { requests = []; stop = w }
unfolding stream_of read_stream
stream_fault [] h e = absurd (omega arith)
stream_fault (b ∷ s) h e = ap (further (λ t. read_stream (length s) t) (b ∷ s)) e

stream_next : (s : List ℕ) {q : Request} {k : ℕ} → read_request s ≡ Read q k
    → stream_of s ≡ record { requests = q ∷ (stream_of (drop k s)).requests; stop = (stream_of (drop k s)).stop }
unfolding stream_of read_stream
stream_next [] {q} {k} e = absurd (let h = request_form [] e in omega (arith, h.within, h.positive))
stream_next (b ∷ s) {q} {k} e =
    let h = shorter (b ∷ s) e in
    ap (further (λ t. read_stream (length s) t) (b ∷ s)) e
    ∙ ap (λ (t : Stream). record { requests = q ∷ t.requests; stop = t.stop })
    (enough (length s) (length (drop k (b ∷ s))) (drop k (b ∷ s)) (omega arith) (omega arith))

-- THE NOTES of each request

none_over : (places : List Note) → overwritten places [] ≡ places
unfolding overwritten
none_over [] = refl
none_over (x ∷ places) = refl

-- one more is set behind the others, where there is a place for it
one_more_lem : (places notes : List Note) (n : Note) → set (overwritten places notes) (length notes) n ≡ overwritten places (notes ++ (n ∷ []))
unfolding overwritten
one_more_lem [] notes n = refl
one_more_lem (x ∷ places) [] n = ap (λ (l : List Note). n ∷ l) (sym (none_over places))
one_more_lem (x ∷ places) (m ∷ notes) n = ap (λ (l : List Note). m ∷ l) (one_more_lem places notes n)

-- of each call of a log in its order: as many as there are calls stand in the places, the first in front
pub record Noted (places : List Note) (log : Log) (notes : List Note) : Type 0 where
  pub are : notes ≡ overwritten places (map note_of (in_order log))
  pub same_length : length notes ≡ length places

length_in_order : (log : Log) → length (in_order log) ≡ length log
unfolding in_order
length_in_order [] = refl
length_in_order (a ∷ log) = length-append (in_order log) (a ∷ []) ∙ ap (λ (n : ℕ). n + 1) (length_in_order log) ∙ add-one (length log)

module _ {places : List Note} {log : Log} {notes : List Note} (noted : Noted places log notes) where
  note_next : (a : Answered) {count : ℕ} {after : List Note} → count ≡ length log → after ≡ set notes count (note_of a) → Noted places (a ∷ log) after
  unfolding in_order
  note_next a {count} e wrote =
      let old = map note_of (in_order log) in
      let long : count ≡ length old = e ∙ sym (length-map (in_order log) note_of ∙ length_in_order log) in
      rw wrote record {
        are =
            ap₂ (λ (l : List Note) (n : ℕ). set l n (note_of a)) noted.are long
            ∙ one_more_lem places old (note_of a)
            ∙ ap (overwritten places) (sym (map-append note_of (in_order log) (a ∷ [])));
        same_length = length-set notes count (note_of a) ∙ noted.same_length;
      }

-- SERVING IT

-- requests of s are carried out from `before`: the bytes `rest` are unread, the buffers are b, and `count` requests are noted. What
-- serving the rest comes to from here is what serving all comes to.
pub record Serving (pair : Pair) (s : List ℕ) (before : Buffers) (notes : List Note) (rest : List ℕ) (b : Buffers) (notes' : List Note) (count : ℕ) : Type 0 where
  pub log : Log
  pub stops : (stream_of rest).stop ≡ (stream_of s).stop
  pub comes_to : run pair (stream_of rest).requests (record { log = log; buffers = b }) ≡ served_run pair s before
  pub counts : count + length (stream_of rest).requests ≡ length (stream_of s).requests
  pub count_is : count ≡ length log
  pub at_most : count + length rest ≤ length s
  pub noted : Noted notes log notes'

pub start : (pair : Pair) (s : List ℕ) (b : Buffers) (notes : List Note) → Serving pair s b notes s b notes 0
unfolding in_order
start pair s b notes =
    record {
      log = [];
      stops = refl;
      comes_to = refl;
      counts = omega arith;
      count_is = refl;
      at_most = omega arith;
      noted = record { are = sym (none_over notes); same_length = refl };
    }

module _ {pair : Pair} {s : List ℕ} {before : Buffers} {notes : List Note} {rest : List ℕ} {b : Buffers} {notes' : List Note} {count : ℕ}
    (r : Serving pair s before notes rest b notes' count) where
  -- the stream of the rest has no request
  ended : (stop : Result (Unit {0}) Refusal) → stream_of rest ≡ record { requests = []; stop = answer_number stop }
      → Serves pair s before (record { stop = stop; count = count }) b notes notes'
  unfolding run
  ended stop e =
      let here : Run = record { log = r.log; buffers = b } in
      let all : here ≡ served_run pair s before = ap (λ (t : Stream). run pair t.requests here) (sym e) ∙ r.comes_to in
      let none : length (stream_of rest).requests ≡ 0 = ap (λ (t : Stream). length t.requests) e in
      record {
        stop = ap (λ (t : Stream). t.stop) (sym e) ∙ r.stops;
        count = omega (arith, r.counts, none);
        buffers = ap (λ (w : Run). w.buffers) all;
        notes_are = r.noted.are ∙ ap (λ (w : Run). overwritten notes (notes_in w)) all;
      }

  -- nothing is left
  pub finished : length rest ≡ 0 → Serves pair s before (record { stop = Ok tt; count = count }) b notes notes'
  finished h = ended (Ok tt) (stream_ends rest (omega arith))

  -- x was read at the front of the rest
  module _ (x : Result (Found Request) Refusal) (read : answer_of request_values x ≡ request_answer (read_request rest)) where
    found : {y : RequestRead} → reading_of x ≡ y → read_request rest ≡ y
    found e = sym (same_reading x read) ∙ e

    -- it is a refusal
    pub faulted : (length rest ≡ 0 → ⊥) → {w : Refusal} → x ≡ Err w → (stop : Result (Unit {0}) Refusal) → answer_number stop ≡ number_of w
        → Serves pair s before (record { stop = stop; count = count }) b notes notes'
    faulted h e stop d =
        ended stop (stream_fault rest (omega arith) (found (ap reading_of e)) ∙ ap (λ (n : ℕ). record { requests = []; stop = n }) (sym d))

    -- it is a request
    module _ {q : Found Request} (e : x ≡ Ok q) where
      as_read : read_request rest ≡ Read q.value q.len
      as_read = found (ap reading_of e)

      -- there is a number for one more
      pub room : count + 1 ≤ length s
      room = omega (arith, shorter rest as_read, r.at_most)

      -- it was carried out, and the bytes after it are unread
      module _ {unread : List ℕ} (after-it : unread ≡ drop q.len rest) where
        pub fewer : length unread < length rest
        fewer = rw after-it (shorter rest as_read)

        pub served : {kind answer : ℕ} {after : Buffers} {notes'' : List Note} → Answers pair q.value b answer after → kind ≡ kind_of q.value
            → notes'' ≡ set notes' count (record { kind = kind; answer = answer }) → Serving pair s before notes unread after notes'' (count + 1)
        unfolding run
        served {kind} {answer} made kind_is wrote =
            let next = stream_next rest as_read in
            let line : Answered = record { call = q.value; answer = (perform pair q.value b).answer } in
            let answer-is = ap (λ (p : Performed). p.answer) made in
            rw (after-it, ap (λ (p : Performed). p.buffers) made)
            (record {
              log = line ∷ r.log;
              stops = ap (λ (t : Stream). t.stop) (sym next) ∙ r.stops;
              comes_to = ap (λ (t : Stream). run pair t.requests (record { log = r.log; buffers = b })) (sym next) ∙ r.comes_to;
              counts = omega (arith, r.counts, ap (λ (t : Stream). length t.requests) next);
              count_is = omega (arith, r.count_is);
              at_most = omega (arith, shorter rest as_read, r.at_most);
              noted = note_next r.noted line r.count_is
                  (wrote ∙ ap₂ (λ (k a : ℕ). set notes' count (record { kind = k; answer = a })) kind_is answer-is);
            })
