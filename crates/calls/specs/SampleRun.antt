-- Document 01's sample run of the program, as calls on a fresh ledger and card, of either pair: "Input, all in hexadecimal, 01 01 02
-- 00 01 01 05 06, 03 01 07, 03 01 08, 06 01 09 00, 04 07 09, 06 01 09 00".
use Rattle.std.specs.Prelude.{ℕ, ◌≡◌, List, [], ◌∷◌}
use Rattle.formats.specs.declared.head.Pair.{Pair}
use Rattle.formats.specs.declared.facts.Facts.{Facts}
use Rattle.formats.specs.declared.facts.Fillers.{Fillers}
use Rattle.requests.specs.declared.request.Request.{Request}
use Rattle.requests.specs.declared.request.Request.TheVariants.{Register, Record, CheckIn, MoveOut, MoveIn, Delete}
use Rattle.calls.specs.Buffers.{fresh}
use Rattle.calls.specs.History.{answers}
use Rattle.calls.specs.Examples.{check_out}

-- the facts of title 1: CCI 2, trigger 0, one right, one permit, keys 5 and 6
abbrev pub sample_facts : Facts
sample_facts = record { cci = 2; trigger = 0; rights = 1; permits = 1; title_key = 5; sti_key = 6 }

abbrev pub registration : ℕ → Facts → Request
registration content facts = Register (record { 0 = content }) facts

-- check-in of entry 7 with the filler 9, and move in of title 1 to entry 9 with C_HASH 0
abbrev pub check_in : Request
check_in = CheckIn (record { 0 = 7 }) 9

abbrev pub move_in : Request
move_in = MoveIn (record { 0 = 1 }) (record { 0 = 9 }) 0

abbrev pub sample_requests : List Request
sample_requests = registration 1 sample_facts ∷ check_out 1 7 ∷ check_out 1 8 ∷ move_in ∷ check_in ∷ move_in ∷ []

-- "formats a ledger of 64 rows and a card, application number 0": the second check-out finds no permit, the first move in a copy
abbrev pub SampleRun : Type 0
SampleRun = (pair : Pair) → answers pair sample_requests (fresh pair 64 0 0) ≡ 0 ∷ 0 ∷ 12 ∷ 14 ∷ 0 ∷ 0 ∷ []

-- Beside it a run in which each of the seven calls is done, so that what each of them needs can be met: title 2 is registered;
-- title 1 is recorded on the card, moved out, lent and returned, lent and its copy deleted, moved in, and deleted with its holder.
abbrev pub two_moves : Facts
two_moves = record { cci = 2; trigger = 0; rights = 2; permits = 1; title_key = 5; sti_key = 6 }

abbrev pub nines : Fillers
nines = record { f1 = 9; f2 = 9; f3 = 9; f4 = 9 }

abbrev pub deletion : ℕ → Request
deletion entry = Delete (record { 0 = entry }) nines

abbrev pub recording : Request
recording = Record (record { 0 = 1 }) (record { 0 = 7 }) two_moves 3

abbrev pub move_out : Request
move_out = MoveOut (record { 0 = 7 }) 3 nines

abbrev pub every_call : List Request
every_call =
    registration 2 sample_facts ∷ recording ∷ move_out ∷ check_out 1 7 ∷ check_in ∷ check_out 1 7 ∷ deletion 7 ∷ move_in ∷ deletion 9 ∷ []

abbrev pub EveryCallDone : Type 0
EveryCallDone = (pair : Pair) → answers pair every_call (fresh pair 64 0 0) ≡ 0 ∷ 0 ∷ 0 ∷ 0 ∷ 0 ∷ 0 ∷ 0 ∷ 0 ∷ 0 ∷ []
