-- Demand 3: what holds after every list of the seven calls that starts from a freshly formatted ledger and card. Counts come
-- from the calls and their answers alone, holders and copies from the bytes after the list alone.
use Rattle.std.specs.Prelude.{ℕ, ◌+◌, ◌≤◌, ◌≡◌, ◌≢◌, List, [], ◌∷◌, ◌++◌, map, Bool, ◌&&◌, cond, eqb, Option, None, Some}
use Rattle.formats.specs.declared.head.Pair.{Pair}
use Rattle.formats.specs.declared.facts.Facts.{Facts}
use Rattle.requests.specs.declared.request.Request.{Request}
use Rattle.requests.specs.declared.request.Request.TheVariants.{Register, Record, CheckOut, CheckIn, MoveOut, MoveIn, Delete}
use Rattle.formats.specs.declared.row.RowState.TheVariants.{Here}
use Rattle.formats.specs.declared.entry.EntryKind.TheVariants.{Copy, Full}
use Rattle.calls.specs.Buffers.{Buffers, state_at, kind_at, content_at, facts_at, cci_at, is_here, one, copies, full_entries, fresh, Within}
use Rattle.calls.specs.Effect.{copy_cci}
use Rattle.calls.specs.Perform.{perform}

-- THE LIST

-- a call and its answer; a log has the last call first
pub record Answered : Type 0 where
  pub call : Request
  pub answer : ℕ

abbrev pub Log : Type 0
Log = List Answered

-- "a call is done if it answers 0"
abbrev pub done : Answered → Bool
done a = eqb a.answer 0

-- what a list of calls leaves: their log and the buffers
pub record Run : Type 0 where
  pub log : Log
  pub buffers : Buffers

-- "Each call finds them as the last one left them"
abbrev pub next : Pair → Request → Run → Run
next pair k w =
    record {
      log = record { call = k; answer = (perform pair k w.buffers).answer } ∷ w.log;
      buffers = (perform pair k w.buffers).buffers;
    }

-- all calls of a list are of one pair
unfoldable pub run : Pair → List Request → Run → Run
run pair [] w = w
run pair (k ∷ ks) w = run pair ks (next pair k w)

-- no call yet
abbrev pub from : Buffers → Run
from b = record { log = []; buffers = b }

abbrev pub start : Pair → ℕ → ℕ → ℕ → Run
start pair rows application card_application = from (fresh pair rows application card_application)

-- a log in the order of its calls
unfoldable pub in_order : Log → Log
in_order [] = []
in_order (a ∷ log) = in_order log ++ (a ∷ [])

-- the answers of a run in the order of its calls, and those of calls one after another
abbrev pub answers_in : Run → List ℕ
answers_in w = map (λ a. a.answer) (in_order w.log)

abbrev pub answers : Pair → List Request → Buffers → List ℕ
answers pair ks b = answers_in (run pair ks (from b))

-- THE COUNTS, from the log

-- what was put at an entry, and of which title
pub data LastPut : Type 0 where
  nothing : LastPut
  a_copy : ℕ → LastPut
  the_holder : ℕ → LastPut

-- what was last put at entry j once this call is done, where `before` was last put there before it
abbrev pub puts : Request → ℕ → LastPut → LastPut
puts (Register c f) j before = before
puts (Record c i f h) j before = cond (eqb j i.0) (the_holder c.0) before
puts (CheckOut c i) j before = cond (eqb j i.0) (a_copy c.0) before
puts (CheckIn i f1) j before = before
puts (MoveOut i h f) j before = before
puts (MoveIn c i h) j before = cond (eqb j i.0) (the_holder c.0) before
puts (Delete i f) j before = before

-- "the last done record, check-out or move in .. to that entry"
unfoldable pub last_at : ℕ → Log → LastPut
last_at j [] = nothing
last_at j (a ∷ log) = cond (done a) (puts a.call j (last_at j log)) (last_at j log)

-- what a done call does to a title
pub data Action : Type 0 where
  granted : Facts → Action
  checked_out : Action
  checked_in : Action
  moved : Action
  copy_deleted : Action
  holder_deleted : Action

pub record Event : Type 0 where
  pub title : ℕ
  pub action : Action

-- the title named by the call that put it there; 0, which no title has, where there was none
abbrev pub title_of : LastPut → ℕ
title_of nothing = 0
title_of (a_copy c) = c
title_of (the_holder c) = c

-- "A done delete deletes a copy if that last call was a check-out, and the holder otherwise."
abbrev pub deletion : LastPut → Action
deletion nothing = holder_deleted
deletion (a_copy c) = copy_deleted
deletion (the_holder c) = holder_deleted

-- "A title .. is granted by the done register or record with c .. A check-out or move in with c belongs to title c. A
-- check-in, move out or delete names only an entry: it belongs to the title named by the last done record, check-out or
-- move in before it to that entry. .. Moves are move outs and move ins together."
abbrev pub event : Request → Log → Event
event (Register c f) log = record { title = c.0; action = granted f }
event (Record c j f h) log = record { title = c.0; action = granted f }
event (CheckOut c j) log = record { title = c.0; action = checked_out }
event (CheckIn j f1) log = record { title = title_of (last_at j.0 log); action = checked_in }
event (MoveOut j h f) log = record { title = title_of (last_at j.0 log); action = moved }
event (MoveIn c j h) log = record { title = c.0; action = moved }
event (Delete j f) log = record { title = title_of (last_at j.0 log); action = deletion (last_at j.0 log) }

-- all that was done to title c, the last first
unfoldable pub actions : ℕ → Log → List Action
actions c [] = []
actions c (a ∷ log) =
    cond (done a && eqb c (event a.call log).title) ((event a.call log).action ∷ actions c log) (actions c log)

-- a number for each sort of action, the same for all grants
abbrev pub number : Action → ℕ
number (granted f) = 0
number checked_out = 1
number checked_in = 2
number moved = 3
number copy_deleted = 4
number holder_deleted = 5

-- how often a sort of action stands in a list
unfoldable pub times : Action → List Action → ℕ
times d [] = 0
times d (e ∷ acts) = one (eqb (number d) (number e)) + times d acts

-- "g, m and the granted keys are in that call's facts"
abbrev pub granted_by : Action → Option Facts → Option Facts
granted_by (granted f) before = Some f
granted_by checked_out before = before
granted_by checked_in before = before
granted_by moved before = before
granted_by copy_deleted before = before
granted_by holder_deleted before = before

unfoldable pub grant : List Action → Option Facts
grant [] = None
grant (d ∷ acts) = granted_by d (grant acts)

-- HOLDERS, from the bytes (copies: `copies`)

-- "A holder of c is row c if it is here, or a full entry with ID c"; "exactly one means that row and entries together give one"
unfoldable pub holders : ℕ → Buffers → ℕ
holders c b = one (is_here (state_at b c)) + full_entries c b.titles b.rules

-- "The title's permits, move rights and keys are those in that row, or in the two halves of that entry."
pub data Holder (c : ℕ) (b : Buffers) (f : Facts) : Type 0 where
  in_row : state_at b c ≡ Here f → Holder c b f
  in_entry : (j : ℕ) → 1 ≤ j → j ≤ 999 → kind_at b j ≡ Full → content_at b j ≡ c → facts_at b j ≡ f → Holder c b f

-- THE CLAIM

-- of a number granted: "If g is at most 14, permits plus copies plus copies deleted equal g; if g is 15, permits are 15",
-- and the same of move rights and moves
pub record Account (granted left used : ℕ) : Type 0 where
  pub counted : granted ≤ 14 → left + used ≡ granted
  pub unlimited : granted ≡ 15 → left ≡ 15

-- title c, granted with the facts f, whose actions are acts: "unless its holder was deleted, all four hold", and with them W3
pub record HolderStands (c : ℕ) (f : Facts) (acts : List Action) (b : Buffers) : Type 0 where
  -- "It has exactly one holder, with the granted keys."
  pub one_holder : holders c b ≡ 1
  pub facts : Facts
  pub holder : Holder c b facts
  pub title_key : facts.title_key ≡ f.title_key
  pub sti_key : facts.sti_key ≡ f.sti_key
  -- W3: "a copy has CCI 3 if its title was granted 2, else the granted CCI; the holder's CCI stays as granted"
  pub cci : facts.cci ≡ f.cci
  pub cci_of_copies : (j : ℕ) → Within 999 j → kind_at b j ≡ Copy → content_at b j ≡ c → cci_at b j ≡ copy_cci f.cci
  -- "Its check-outs equal its copies plus its check-ins plus its copies deleted."
  pub check_outs : times checked_out acts ≡ copies c b.titles b.rules + times checked_in acts + times copy_deleted acts
  pub permits : Account f.permits facts.permits (copies c b.titles b.rules + times copy_deleted acts)
  pub rights : Account f.rights facts.rights (times moved acts)

-- "If its holder was deleted, it has neither holder nor copy."
pub record NoHolder (c : ℕ) (b : Buffers) : Type 0 where
  pub no_holder : holders c b ≡ 0
  pub no_copy : copies c b.titles b.rules ≡ 0

pub record TitleClaim (c : ℕ) (f : Facts) (acts : List Action) (b : Buffers) : Type 0 where
  -- exactly one done register or record has c
  pub granted_once : times (granted f) acts ≡ 1
  pub unless_deleted : times holder_deleted acts ≡ 0 → HolderStands c f acts b
  pub if_deleted : times holder_deleted acts ≢ 0 → NoHolder c b

-- of every title granted in a run
abbrev pub After : Run → Type 0
After w = (c : ℕ) (f : Facts) → grant (actions c w.log) ≡ Some f → TitleClaim c f (actions c w.log) w.buffers

-- DEMAND 3: after every list of calls from any fresh ledger and card. "What holds for a title's history holds for a picture's": the
-- tables are of either pair
abbrev pub History : Type 0
History =
    (pair : Pair) (rows application card_application : ℕ) → 1 ≤ rows → rows ≤ 999 → (ks : List Request)
    → After (run pair ks (start pair rows application card_application))

-- and a title that was not granted in the list has neither holder nor copy: what stands in ledger and card was granted
abbrev pub NoOthers : Type 0
NoOthers =
    (pair : Pair) (rows application card_application : ℕ) → 1 ≤ rows → rows ≤ 999 → (ks : List Request) (c : ℕ)
    → grant (actions c (run pair ks (start pair rows application card_application)).log) ≡ None
    → NoHolder c (run pair ks (start pair rows application card_application)).buffers
