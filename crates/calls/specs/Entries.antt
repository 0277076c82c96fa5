-- "Customers want to see which entry once had which loan.": what each entry is after a list of calls of demand 3, and the title whose ID
-- it has, by the calls and their answers alone.
use Rattle.std.specs.Prelude.{ℕ, ◌≤◌, ◌≡◌, List, [], ◌∷◌, Bool, true, false, cond, eqb}
use Rattle.formats.specs.declared.head.Pair.{Pair}
use Rattle.formats.specs.declared.entry.EntryKind.{EntryKind}
use Rattle.formats.specs.declared.entry.EntryKind.TheVariants.{Free, Copy, Full, Spent}
use Rattle.requests.specs.declared.request.Request.{Request}
use Rattle.requests.specs.declared.request.Request.TheVariants.{Register, Record, CheckOut, CheckIn, MoveOut, MoveIn, Delete}
use Rattle.calls.specs.Buffers.{kind_at, content_at, Within}
use Rattle.calls.specs.History.{Log, done, Run, start, run, LastPut, nothing, a_copy, the_holder, last_at, title_of}

-- whether what was last put at entry j has been taken from it once this call is done, where `before` says so of before it
abbrev pub takes : Request → ℕ → Bool → Bool
takes (Register c f) j before = before
takes (Record c i f h) j before = cond (eqb j i.0) false before
takes (CheckOut c i) j before = cond (eqb j i.0) false before
takes (CheckIn i f1) j before = cond (eqb j i.0) true before
takes (MoveOut i h f) j before = cond (eqb j i.0) true before
takes (MoveIn c i h) j before = cond (eqb j i.0) false before
takes (Delete i f) j before = cond (eqb j i.0) true before

-- the last done call at entry j is a check-in, a move out or a delete
unfoldable pub taken_from : ℕ → Log → Bool
taken_from j [] = false
taken_from j (a ∷ log) = cond (done a) (takes a.call j (taken_from j log)) (taken_from j log)

-- an entry is free where nothing was put, spent where what was put there was taken away, and else a copy or full, as it was put there
abbrev pub kind_told : LastPut → Bool → EntryKind
kind_told nothing taken = Free
kind_told (a_copy c) true = Spent
kind_told (a_copy c) false = Copy
kind_told (the_holder c) true = Spent
kind_told (the_holder c) false = Full

-- so entry j is of that kind, and has the ID of the title last put there, though it was taken away; 0 where none was
pub record Tells (j : ℕ) (w : Run) : Type 0 where
  pub kind : kind_at w.buffers j ≡ kind_told (last_at j w.log) (taken_from j w.log)
  pub title : content_at w.buffers j ≡ title_of (last_at j w.log)

-- after every list of calls from any fresh ledger and card
abbrev pub EntriesTell : Type 0
EntriesTell =
    (pair : Pair) (rows application card_application : ℕ) → 1 ≤ rows → rows ≤ 999 → (ks : List Request) (j : ℕ) → Within 999 j
    → Tells j (run pair ks (start pair rows application card_application))
