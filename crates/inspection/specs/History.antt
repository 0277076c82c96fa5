-- What inspection tells after a list of calls of demand 3: each title that was granted and not deleted has one holder, and as many copies as
-- loans that are out; any other has neither.
use Rattle.std.specs.Prelude.{ℕ, ◌+◌, ◌^◌, ◌<◌, ◌≡◌, ◌≢◌, List, [], ◌∷◌, None, Some}
use Rattle.formats.specs.Answer.{done, refused}
use Rattle.formats.specs.declared.head.Pair.{Pair}
use Rattle.formats.specs.declared.facts.Facts.{Facts}
use Rattle.requests.specs.declared.request.Request.{Request}
use Rattle.calls.specs.Buffers.{Buffers, Within}
use Rattle.calls.specs.History.{Run, Action, checked_out, checked_in, copy_deleted, holder_deleted, actions, times, grant, start, run}
use Rattle.inspection.specs.Inspect.{title_inspected}

-- "exactly one holder", and copies: the check-outs that were neither checked in nor deleted
pub record OneHolder (pair : Pair) (c : ℕ) (acts : List Action) (b : Buffers) : Type 0 where
  pub out : ℕ
  pub inspected : title_inspected pair b c ≡ done (1 ∷ out ∷ [])
  pub loans : times checked_out acts ≡ out + times checked_in acts + times copy_deleted acts

-- title c, of which acts were done; "If its holder was deleted, it has neither holder nor copy."
pub record TitleInspects (pair : Pair) (c : ℕ) (acts : List Action) (b : Buffers) : Type 0 where
  pub unless_deleted : times holder_deleted acts ≡ 0 → OneHolder pair c acts b
  pub if_deleted : times holder_deleted acts ≢ 0 → title_inspected pair b c ≡ done (0 ∷ 0 ∷ [])

-- of every title granted in a run, and of every other row of the ledger
pub record AllInspect (pair : Pair) (rows : ℕ) (w : Run) : Type 0 where
  pub titles : (c : ℕ) (f : Facts) → grant (actions c w.log) ≡ Some f → TitleInspects pair c (actions c w.log) w.buffers
  pub no_other : (c : ℕ) → Within rows c → grant (actions c w.log) ≡ None → title_inspected pair w.buffers c ≡ done (0 ∷ 0 ∷ [])

-- after every list of calls from a fresh ledger and card, "whatever R and the application numbers"
pub record InspectsOne : Type 0 where
  pub of_one_application : (pair : Pair) (rows application : ℕ) → Within 999 rows → application < 2 ^ 16 → (ks : List Request)
      → AllInspect pair rows (run pair ks (start pair rows application application))
  -- a card of another application is not looked at beside this ledger, whatever title is asked for: "9 .. its application number other
  -- than the ledger's included"
  pub of_two : (pair : Pair) (rows application card_application : ℕ) → Within 999 rows → application < 2 ^ 16 → card_application < 2 ^ 16
      → card_application ≢ application → (ks : List Request) (c : ℕ) → Within 999 c
      → title_inspected pair (run pair ks (start pair rows application card_application)).buffers c ≡ refused 9
