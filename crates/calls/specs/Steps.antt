-- Calls and previews at a counter, one after another (document 02, W6): "A preview is no call in a title's history", and a basket that is
-- committed after its preview is answered as it was previewed.
use Rattle.std.specs.Prelude.{ℕ, ◌≤◌, ◌<◌, ◌≡◌, List, [], ◌∷◌, ◌++◌, map, Option, None, Some, length, take, get_or}
use Rattle.formats.specs.declared.head.Pair.{Pair}
use Rattle.requests.specs.declared.request.Request.{Request}
use Rattle.calls.specs.Buffers.{Buffers}
use Rattle.calls.specs.History.{Run, next, run, from, start, answers, After}
use Rattle.calls.specs.Preview.{perform_given, perform_all, Previewed, preview}

-- THE TILL

-- what is done at a counter: what is given as a request is committed, or a basket is previewed, for either pair and with whatever stands
-- in the scratch buffers and in the places for the answers
pub data Step : Type 0 where
  commits : Option Request → Step
  previews : (pair : Pair) (basket : List (Option Request)) (count : ℕ) (scratch : Buffers) (places : List ℕ) → Step

-- a till: the run of its calls, and what its previews were answered, the last first
pub record Till : Type 0 where
  pub run : Run
  pub previewed : List Previewed

-- what is committed is a call on the originals; a kind that is none is no call
abbrev pub commit : Pair → Option Request → Run → Run
commit pair None w = w
commit pair (Some k) w = next pair k w

-- a preview is of the originals as they are, which it is lent to read
abbrev pub step : Pair → Step → Till → Till
step pair (commits g) s = record { run = commit pair g s.run; previewed = s.previewed }
step pair (previews other basket count scratch places) s =
    record { run = s.run; previewed = preview other basket count s.run.buffers scratch places ∷ s.previewed }

unfoldable pub all_steps : Pair → List Step → Till → Till
all_steps pair [] s = s
all_steps pair (d ∷ steps) s = all_steps pair steps (step pair d s)

-- a till after calls, without previews so far
abbrev pub till_after : Run → Till
till_after w = record { run = w; previewed = [] }

-- THE HISTORY

-- the calls among its steps, without the previews
abbrev pub calls_of : List Step → List Request
calls_of [] = []
calls_of (commits None ∷ steps) = calls_of steps
calls_of (commits (Some k) ∷ steps) = k ∷ calls_of steps
calls_of (previews other basket count scratch places ∷ steps) = calls_of steps

-- "A preview is no call in a title's history.": the calls' answers, the ledger and the card are those without the previews. That a preview
-- writes no original, as `step` has it, holds of the code since `counter_preview` is lent them only to read
abbrev pub NoCallInHistory : Type 0
NoCallInHistory = (pair : Pair) (steps : List Step) (s : Till) → (all_steps pair steps s).run ≡ run pair (calls_of steps) s.run

-- steps that are nothing but calls are the run of them
abbrev pub CallsAlone : Type 0
CallsAlone = (pair : Pair) (ks : List Request) (w : Run) → all_steps pair (map (λ k. commits (Some k)) ks) (till_after w) ≡ till_after (run pair ks w)

-- and so demand 3 holds of every list of calls with any previews between them
abbrev pub HistoryWithPreviews : Type 0
HistoryWithPreviews =
    (pair : Pair) (rows application card_application : ℕ) → 1 ≤ rows → rows ≤ 999 → (steps : List Step)
    → After (all_steps pair steps (till_after (start pair rows application card_application))).run

-- each preview is of the ledger and the card as the calls before it left them
abbrev pub PreviewedAsLeft : Type 0
PreviewedAsLeft =
    (pair other : Pair) (steps : List Step) (basket : List (Option Request)) (count : ℕ) (scratch : Buffers) (places : List ℕ) (s : Till)
    → (all_steps pair (steps ++ (previews other basket count scratch places ∷ [])) s).previewed
    ≡ preview other basket count (run pair (calls_of steps) s.run).buffers scratch places ∷ (all_steps pair steps s).previewed

-- COMMITTING A BASKET

-- the originals once its requests are committed one by one
abbrev pub committed : Pair → List (Option Request) → Run → Buffers
committed pair basket w = (all_steps pair (map commits basket) (till_after w)).run.buffers

-- after these calls, place by place: what was previewed is what the request there is answered, once those before it are committed, and the
-- scratch buffers are what the originals become
pub record CommittedAs (pair : Pair) (basket : List (Option Request)) (count : ℕ) (w : Run) (p : Previewed) : Type 0 where
  pub answers : (i : ℕ) → i < count → get_or p.answers i 0 ≡ (perform_given pair (get_or basket i None) (committed pair (take i basket) w)).answer
  pub past_count : (i : ℕ) → count ≤ i → get_or p.answers i 0 ≡ 0
  pub buffers : committed pair (take count basket) w ≡ p.scratch

-- of every basket of 16 places that is committed right after its preview, whatever was done before
abbrev pub CommitsAsPreviewed : Type 0
CommitsAsPreviewed =
    (pair : Pair) (basket : List (Option Request)) (count : ℕ) (w : Run) (scratch : Buffers) (places : List ℕ) → length basket ≡ 16
    → (preview pair basket count w.buffers scratch places).answer ≡ 0 → CommittedAs pair basket count w (preview pair basket count w.buffers scratch places)

-- where each kind is one, performing a basket is a run of its requests
abbrev pub PerformedAsRun : Type 0
PerformedAsRun =
    (pair : Pair) (ks : List Request) (b : Buffers) → perform_all pair (map Some ks) b ≡ record { answers = answers pair ks b; buffers = (run pair ks (from b)).buffers }

-- what W6 says of lists
pub record PreviewsInLists : Type 0 where
  pub no_call : NoCallInHistory
  pub calls_alone : CallsAlone
  pub history : HistoryWithPreviews
  pub as_left : PreviewedAsLeft
  pub commits_as_previewed : CommitsAsPreviewed
  pub as_run : PerformedAsRun
