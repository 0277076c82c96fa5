-- Calls and previews at a counter: previews leave no trace, and a basket is committed as it was previewed.
-- Assumes nothing.
use Prim.Native.Nat.{ℕ, zero, suc, ◌<◌}
use mathlib.Core.Path.{◌≡◌, refl, sym, ap, ap₂, subst, ◌∙◌}
use mathlib.Core.List.{List, [], ◌∷◌, ◌++◌}
use native.Mathlib.Omega.{arith}
use lib.ListN.{length, take, get_or}
use Rattle.std.specs.Prelude.{Option, Some, None}
use Rattle.std.proofs.lemmas.List.{length-take-le, get_or_past}
use Rattle.formats.specs.declared.head.Pair.{Pair}
use Rattle.requests.specs.declared.request.Request.{Request}
use Rattle.calls.specs.Buffers.{Buffers}
use Rattle.calls.specs.Perform.{perform}
use Rattle.calls.specs.History.{Run, next, run, from, start, in_order, After}
use Rattle.calls.specs.Preview.{perform_given, answered, perform_all, Previewed, preview}
use Rattle.calls.specs.Steps.{Step, commits, previews, Till, commit, step, all_steps, till_after, calls_of, NoCallInHistory, CallsAlone, HistoryWithPreviews, PreviewedAsLeft, committed, CommitsAsPreviewed, PerformedAsRun, PreviewsInLists}
use Rattle.calls.proofs.InTurn.{answers_next, buffers_after}
use Rattle.calls.proofs.History.Always.{history}
use Rattle.calls.proofs.Preview.{length_answers, done_is, place_is, demand_1_preview}

-- THE HISTORY

no_call : NoCallInHistory
unfolding all_steps run
no_call pair [] s = refl
no_call pair (commits None ∷ steps) s = no_call pair steps s
no_call pair (commits (Some k) ∷ steps) s = no_call pair steps (step pair (commits (Some k)) s)
no_call pair (previews other basket count scratch places ∷ steps) s = no_call pair steps (step pair (previews other basket count scratch places) s)

calls_alone : CallsAlone
unfolding all_steps run
calls_alone pair [] w = refl
calls_alone pair (k ∷ ks) w = calls_alone pair ks (next pair k w)

with_previews : HistoryWithPreviews
with_previews pair rows application card_application low high steps =
    let w = start pair rows application card_application in
    subst After (sym (no_call pair steps (till_after w))) (history pair rows application card_application low high (calls_of steps))

-- one step more, after the others
last_step : (pair : Pair) (steps : List Step) (d : Step) (s : Till) → all_steps pair (steps ++ (d ∷ [])) s ≡ step pair d (all_steps pair steps s)
unfolding all_steps
last_step pair [] d s = refl
last_step pair (e ∷ steps) d s = last_step pair steps d (step pair e s)

as_left : PreviewedAsLeft
as_left pair other steps basket count scratch places s =
    ap (λ (t : Till). t.previewed) (last_step pair steps (previews other basket count scratch places) s)
    ∙ ap (λ (w : Run). preview other basket count w.buffers scratch places ∷ (all_steps pair steps s).previewed) (no_call pair steps s)

-- COMMITTING

-- each request finds the buffers as the one before it left them, with a history or without
committed_buffers : (pair : Pair) (g : Option Request) (w : Run) → (commit pair g w).buffers ≡ (perform_given pair g w.buffers).buffers
committed_buffers pair None w = refl
committed_buffers pair (Some k) w = refl

all_buffers : (pair : Pair) (gs : List (Option Request)) (w : Run) → committed pair gs w ≡ (perform_all pair gs w.buffers).buffers
unfolding all_steps perform_all
all_buffers pair [] w = refl
all_buffers pair (g ∷ gs) w =
    all_buffers pair gs (commit pair g w) ∙ ap (λ (b : Buffers). (perform_all pair gs b).buffers) (committed_buffers pair g w)

-- of the first n places
answer_at : (pair : Pair) (n : ℕ) (gs : List (Option Request)) (w : Run) (i : ℕ) → i < n → i < length gs
    → get_or (perform_all pair (take n gs) w.buffers).answers i 0 ≡ (perform_given pair (get_or gs i None) (committed pair (take i gs) w)).answer
unfolding all_steps perform_all
answer_at pair zero gs w i l m = absurd (omega arith)
answer_at pair (suc n) [] w i l m = absurd (omega arith)
answer_at pair (suc n) (g ∷ gs) w zero l m = refl
answer_at pair (suc n) (g ∷ gs) w (suc i) l m =
    ap (λ (b : Buffers). get_or (perform_all pair (take n gs) b).answers i 0) (sym (committed_buffers pair g w))
    ∙ answer_at pair n gs (commit pair g w) i (omega arith) (omega arith)

commits_as_previewed : CommitsAsPreviewed
commits_as_previewed pair basket count w scratch places sixteen done =
    let most = (demand_1_preview.previews pair basket count w.buffers scratch places).answered_by.only_done done in
    let all = perform_all pair (take count basket) w.buffers in
    let place = place_is pair basket count w.buffers scratch places done in
    let many : length all.answers ≡ count = length_answers pair (take count basket) w.buffers ∙ length-take-le count basket (omega (arith, most.0)) in
    record {
      answers = λ i below. place i ∙ answer_at pair count basket w i below (omega (arith, most.0));
      past_count = λ i past. place i ∙ get_or_past all.answers i 0 (omega arith);
      buffers = all_buffers pair (take count basket) w ∙ sym (ap (λ (p : Previewed). p.scratch) (done_is pair basket count w.buffers scratch places done));
    }

-- AS A RUN
as_run : PerformedAsRun
unfolding perform_all run in_order
as_run pair [] b = refl
as_run pair (k ∷ ks) b =
    ap (answered (perform pair k b).answer) (as_run pair ks (perform pair k b).buffers)
    ∙ ap₂ (λ (ns : List ℕ) (after : Buffers). record { answers = ns; buffers = after }) (sym (answers_next pair k ks b)) (sym (buffers_after pair ks (next pair k (from b))))

pub previews_in_lists : PreviewsInLists
previews_in_lists = record {
  no_call = no_call;
  calls_alone = calls_alone;
  history = with_previews;
  as_left = as_left;
  commits_as_previewed = commits_as_previewed;
  as_run = as_run;
}
