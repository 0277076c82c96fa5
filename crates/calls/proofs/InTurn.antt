-- Calls one after another: their answers and the buffers after them, however many went before.
-- Assumes nothing.
use mathlib.Core.Path.{◌≡◌, refl, sym, ap, ◌∙◌}
use mathlib.Core.List.{List, [], ◌∷◌, ◌++◌, map, append-nil, append_assoc}
use Rattle.formats.specs.declared.head.Pair.{Pair}
use Rattle.requests.specs.declared.request.Request.{Request}
use Rattle.calls.specs.Buffers.{Buffers}
use Rattle.calls.specs.Perform.{perform}
use Rattle.calls.specs.History.{Answered, Log, Run, next, run, from, in_order, answers}

-- those of the rest come after the first
in_turn : (pair : Pair) (ks : List Request) (w : Run) → in_order (run pair ks w).log ≡ in_order w.log ++ in_order (run pair ks (from w.buffers)).log
unfolding run in_order
in_turn pair [] w = sym (append-nil _)
in_turn pair (k ∷ ks) w =
    in_turn pair ks (next pair k w)
    ∙ append_assoc (in_order w.log) _ _
    ∙ ap (λ (l : Log). in_order w.log ++ l) (sym (in_turn pair ks (next pair k (from w.buffers))))

pub answers_next : (pair : Pair) (k : Request) (ks : List Request) (b : Buffers) → answers pair (k ∷ ks) b ≡ (perform pair k b).answer ∷ answers pair ks (perform pair k b).buffers
unfolding run in_order
answers_next pair k ks b = ap (map (λ (a : Answered). a.answer)) (in_turn pair ks (next pair k (from b)))

-- and the buffers do not depend on what went before
pub buffers_after : (pair : Pair) (ks : List Request) (w : Run) → (run pair ks w).buffers ≡ (run pair ks (from w.buffers)).buffers
unfolding run
buffers_after pair [] w = refl
buffers_after pair (k ∷ ks) w = buffers_after pair ks (next pair k w) ∙ sym (buffers_after pair ks (next pair k (from w.buffers)))
