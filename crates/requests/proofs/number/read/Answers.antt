-- `requests::number::read`: a byte below 128 is the whole number.
-- Assumes nothing.
use Rattle.std.proofs.Common.{ℕ, List, [], ◌∷◌, ◌≡◌, ◌<◌, sym, ap, ◌∙◌, Some}
use Rattle.std.specs.List.{slice_get}
use Rattle.requests.specs.Number.{Number, read_number, number_answer}
use Rattle.requests.proofs.number.Laws.{read_one}
use Rattle.requests.proofs.number.read.Goals as goal

at_front : (s : List ℕ) {b : ℕ} → Some b ≡ slice_get s 0 → b < 128 → Number b 1 ≡ read_number s
at_front [] e h = cc
at_front (a ∷ s) {b} e h = let same : b ≡ a = cc in rw (sym same) (sym (read_one b s h))

pub returns-in-Some : goal.returns-in-Some
returns-in-Some c = ap number_answer (ap (λ (n : ℕ). Number n 1) c.from.ensures ∙ at_front c.args.s.now c.in-Some.ensures.value c.if-byte-lt128.true)
