-- `formats::head::check_titles` meets its contract: the head's two words are right where its fields are.
-- Assumes nothing.
use mathlib.Core.Path.{refl}
use mathlib.Core.Logic.{inl, inr, ⊎_elim}
use native.Mathlib.Omega.{arith}
use Rattle.formats.proofs.Tests.{passes}
use Rattle.formats.proofs.head.Laws.{titles_pass_lem, titles_refused}
use Rattle.formats.proofs.head.Words.{titles_outer, titles_back, titles_right}
use Rattle.formats.proofs.head.check_titles.Goals as goal
use Rattle.formats.proofs.head.check_titles.Goals.{then-front-right+else-front-right-2, else-front-right}

pub returns-then-titles-ne16000 : goal.returns-then-titles-ne16000
returns-then-titles-ne16000 c = titles_refused (λ h. c.if-titles-ne16000.true h.table.long)

pub returns-then-front-right-2 : goal.returns-then-front-right-2
returns-then-front-right-2 c =
    titles_refused
    (λ h.
    ⊎_elim c.if-front-right.true c.if-front-right-2.true
    (titles_outer c.args.titles.now (λ i. (c.type_inv.titles i).fits) (omega arith) c.read_at-front.ensures refl c.titles_front-right.ensures h))

pub returns-then-read_at-ne65474561 : goal.returns-then-read_at-ne65474561
returns-then-read_at-ne65474561 c =
    titles_refused
    (λ h. c.if-read_at-ne65474561.true (titles_back c.args.titles.now (λ i. (c.type_inv.titles i).fits) (omega arith) c.read_at-front.ensures c.read_at.ensures h))

pub returns : goal.returns
returns c =
    passes 8
    (titles_pass_lem
    (titles_right c.args.titles.now (λ i. (c.type_inv.titles i).fits) (omega arith) c.read_at-front.ensures c.read_at.ensures
    c.titles_front-right.ensures
    c.if-titles-ne16000.false
    (elim c.if-front-right.branch [
      | then-front-right+else-front-right-2 w ↦ inr w.if-front-right-2.false
      | else-front-right w ↦ inl w.if-front-right.false
    ])
    c.if-read_at-ne65474561.false))
