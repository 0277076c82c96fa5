-- `tables::by_title::contents` meets its contract: what the entries before the next one have of each title is found, and how many are
-- spent.
-- Assumes nothing.
use mathlib.Core.Path.{sym, ◌∙◌}
use mathlib.Core.Logic.{inl, inr}
use Rattle.std.proofs.Common.{arith}
use Rattle.tables.proofs.PerTitle.{found_start, one_passed, one_free, one_torn, one_spent, copies_few, spent_few, one_copy, one_before, first_one, found_all}
use Rattle.tables.proofs.by_title.contents.Goals as goal
use Rattle.tables.proofs.by_title.contents.Goals.{in-Copy, in-Full+then-found-content-eq0, in-Full+else-found-content-eq0, in-Spent, in-Free}

pub loop-k-init : goal.loop-k-init
loop-k-init c = rw (c.default.ensures.0, c.default.ensures.1) (found_start _ _)

pub overflow_add-found : goal.overflow_add-found
overflow_add-found c = omega (arith, copies_few _ _ c.loop-k.invariant c.content_id-id.result.0)

pub overflow_add-found-in-Spent : goal.overflow_add-found-in-Spent
overflow_add-found-in-Spent c = omega (arith, spent_few _ _ c.loop-k.invariant)

pub loop-k-preserved-then-id-eq0 : goal.loop-k-preserved-then-id-eq0
loop-k-preserved-then-id-eq0 c =
    let e = c.entry-entry.ensures in
    one_passed _ _ c.loop-k.invariant c.loop-k-test.true e.title e.rule (sym c.content_id-id.ensures ∙ c.if-id-eq0.true)

pub loop-k-preserved : goal.loop-k-preserved
loop-k-preserved c =
    let i = c.loop-k.invariant in
    let more = c.loop-k-test.true in
    let e = c.entry-entry.ensures in
    let id = c.content_id-id.ensures in
    elim c.match-kind.branch [
      | in-Copy w ↦ rw (w.found-is) (one_copy _ _ i more e.title e.rule id (sym c.kind.ensures ∙ w.in-Copy.is))
      | in-Full+then-found-content-eq0 w ↦
          rw (w.found-is) (first_one _ _ i more e.title e.rule id (sym c.kind.ensures ∙ w.in-Full.is) w.if-found-content-eq0.true)
      | in-Full+else-found-content-eq0 w ↦
          rw (w.found-is) (one_before _ _ i more e.title e.rule id (sym c.kind.ensures ∙ w.in-Full.is) w.if-found-content-eq0.false)
      | in-Spent w ↦ rw (w.found-is) (one_spent _ _ i more e.title e.rule (sym c.kind.ensures ∙ w.in-Spent.is))
      | in-Free w ↦
          rw (w.found-is)
          elim w.in-Free.is [
            | inl free ↦ one_free _ _ i more e.title e.rule (sym c.kind.ensures ∙ free)
            | inr torn ↦ one_torn _ _ i more e.title e.rule (sym c.kind.ensures ∙ torn)
          ]
    ]

pub returns-clause-places : goal.returns-clause-places
returns-clause-places c = (found_all _ _ c.loop-k.invariant (omega arith)).0

pub returns-clause-spent : goal.returns-clause-spent
returns-clause-spent c = (found_all _ _ c.loop-k.invariant (omega arith)).1
