-- `refusals::move_in::refusal` meets its contract: an earlier refusal is handed on, and reports 0; else the search decides, and what it
-- read is reported.
-- Assumes nothing.
use Rattle.std.proofs.Common.{refl, sym, ◌∙◌}
use Rattle.formats.proofs.refusal.Laws.{some_number}
use Rattle.calls.proofs.Report.{refused_earlier, nothing_read, by_search, search_read, copy_found, copy_not_found}
use Rattle.refusals.proofs.move_in.refusal.Goals as goal

pub returns-in-Err-clause-answer : goal.returns-in-Err-clause-answer
returns-in-Err-clause-answer c hash = refused_earlier _ _ _ hash _ (c.in-Err.ensures hash) (some_number c.in-Err.earlier)

pub returns-in-Err-clause-report : goal.returns-in-Err-clause-report
returns-in-Err-clause-report c hash = nothing_read _ _ _ hash _ (c.in-Err.ensures hash) (some_number c.in-Err.earlier)

pub returns-then-search-clause-answer : goal.returns-then-search-clause-answer
returns-then-search-clause-answer c hash =
    by_search _ _ _ hash _ (c.in_default.ensures hash) refl (copy_found _ _ _ (sym c.find-search.ensures.found ∙ c.if-search.true))

pub returns-then-search-clause-report : goal.returns-then-search-clause-report
returns-then-search-clause-report c hash = c.find-search.ensures.read ∙ search_read _ _ _ hash _ (c.in_default.ensures hash) refl

pub returns-else-search-clause-answer : goal.returns-else-search-clause-answer
returns-else-search-clause-answer c hash =
    by_search _ _ _ hash _ (c.in_default.ensures hash) refl (copy_not_found _ _ _ (sym c.find-search.ensures.found ∙ c.if-search.false))

pub returns-else-search-clause-report : goal.returns-else-search-clause-report
returns-else-search-clause-report c hash = c.find-search.ensures.read ∙ search_read _ _ _ hash _ (c.in_default.ensures hash) refl
