-- `requests::request::write_numbers`: the kind, the limits, then the room, and only then a byte is changed.
-- Assumes nothing.
use Rattle.std.proofs.Common.{◌≡◌, ◌≤◌, ◌<◌, sym, ◌∙◌, arith, rules, length}
use borrow.Author.Tests.{leb-true, leb-false}
use Rattle.formats.specs.Answer.{refused}
use Rattle.formats.specs.Refusal.{number_of, answer_of}
use Rattle.requests.specs.Number.{count_values}
use Rattle.requests.specs.Request.{schema}
use Rattle.requests.specs.Values.{written_numbers}
use Rattle.formats.proofs.refusal.Laws.{numbered}
use Rattle.requests.proofs.request.Loops.{schema_size}
use Rattle.requests.proofs.request.AsNumbers.{kind_past, value_past, numbers_no_room, numbers_all_written}
use Rattle.requests.proofs.request.write_numbers.Goals as goal

pub returns-in_err-kind_limit : goal.returns-in_err-kind_limit
returns-in_err-kind_limit c =
    let w = c.in_err-kind_limit.field-0.0 in
    let p = kind_past c.args.kind c.args.values.now c.args.out.now c.in_err-kind_limit.ensures (λ z. omega (arith, (numbered w).from)) in
    let e : answer_of count_values c.from_residual.result ≡ refused (number_of w) = search rules in
    record { answer = e ∙ p.0; bytes = p.1 }

pub returns-in_err-first_limit : goal.returns-in_err-first_limit
returns-in_err-first_limit c =
    let w = c.in_err-first_limit.field-0.0 in
    let nine : length (schema c.args.kind) ≤ length c.args.values.now = omega (arith, schema_size c.args.kind) in
    let p = value_past c.args.kind c.args.values.now (sym c.in_ok-kind_limit.ensures) nine c.args.out.now c.in_err-first_limit.ensures (λ z. omega (arith, (numbered w).from)) in
    let e : answer_of count_values c.from_residual-in_err-first_limit.result ≡ refused (number_of w) = search rules in
    record { answer = e ∙ p.0; bytes = p.1 }

pub returns-then-not-fits : goal.returns-then-not-fits
returns-then-not-fits c =
    let nine : length (schema c.args.kind) ≤ length c.args.values.now = omega (arith, schema_size c.args.kind) in
    let short : length c.args.out.now < length (written_numbers c.args.kind c.args.values.now) = omega (arith, leb-false _ _ (sym c.if-not-fits.ensures)) in
    let p = numbers_no_room c.args.kind c.args.values.now (sym c.in_ok-kind_limit.ensures) nine c.args.out.now (sym c.in_ok-first_limit.ensures) short in
    record { answer = p.0; bytes = p.1 }

pub returns : goal.returns
returns c =
    let nine : length (schema c.args.kind) ≤ length c.args.values.now = omega (arith, schema_size c.args.kind) in
    let room : length (written_numbers c.args.kind c.args.values.now) ≤ length c.args.out.now = leb-true _ _ (sym c.if-not-fits.ensures) in
    let p = numbers_all_written c.args.kind c.args.values.now (sym c.in_ok-kind_limit.ensures) nine c.args.out.now (sym c.in_ok-first_limit.ensures) c.store.ensures.count room c.store.ensures.bytes in
    record { answer = p.0; bytes = p.1 }
