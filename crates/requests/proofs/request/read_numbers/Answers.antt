-- `requests::request::read_numbers`: at each return the tests that led there say what the kind or the next argument comes to.
-- Assumes nothing.
use Rattle.std.proofs.Common.{◌≡◌, sym, ◌∙◌, ap, arith, rules, length, drop, length-drop}
use Rattle.formats.specs.Answer.{refused}
use Rattle.formats.specs.Refusal.{number_of, answer_of}
use Rattle.requests.specs.Number.{Number, Refused as NoNumber, count_values}
use Rattle.requests.specs.Request.{Refused}
use Rattle.requests.proofs.number.Laws.{same_number, read_within}
use Rattle.requests.proofs.request.Cases.{kind_refused, kind_limit_lem}
use Rattle.formats.proofs.refusal.Laws.{numbered}
use Rattle.requests.proofs.request.Loops.{schema_size}
use Rattle.requests.proofs.request.Reading.{found, kind_taken, no_number, past_limit, taken, all_read, told_refused}
use Rattle.requests.proofs.request.read_numbers.Goals as goal

pub returns-in_err-first : goal.returns-in_err-first
returns-in_err-first c =
    let w = number_of c.in_err-first.field-0.0 in
    let e : answer_of count_values c.from_residual.result ≡ refused w = search rules in
    let t = told_refused {kind₀ = c.args.kind.now} {values₀ = c.args.values.now} (sym (kind_refused c.args.s.now (sym (same_number {r = NoNumber w} c.in_err-first.ensures)))) in
    record { answer = e ∙ t.answer_is; kind_told = t.kind_is; values_told = t.values_are }

pub returns-in_err-kind_limit : goal.returns-in_err-kind_limit
returns-in_err-kind_limit c =
    let k = c.in_ok-first.first in
    let w = c.in_err-kind_limit.field-0.0 in
    let e : answer_of count_values c.from_residual-in_err-kind_limit.result ≡ refused (number_of w) = search rules in
    let t =
    told_refused {kind₀ = c.args.kind.now} {values₀ = c.args.values.now}
    (ap Refused c.in_err-kind_limit.ensures
    ∙ sym (kind_limit_lem c.args.s.now (sym (same_number {r = Number k.value k.len} c.in_ok-first.ensures)) (λ z. omega (arith, (numbered w).from)))) in
    record { answer = e ∙ t.answer_is; kind_told = t.kind_is; values_told = t.values_are }

pub loop-i-init : goal.loop-i-init
loop-i-init c = kind_taken c.args.s.now c.in_ok-first.ensures c.in_ok-kind_limit.ensures

pub returns-in_err-next : goal.returns-in_err-next
returns-in_err-next c =
    let l = c.loop-i in
    let w = number_of c.in_err-next.field-0.0 in
    let e : answer_of count_values c.from_residual-in_err-next.result ≡ refused w = search rules in
    let t =
    told_refused {kind₀ = c.args.kind.now} {values₀ = c.args.values.now}
    (no_number l.invariant (omega (arith, ap length c.schema-argument-items.ensures)) (found {r = NoNumber w} c.args.s.now l.used l.invariant.within c.in_err-next.ensures)) in
    record { answer = e ∙ t.answer_is; kind_told = t.kind_is; values_told = t.values_are }

pub returns-in_err-limit : goal.returns-in_err-limit
returns-in_err-limit c =
    let l = c.loop-i in
    let n = c.in_ok-next.next in
    let w = c.in_err-limit.field-0.0 in
    let e : answer_of count_values c.from_residual-in_err-limit.result ≡ refused (number_of w) = search rules in
    let t =
    told_refused {kind₀ = c.args.kind.now} {values₀ = c.args.values.now}
    (past_limit l.invariant (omega (arith, ap length c.schema-argument-items.ensures))
    (found {r = Number n.value n.len} c.args.s.now l.used l.invariant.within c.in_ok-next.ensures) w
    (rw c.schema-argument-items.ensures at c.in_err-limit.ensures)) in
    record { answer = e ∙ t.answer_is; kind_told = t.kind_is; values_told = t.values_are }

pub offset_bounds-found-i : goal.offset_bounds-found-i
offset_bounds-found-i c = omega (arith, schema_size c.in_ok-first.first.value, ap length c.schema-argument-items.ensures)

pub bounds-found-i : goal.bounds-found-i
bounds-found-i c = omega (arith, schema_size c.in_ok-first.first.value, ap length c.schema-argument-items.ensures)

pub overflow_add-used : goal.overflow_add-used
overflow_add-used c =
    let l = c.loop-i in
    let n = c.in_ok-next.next in
    let e = found {r = Number n.value n.len} c.args.s.now l.used l.invariant.within c.in_ok-next.ensures in
    omega (arith, read_within (drop l.used c.args.s.now) e, length-drop l.used c.args.s.now)

pub loop-i-preserved : goal.loop-i-preserved
loop-i-preserved c =
    let l = c.loop-i in
    let n = c.in_ok-next.next in
    taken l.invariant (omega (arith, ap length c.schema-argument-items.ensures))
    (found {r = Number n.value n.len} c.args.s.now l.used l.invariant.within c.in_ok-next.ensures) (schema_size c.in_ok-first.first.value)
    (rw c.schema-argument-items.ensures at c.in_ok-limit.ensures)

pub returns : goal.returns
returns c =
    let t =
    all_read {kind₀ = c.args.kind.now} {values₀ = c.args.values.now} c.loop-i.invariant (schema_size c.in_ok-first.first.value)
    (omega (arith, ap length c.schema-argument-items.ensures)) in
    record { answer = t.answer_is; kind_told = t.kind_is; values_told = t.values_are }
