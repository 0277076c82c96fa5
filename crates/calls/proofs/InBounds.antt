-- Every call ends in bounds: the buffers keep their lengths, and what holds bytes holds bytes.
-- Assumes nothing.
use Prim.Native.Nat.{ℕ, ◌*◌}
use mathlib.Core.List.{List}
use mathlib.Core.Bool.{Bool, true, false, cond}
use lib.Dec.{lit<}
use Rattle.formats.specs.Entry.{is_full}
use Rattle.formats.specs.declared.head.Pair.{Pair}
use Rattle.formats.specs.Bytes.{Bytes}
use Rattle.formats.specs.Part.{put}
use Rattle.formats.specs.Half.{wiped}
use Rattle.formats.specs.Rule.{wiped_rule}
use Rattle.formats.specs.Row.{plain_row, with_permits}
use Rattle.formats.specs.declared.facts.Facts.{Facts}
use Rattle.formats.specs.declared.facts.Fillers.{Fillers}
use Rattle.requests.specs.declared.request.Request.{Request}
use Rattle.requests.specs.declared.request.Request.TheVariants.{Register, Record, CheckOut, CheckIn, MoveOut, MoveIn, Delete}
use Rattle.formats.proofs.Bytes.{listed, bytes_part, bytes_put}
use Rattle.formats.proofs.half.Laws.{wiped_bytes}
use Rattle.formats.proofs.title.Laws.{title_bytes}
use Rattle.formats.proofs.rule.Laws.{rule_bytes, wiped_rule_bytes}
use Rattle.formats.proofs.row.Laws.{here_bytes, plain_bytes, permits_bytes}
use Rattle.calls.specs.Count.{one_less, one_more}
use Rattle.calls.specs.Buffers.{Buffers, row_at, title_at, rule_at, row_facts, kind_at, content_at, facts_at, with_row}
use Rattle.calls.specs.Effect.{after_move, write_entry, effect}
use Rattle.calls.specs.Perform.{perform, AreBytes, InBounds, Demand1Calls}
use Rattle.calls.proofs.Refusals.{either_way, call_refused_first}
use Rattle.calls.proofs.Untouched.{untouched}

-- one of two buffers
one_of : (x : Bool) {b c : Buffers} → AreBytes b → AreBytes c → AreBytes (cond x b c)
one_of true p q = p
one_of false p q = q

module _ (b : Buffers) (bytes : AreBytes b) where
  -- a row, a title half or a rule half written
  row : (c : ℕ) (p : List ℕ) → Bytes p → Bytes (put b.ledger (24 * c) p)
  row c p p-bytes = bytes_put b.ledger (24 * c) bytes.ledger (listed p p-bytes)

  title : (j : ℕ) (p : List ℕ) → Bytes p → Bytes (put b.titles (16 * j) p)
  title j p p-bytes = bytes_put b.titles (16 * j) bytes.titles (listed p p-bytes)

  rule : (j : ℕ) (p : List ℕ) → Bytes p → Bytes (put b.rules (32 * j) p)
  rule j p p-bytes = bytes_put b.rules (32 * j) bytes.rules (listed p p-bytes)

  -- permits set, and halves wiped
  permits_set : (c p : ℕ) → Bytes (put b.ledger (24 * c) (with_permits (row_at b.ledger c) p))
  permits_set c p = row c (with_permits (row_at b.ledger c) p) (permits_bytes (row_at b.ledger c) p (bytes_part b.ledger (24 * c) 24 bytes.ledger))

  title_wiped : (j f1 : ℕ) → Bytes (put b.titles (16 * j) (wiped (title_at b.titles j) f1))
  title_wiped j f1 = title j (wiped (title_at b.titles j) f1) (wiped_bytes (title_at b.titles j) f1 (bytes_part b.titles (16 * j) 16 bytes.titles))

  rule_wiped : (j : ℕ) (f : Fillers) → Bytes (put b.rules (32 * j) (wiped_rule (rule_at b.rules j) f))
  rule_wiped j f = rule j (wiped_rule (rule_at b.rules j) f) (wiped_rule_bytes (rule_at b.rules j) f (bytes_part b.rules (32 * j) 32 bytes.rules))

  -- a row that is away and an entry that is full
  filled : (c j : ℕ) (f : Facts) (h : ℕ) → AreBytes (write_entry c j f h (with_row c (plain_row 2) b))
  filled c j f h =
      record {
        ledger = row c _ (plain_bytes _ (lit< tt));
        titles = title j _ (title_bytes f.cci f.title_key c);
        rules = rule j _ (rule_bytes f h c);
      }

  effect_bytes : (k : Request) → AreBytes (effect k b)
  unfolding effect
  effect_bytes (Register c f) = record { ledger = row c.0 _ (here_bytes f); titles = bytes.titles; rules = bytes.rules }
  effect_bytes (Record c j f h) = filled c.0 j.0 f h
  effect_bytes (CheckOut c j) =
      let f = row_facts b c.0 in
      record {
        ledger = permits_set c.0 (one_less f.permits);
        titles = title j.0 _ (title_bytes _ f.title_key c.0);
        rules = bytes.rules;
      }
  effect_bytes (CheckIn j f1) =
      let c = content_at b j.0 in
      record { ledger = permits_set c (one_more (row_facts b c).permits); titles = title_wiped j.0 f1; rules = bytes.rules }
  effect_bytes (MoveOut j h f) =
      record {
        ledger = row (content_at b j.0) _ (here_bytes (after_move (facts_at b j.0)));
        titles = title_wiped j.0 f.f1;
        rules = rule_wiped j.0 f;
      }
  effect_bytes (MoveIn c j h) = filled c.0 j.0 (after_move (row_facts b c.0)) h
  effect_bytes (Delete j f) =
      one_of (is_full (kind_at b j.0))
      (record { ledger = row (content_at b j.0) _ (plain_bytes _ (lit< tt)); titles = title_wiped j.0 f.f1; rules = rule_wiped j.0 f })
      (record { ledger = bytes.ledger; titles = title_wiped j.0 f.f1; rules = bytes.rules })

-- Demand 1: every call, done or refused, "ends in bounds"
pub in_bounds : (pair : Pair) (k : Request) (b : Buffers) → InBounds b (perform pair k b).buffers
in_bounds pair k b =
    let u = untouched pair k b in
    record {
      same_lengths = record { ledger = u.rows.same_length; titles = u.titles.same_length; rules = u.rules.same_length };
      stay_bytes = λ bytes. either_way AreBytes (call_refused_first pair k b) bytes (λ none. effect_bytes b bytes k);
    }

-- DEMAND 1
pub demand_1_calls : Demand1Calls
demand_1_calls pair k b = (call_refused_first pair k b, in_bounds pair k b)
