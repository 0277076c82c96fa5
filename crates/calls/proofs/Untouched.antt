-- A call writes its own row and its own entry, and nothing else.
-- Assumes nothing.
use Prim.Native.Nat.{ℕ, ◌*◌}
use mathlib.Core.Path.{◌≡◌, refl, ap, ◌∙◌}
use mathlib.Core.Logic.{◌≢◌}
use mathlib.Core.List.{List}
use mathlib.Core.Bool.{Bool, true, false, cond}
use native.Mathlib.Omega.{arith}
use lib.ListN.{length}
use Rattle.std.specs.Prelude.{None, Some}
use Rattle.formats.specs.Entry.{is_full}
use Rattle.formats.specs.declared.head.Pair.{Pair}
use Rattle.formats.specs.Part.{put}
use Rattle.formats.specs.Half.{wiped}
use Rattle.formats.specs.Rule.{wiped_rule}
use Rattle.formats.specs.Row.{with_permits}
use Rattle.formats.specs.declared.facts.Fillers.{Fillers}
use Rattle.formats.specs.declared.row.RowState.TheVariants.{Away}
use Rattle.requests.specs.declared.request.Request.{Request}
use Rattle.requests.specs.declared.request.Request.TheVariants.{Register, Record, CheckOut, CheckIn, MoveOut, MoveIn, Delete}
use Rattle.formats.proofs.head.Laws.{ledger_head, ledger_passes_lem, titles_head, titles_pass_lem, rules_head, rules_pass_lem, ledger_application_kept, ledger_kept, titles_kept, rules_kept, rules_application_kept}
use Rattle.formats.proofs.half.Laws.{wiped_length}
use Rattle.formats.proofs.title.Laws.{length_title_half}
use Rattle.formats.proofs.rule.Laws.{length_rule_half, wiped_rule_length}
use Rattle.formats.proofs.row.Laws.{here_length, plain_length, permits_length}
use Rattle.calls.specs.Count.{one_less, one_more}
use Rattle.calls.specs.Buffers.{Buffers, row_at, title_at, rule_at, row_facts, kind_at, content_at, facts_at}
use Rattle.calls.specs.Effect.{after_move, effect}
use Rattle.calls.specs.Perform.{perform}
use Rattle.calls.specs.Untouched.{title_written, rule_written, SlotsKept, Untouched}
use Rattle.calls.proofs.Refusals.{either_way, call_refused_first}
use Rattle.calls.proofs.Named.{HeadsPass, Heads, heads_pass, heads_of, deletes_copy, deletes_holder, Named}
use Rattle.calls.proofs.Passed.{needs_where, OnCard, on_card, its_row, row_in}
use Rattle.calls.proofs.Slots.{slots_kept, all_kept}
use Rattle.calls.proofs.Views.{IsRow, row_inside, row_length, entry_length, entries_kept}

-- THE LENGTHS of what a call writes

module _ (b : Buffers) where
  -- a row with other permits
  pub permits_long : (c p : ℕ) → IsRow b.ledger c → length (with_permits (row_at b.ledger c) p) ≡ 24
  permits_long c p is = permits_length (row_at b.ledger c) p (row_length b.ledger c is)

  -- an entry's halves, wiped
  module _ (j : ℕ) (o : OnCard b j) where
    pub rule_long : length (rule_at b.rules j) ≡ 32
    rule_long = entry_length 32 b.rules o.rules_long j o.entry

    pub wiped_title_long : (f1 : ℕ) → length (wiped (title_at b.titles j) f1) ≡ 16
    wiped_title_long f1 = let long = entry_length 16 b.titles o.titles_long j o.entry in wiped_length (title_at b.titles j) f1 (omega arith) ∙ long

    pub wiped_rule_long : (f : Fillers) → length (wiped_rule (rule_at b.rules j) f) ≡ 32
    wiped_rule_long f = wiped_rule_length (rule_at b.rules j) f rule_long ∙ rule_long

-- THE EFFECTS

module _ (pair : Pair) (b : Buffers) where
  row_kept : (c : ℕ) (row : List ℕ) → IsRow b.ledger c → length row ≡ 24 → SlotsKept 24 (Some c) b.ledger (put b.ledger (24 * c) row)
  row_kept c row is size = slots_kept 24 b.ledger row c (row_inside b.ledger c is) size is.from

  title_kept : (j : ℕ) (t : List ℕ) → OnCard b j → length t ≡ 16 → SlotsKept 16 (Some j) b.titles (put b.titles (16 * j) t)
  title_kept j t o size = entries_kept 16 b.titles o.titles_long t size j o.entry

  rule_kept : (j : ℕ) (r : List ℕ) → OnCard b j → length r ≡ 32 → SlotsKept 32 (Some j) b.rules (put b.rules (32 * j) r)
  rule_kept j r o size = entries_kept 32 b.rules o.rules_long r size j o.entry

  effect_keeps : (k : Request) → Named pair k b → Untouched k b (effect k b)
  unfolding effect
  effect_keeps (Register c f) n =
      record { rows = row_kept c.0 _ (its_row pair (Register c f) b n) (here_length f); titles = all_kept 16 None b.titles; rules = all_kept 32 None b.rules }
  effect_keeps (Record c j f h) n =
      let o = on_card pair (Record c j f h) b n in
      record {
        rows = row_kept c.0 _ (its_row pair (Record c j f h) b n) (plain_length _);
        titles = title_kept j.0 _ o (length_title_half f.cci f.title_key c.0);
        rules = rule_kept j.0 _ o (length_rule_half f h c.0);
      }
  effect_keeps (CheckOut c j) n =
      let f = row_facts b c.0 in
      let is = its_row pair (CheckOut c j) b n in
      record {
        rows = row_kept c.0 _ is (permits_long b c.0 (one_less f.permits) is);
        titles = title_kept j.0 _ (on_card pair (CheckOut c j) b n) (length_title_half _ f.title_key c.0);
        rules = all_kept 32 None b.rules;
      }
  effect_keeps (CheckIn j f1) n =
      let c = content_at b j.0 in
      let is = its_row pair (CheckIn j f1) b n in
      let o = on_card pair (CheckIn j f1) b n in
      record {
        rows = row_kept c _ is (permits_long b c (one_more (row_facts b c).permits) is);
        titles = title_kept j.0 _ o (wiped_title_long b j.0 o f1);
        rules = all_kept 32 None b.rules;
      }
  effect_keeps (MoveOut j h f) n =
      let o = on_card pair (MoveOut j h f) b n in
      record {
        rows = row_kept (content_at b j.0) _ (its_row pair (MoveOut j h f) b n) (here_length (after_move (facts_at b j.0)));
        titles = title_kept j.0 _ o (wiped_title_long b j.0 o f.f1);
        rules = rule_kept j.0 _ o (wiped_rule_long b j.0 o f);
      }
  effect_keeps (MoveIn c j h) n =
      let o = on_card pair (MoveIn c j h) b n in
      let f = after_move (row_facts b c.0) in
      record {
        rows = row_kept c.0 _ (its_row pair (MoveIn c j h) b n) (plain_length _);
        titles = title_kept j.0 _ o (length_title_half f.cci f.title_key c.0);
        rules = rule_kept j.0 _ o (length_rule_half f h c.0);
      }
  effect_keeps (Delete j f) n =
      let o = on_card pair (Delete j f) b n in
      let c = content_at b j.0 in
      let title = title_kept j.0 _ o (wiped_title_long b j.0 o f.f1) in
      elim n.deletable [
        | deletes_copy k ↦ record { rows = rw (ap is_full k) (all_kept 24 None b.ledger); titles = rw (ap is_full k) title; rules = rw (ap is_full k) (all_kept 32 None b.rules) }
        | deletes_holder k away key ↦
            record {
              rows = rw (ap is_full k) (row_kept c _ (row_in b c Away refl n.heads.ledger away) (plain_length _));
              titles = rw (ap is_full k) title;
              rules = rw (ap is_full k) (rule_kept j.0 _ o (wiped_rule_long b j.0 o f));
            }
      ]

-- a call, done or refused, leaves everything but its own row and entry as it was
pub untouched : (pair : Pair) (k : Request) (b : Buffers) → Untouched k b (perform pair k b).buffers
untouched pair k b =
    either_way (Untouched k b) (call_refused_first pair k b)
    (record { rows = all_kept 24 _ b.ledger; titles = all_kept 16 _ b.titles; rules = all_kept 32 _ b.rules })
    (λ none. effect_keeps pair b k (needs_where pair k b none))

-- and the heads as they were
pub each_head_kept : (pair : Pair) (k : Request) (b : Buffers) {application card_application : ℕ} → Heads pair application card_application b
    → Heads pair application card_application (perform pair k b).buffers
each_head_kept pair k b p =
    let after = (perform pair k b).buffers in
    let l = (untouched pair k b).rows in
    let t = (untouched pair k b).titles in
    let r = (untouched pair k b).rules in
    record {
      ledger = ledger_head after.ledger (ledger_kept 24 b.ledger after.ledger l.same_length l.head (omega arith) ∙ ledger_passes_lem p.ledger);
      titles = titles_head (titles_kept 16 b.titles after.titles t.same_length t.head pair (omega arith) ∙ titles_pass_lem p.titles);
      rules = rules_head (rules_kept 32 b.rules after.rules r.same_length r.head pair (omega arith) ∙ rules_pass_lem p.rules);
      of_ledger = ledger_application_kept 24 b.ledger after.ledger l.same_length l.head (omega arith) ∙ p.of_ledger;
      of_card = rules_application_kept 32 b.rules after.rules r.same_length r.head (omega arith) ∙ p.of_card;
    }

pub heads_kept : (pair : Pair) (k : Request) (b : Buffers) → HeadsPass pair b → HeadsPass pair (perform pair k b).buffers
heads_kept pair k b p = heads_pass (each_head_kept pair k b (heads_of p))

-- a call that leaves an entry's title half alone leaves its rule half alone
pub rule_with_title : (k : Request) (b : Buffers) (i : ℕ) → title_written k ≢ Some i → rule_written k b ≢ Some i
rule_with_title (Register c f) b i other = other
rule_with_title (Record c j f h) b i other = other
rule_with_title (CheckOut c j) b i other = λ e. let z : ◌≡◌ {A = ℕ} 0 1 = cc in omega arith
rule_with_title (CheckIn j f1) b i other = λ e. let z : ◌≡◌ {A = ℕ} 0 1 = cc in omega arith
rule_with_title (MoveOut j h f) b i other = other
rule_with_title (MoveIn c j h) b i other = other
rule_with_title (Delete j f) b i other = by (is_full (kind_at b j.0))
  where
    by : (x : Bool) → cond x (Some j.0) None ≢ Some i
    by true = other
    by false = λ e. let z : ◌≡◌ {A = ℕ} 0 1 = cc in omega arith
