-- A card is inspected as it is, whatever version its rule table has from 11h on.
-- Assumes nothing.
use Prim.Native.Nat.{ℕ, zero, suc, ◌+◌, ◌*◌, ◌≤◌}
use mathlib.Core.Path.{◌≡◌, refl, sym, ap, ap₂, ◌∙◌}
use mathlib.Core.List.{List, [], ◌∷◌}
use mathlib.Core.Bool.{Bool, true, false, ◌&&◌}
use native.Mathlib.Omega.{arith}
use lib.Dec.{leb, eqb}
use lib.ListN.{length, get_or}
use Rattle.formats.specs.Facts.{numbered}
use Rattle.formats.specs.Field.{number}
use Rattle.formats.specs.Head.{RulesHead, TableHead, rules_identifier, rules_pass, rules_application, ledger_application, ledger_passes, titles_pass}
use Rattle.formats.specs.Entry.{kind_of, is_vacant}
use Rattle.formats.specs.declared.head.Pair.{Pair}
use Rattle.formats.proofs.Part.{part_put_before, part_put_after, put_length, get_or_put_in, get_or_put_after}
use Rattle.formats.proofs.head.Laws.{rules_pass_lem}
use Rattle.requests.specs.declared.request.Argument.TheVariants.{Content, Entry}
use Rattle.calls.specs.Buffers.{Buffers, buffers_of, title_at, rule_at, state_at, is_here, copy_of, full_with, copies, full_entries, one, first_of, Within}
use Rattle.calls.specs.Conditions.{◌limits◌}
use Rattle.calls.specs.Refusal.{◌unless◌, first}
use Rattle.calls.specs.History.{holders}
use Rattle.calls.proofs.History.Totals.{total_same}
use Rattle.calls.proofs.Passed.{numbered_within}
use Rattle.tables.specs.Told.{told_after}
use Rattle.inspection.specs.Inspect.{entry_told, vacant_from, first_vacant, row_condition, entry_conditions, entry_inspected, title_inspected, first_vacant_told}
use Rattle.inspection.specs.Demand1.{with_version, SameInspected, AnyVersion}

-- the first of n places goes by what a test says of these
first_same : (n : ℕ) (t u : ℕ → Bool) → ((i : ℕ) → Within n i → u i ≡ t i) → first_of n u ≡ first_of n t
unfolding first_of
first_same zero t u same = refl
first_same (suc n) t u same =
    let before = first_same n t u (λ i l. same i (record { from = l.from; to = omega (arith, l.to) })) in
    let last = same (suc n) (record { from = omega arith; to = omega arith }) in
    rw (before, last) refl

module _ (pair : Pair) (b : Buffers) (v : ℕ) (head : RulesHead pair b.rules) (late : 0x11 ≤ v) where
  abbrev rules : List ℕ
  rules = with_version v b.rules

  room : 3 + length (v ∷ []) ≤ length b.rules
  room = omega (arith, head.table.long)

  -- beside the version the head is as it was
  table : TableHead (rules_identifier pair) 32000 32 0x02 rules
  table =
      let t = head.table in
      record {
        long = put_length b.rules (v ∷ []) 3 room ∙ t.long;
        names = ap number (part_put_before b.rules (v ∷ []) 3 room 0 2 (omega arith)) ∙ t.names;
        sized = ap number (part_put_after b.rules (v ∷ []) 3 room 4 4 (omega (arith, t.long)) (omega arith)) ∙ t.sized;
        count = ap number (part_put_after b.rules (v ∷ []) 3 room 10 2 (omega (arith, t.long)) (omega arith)) ∙ t.count;
        wide = get_or_put_after b.rules (v ∷ []) 3 room 12 (omega arith) ∙ t.wide;
        marked = get_or_put_after b.rules (v ∷ []) 3 room 13 (omega arith) ∙ t.marked;
      }

  version : get_or rules 3 0 ≡ v
  version = get_or_put_in b.rules (v ∷ []) 3 room 0 (omega arith)

  passes : rules_pass pair rules ≡ rules_pass pair b.rules
  passes = rules_pass_lem (record { table = table; version = omega (arith, version) }) ∙ sym (rules_pass_lem head)

  application : rules_application rules ≡ rules_application b.rules
  application = ap number (part_put_after b.rules (v ∷ []) 3 room 8 2 (omega (arith, head.table.long)) (omega arith))

  -- and so is every entry
  rule_same : (j : ℕ) → Within 999 j → rule_at rules j ≡ rule_at b.rules j
  rule_same j l = part_put_after b.rules (v ∷ []) 3 room (32 * j) 32 (omega (arith, head.table.long, l.to)) (omega (arith, l.from))

  copies_same : (c : ℕ) → copies c b.titles rules ≡ copies c b.titles b.rules
  unfolding copies
  copies_same c = total_same 999 _ _ (λ j l. ap (λ (r : List ℕ). one (copy_of c (title_at b.titles j) r)) (rule_same j l))

  full_same : (c : ℕ) → full_entries c b.titles rules ≡ full_entries c b.titles b.rules
  unfolding full_entries
  full_same c = total_same 999 _ _ (λ j l. ap (λ (r : List ℕ). one (full_with c (title_at b.titles j) r)) (rule_same j l))

  holders_same : (c : ℕ) → holders c (buffers_of b.ledger b.titles rules) ≡ holders c b
  unfolding holders
  holders_same c =
      ap (λ (n : ℕ). one (is_here (state_at b c)) + n) (full_same c)

  vacant_same : (from : ℕ) → first_vacant from b.titles rules ≡ first_vacant from b.titles b.rules
  unfolding first_vacant
  vacant_same from =
      first_same 999 (vacant_from from b.titles b.rules) (vacant_from from b.titles rules)
      (λ i l. ap (λ (r : List ℕ). leb from i && is_vacant (kind_of (title_at b.titles i) r)) (rule_same i l))

  checked : (j : ℕ) → entry_conditions pair b.titles rules j ≡ entry_conditions pair b.titles b.rules j
  checked j = ap (λ (x : Bool). Entry limits j ∷ 8 unless titles_pass pair b.titles ∷ 9 unless x ∷ []) passes

  -- an entry number out of range is refused whatever the card
  entry_same : (j : ℕ) → entry_inspected pair b.titles rules j ≡ entry_inspected pair b.titles b.rules j
  unfolding entry_inspected
  entry_same j = by (numbered j) refl
    where
      by : (x : Bool) → numbered j ≡ x
          → told_after (entry_conditions pair b.titles rules j) (entry_told (title_at b.titles j) (rule_at rules j))
          ≡ told_after (entry_conditions pair b.titles b.rules j) (entry_told (title_at b.titles j) (rule_at b.rules j))
      by true e = ap₂ told_after (checked j) (ap (entry_told (title_at b.titles j)) (rule_same j (numbered_within j e)))
      by false e = unfold told_after first in rw e refl

  same_inspected : SameInspected pair b v
  unfolding title_inspected first_vacant_told
  same_inspected =
      record {
        entry = entry_same;
        title = λ c.
            ap₂ told_after
            (ap₂
            (λ (x : Bool) (n : ℕ).
            Content limits c ∷ 7 unless ledger_passes b.ledger ∷ 8 unless titles_pass pair b.titles ∷ 9 unless (x && eqb n (ledger_application b.ledger)) ∷ row_condition b.ledger c ∷ [])
            passes application)
            (ap₂ (λ (h n : ℕ). h ∷ n ∷ []) (holders_same c) (copies_same c));
        vacant = λ from. ap₂ told_after (checked from) (ap (λ (j : ℕ). j ∷ []) (vacant_same from));
      }

pub any_version : AnyVersion
any_version pair b v head late = same_inspected pair b v head late
