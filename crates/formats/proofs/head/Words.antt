-- The heads of the card tables, eight bytes at a time.
-- Assumes nothing.
use Prim.Native.Nat.{ℕ, suc, ◌+◌, ◌-◌, ◌*◌, ◌/◌, ◌%◌, ◌^◌, ◌≤◌, ◌<◌}
use mathlib.Core.Path.{◌≡◌, ap, ◌∙◌}
use mathlib.Core.List.{List}
use mathlib.Core.Logic.{◌⊎◌, inl, inr, ⊎_elim}
use native.Mathlib.Omega.{arith}
use lib.Bits.{bit_and, and_block, and_mask}
use lib.ListN.{length, get_or}
use Rattle.formats.specs.declared.head.Pair.{Pair}
use Rattle.formats.specs.Head.{titles_identifier, rules_identifier, TitlesHead, RulesHead}
use Rattle.formats.specs.Part.{part}
use Rattle.formats.specs.Field.{number}
use Rattle.formats.specs.Bytes.{Bytes}
use Rattle.formats.proofs.Cells.{part_cells}
use Rattle.formats.proofs.field.Laws.{number_first, number_below}

-- bytes 0 and 1, and the low bits from the k-th down: what a mask leaves of the first eight bytes
without_2 : (w : ℕ) → w < 2 ^ 64 → bit_and w 0xffff00ffffffffff ≡ w / 2 ^ 48 * 2 ^ 48 + w % 2 ^ 40
without_2 w small =
    let e : w ≡ w / 2 ^ 48 * 2 ^ 48 + w % 2 ^ 48 = omega arith in
    ap (λ (x : ℕ). bit_and x 0xffff00ffffffffff) e
    ∙ and_block 48 (w / 2 ^ 48) 0xffff (w % 2 ^ 48) (2 ^ 40 - 1) (omega arith) (omega arith)
    ∙ rw (and_mask (w / 2 ^ 48) 16, and_mask (w % 2 ^ 48) 40) (omega arith)

without_2_and_3 : (w : ℕ) → w < 2 ^ 64 → bit_and w 0xffff0000ffffffff ≡ w / 2 ^ 48 * 2 ^ 48 + w % 2 ^ 32
without_2_and_3 w small =
    let e : w ≡ w / 2 ^ 48 * 2 ^ 48 + w % 2 ^ 48 = omega arith in
    ap (λ (x : ℕ). bit_and x 0xffff0000ffffffff) e
    ∙ and_block 48 (w / 2 ^ 48) 0xffff (w % 2 ^ 48) (2 ^ 32 - 1) (omega arith) (omega arith)
    ∙ rw (and_mask (w / 2 ^ 48) 16, and_mask (w % 2 ^ 48) 32) (omega arith)

module _ (t : List ℕ) (byte : Bytes t) (size : 16 ≤ length t) where
  two : (a : ℕ) → a + 2 ≤ 16 → number (part t a 2) ≡ get_or t a 0 * 256 + get_or t (suc a) 0
  unfolding number
  two a h = ap number (part_cells 2 a t (omega arith)) ∙ omega arith

  -- the first eight bytes: identifier, byte 2, version, size
  first_eight : number (part t 0 8) ≡ number (part t 0 2) * 2 ^ 48 + get_or t 2 0 * 2 ^ 40 + get_or t 3 0 * 2 ^ 32 + number (part t 4 4)
  first_eight =
      omega (
        arith,
        two 0 (omega arith),
        number_first 7 0 t (omega arith),
        number_first 6 1 t (omega arith),
        number_first 5 2 t (omega arith),
        number_first 4 3 t (omega arith),
      )

  -- the next eight: bytes 8 and 9, the count, bytes 12 and 13, and two that are ignored
  next_eight : number (part t 8 8) ≡ number (part t 8 2) * 2 ^ 48 + number (part t 10 2) * 2 ^ 32 + get_or t 12 0 * 2 ^ 24 + get_or t 13 0 * 2 ^ 16 + number (part t 14 2)
  next_eight =
      omega (
        arith,
        two 8 (omega arith),
        two 10 (omega arith),
        number_first 7 8 t (omega arith),
        number_first 6 9 t (omega arith),
        number_first 5 10 t (omega arith),
        number_first 4 11 t (omega arith),
        number_first 3 12 t (omega arith),
        number_first 2 13 t (omega arith),
      )

  -- identifier, version and size
  pub front : bit_and (number (part t 0 8)) 0xffff00ffffffffff ≡ number (part t 0 2) * 2 ^ 48 + get_or t 3 0 * 2 ^ 32 + number (part t 4 4)
  front =
      without_2 (number (part t 0 8)) (number_below 8 0 t byte (omega arith))
      ∙ omega (arith, first_eight, number_below 4 4 t byte (omega arith), number_below 2 0 t byte (omega arith), byte 2, byte 3)

  -- identifier and size
  pub outer : bit_and (number (part t 0 8)) 0xffff0000ffffffff ≡ number (part t 0 2) * 2 ^ 48 + number (part t 4 4)
  outer =
      without_2_and_3 (number (part t 0 8)) (number_below 8 0 t byte (omega arith))
      ∙ omega (arith, first_eight, number_below 4 4 t byte (omega arith), number_below 2 0 t byte (omega arith), byte 2, byte 3)

  -- the next eight without the ignored bytes, and without bytes 8 and 9 too
  pub back : number (part t 8 8) / 2 ^ 16 ≡ number (part t 8 2) * 2 ^ 32 + number (part t 10 2) * 2 ^ 16 + get_or t 12 0 * 256 + get_or t 13 0
  back = omega (arith, next_eight, number_below 2 14 t byte (omega arith))

  pub inner : bit_and (number (part t 8 8) / 2 ^ 16) 0xffffffff ≡ number (part t 10 2) * 2 ^ 16 + get_or t 12 0 * 256 + get_or t 13 0
  inner =
      and_mask (number (part t 8 8) / 2 ^ 16) 32
      ∙ omega (arith, back, number_below 2 8 t byte (omega arith), number_below 2 10 t byte (omega arith), byte 12, byte 13)

  -- numbers of a head that fit their places
  low_size : number (part t 4 4) < 2 ^ 32
  low_size = number_below 4 4 t byte (omega arith)

  low_zero : number (part t 8 2) < 2 ^ 16
  low_zero = number_below 2 8 t byte (omega arith)

  low_count : number (part t 10 2) < 2 ^ 16
  low_count = number_below 2 10 t byte (omega arith)

  -- the title table: what its two words are where its head is right, and that it is right where they are so
  module _ {w v : ℕ} (w-is : w ≡ number (part t 0 8)) (v-is : v ≡ number (part t 8 8)) where
    w_front : bit_and w 0xffff00ffffffffff ≡ number (part t 0 2) * 2 ^ 48 + get_or t 3 0 * 2 ^ 32 + number (part t 4 4)
    w_front = ap (λ (x : ℕ). bit_and x 0xffff00ffffffffff) w-is ∙ front

    w_outer : bit_and w 0xffff0000ffffffff ≡ number (part t 0 2) * 2 ^ 48 + number (part t 4 4)
    w_outer = ap (λ (x : ℕ). bit_and x 0xffff0000ffffffff) w-is ∙ outer

    v_back : v / 2 ^ 16 ≡ number (part t 8 2) * 2 ^ 32 + number (part t 10 2) * 2 ^ 16 + get_or t 12 0 * 256 + get_or t 13 0
    v_back = ap (λ (x : ℕ). x / 2 ^ 16) v-is ∙ back

    v_inner : bit_and (v / 2 ^ 16) 0xffffffff ≡ number (part t 10 2) * 2 ^ 16 + get_or t 12 0 * 256 + get_or t 13 0
    v_inner = ap (λ (x : ℕ). bit_and (x / 2 ^ 16) 0xffffffff) v-is ∙ inner

    pub titles_outer : {pair : Pair} {right : ℕ} → right ≡ titles_identifier pair * 2 ^ 48 + 0x1000003e80 → TitlesHead pair t
        → (bit_and w 0xffff00ffffffffff ≡ right) ⊎ (bit_and w 0xffff00ffffffffff ≡ right - 0x700000000)
    titles_outer is h =
        ⊎_elim
        (λ e. inr (w_front ∙ omega (arith, is, h.table.names, h.table.sized, e)))
        (λ e. inl (w_front ∙ omega (arith, is, h.table.names, h.table.sized, e)))
        h.version

    pub titles_back : {pair : Pair} → TitlesHead pair t → v / 2 ^ 16 ≡ 0x03e71001
    titles_back h = v_back ∙ omega (arith, h.zero, h.table.count, h.table.wide, h.table.marked)

    pub titles_right : {pair : Pair} {right : ℕ} → right ≡ titles_identifier pair * 2 ^ 48 + 0x1000003e80 → length t ≡ 16000
        → (bit_and w 0xffff00ffffffffff ≡ right) ⊎ (bit_and w 0xffff00ffffffffff ≡ right - 0x700000000)
        → v / 2 ^ 16 ≡ 0x03e71001 → TitlesHead pair t
    titles_right {pair} is long f b =
        let parts : (number (part t 0 2) ≡ titles_identifier pair) × ((number (part t 4 4) ≡ 16000) × ((get_or t 3 0 ≡ 0x09) ⊎ (get_or t 3 0 ≡ 0x10))) =
        ⊎_elim
        (λ e. (omega (arith, is, w_front, e, byte 3, low_size), (omega (arith, is, w_front, e, byte 3, low_size), inr (omega (arith, is, w_front, e, byte 3, low_size)))))
        (λ e. (omega (arith, is, w_front, e, byte 3, low_size), (omega (arith, is, w_front, e, byte 3, low_size), inl (omega (arith, is, w_front, e, byte 3, low_size)))))
        f in
        record {
          table = record {
            long = long;
            names = parts.0;
            sized = parts.1.0;
            count = omega (arith, v_back, b, byte 12, byte 13, low_zero, low_count);
            wide = omega (arith, v_back, b, byte 12, byte 13, low_zero, low_count);
            marked = omega (arith, v_back, b, byte 12, byte 13, low_zero, low_count);
          };
          version = parts.1.1;
          zero = omega (arith, v_back, b, byte 12, byte 13, low_zero, low_count);
        }

    -- and the rule table
    pub rules_outer : {pair : Pair} {right : ℕ} → right ≡ rules_identifier pair * 2 ^ 48 + 0x7d00 → RulesHead pair t → bit_and w 0xffff0000ffffffff ≡ right
    rules_outer is h = w_outer ∙ omega (arith, is, h.table.names, h.table.sized)

    pub rules_inner : {pair : Pair} → RulesHead pair t → bit_and (v / 2 ^ 16) 0xffffffff ≡ 0x03e72002
    rules_inner h = v_inner ∙ omega (arith, h.table.count, h.table.wide, h.table.marked)

    pub rules_right : {pair : Pair} {right : ℕ} → right ≡ rules_identifier pair * 2 ^ 48 + 0x7d00 → length t ≡ 32000 → bit_and w 0xffff0000ffffffff ≡ right → 0x11 ≤ get_or t 3 0 → bit_and (v / 2 ^ 16) 0xffffffff ≡ 0x03e72002
        → RulesHead pair t
    rules_right is long f version b =
        record {
          table = record {
            long = long;
            names = omega (arith, is, w_outer, f, low_size);
            sized = omega (arith, is, w_outer, f, low_size);
            count = omega (arith, v_inner, b, byte 12, byte 13, low_count);
            wide = omega (arith, v_inner, b, byte 12, byte 13, low_count);
            marked = omega (arith, v_inner, b, byte 12, byte 13, low_count);
          };
          version = version;
        }
