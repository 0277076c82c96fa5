-- What the parts of a case are, and what a case writes.
use Rattle.std.specs.Prelude.{ℕ, ◌+◌, ◌-◌, ◌*◌, ◌%◌, ◌<◌, ◌≡◌, List, Option, Some, None, cond, length, get_or, leb, ltb, eqb}
use Rattle.formats.specs.Part.{part, put, replaced}
use Rattle.formats.specs.Field.{number, bytes_of}
use Rattle.formats.specs.Half.{half_bytes, wiped, changed_half}
use Rattle.formats.specs.Title.{title_half}
use Rattle.formats.specs.Rule.{rule_half, wiped_rule}
use Rattle.formats.specs.Row.{here_row, plain_row, with_permits}
use Rattle.formats.specs.declared.facts.Facts.{Facts}
use Rattle.requests.specs.Number.{groups, written_to}
use Rattle.text.specs.Text.{field, placed}
use Rattle.closing_sheet.specs.Sheet.{total_word}

-- the value of a digit, 0 to 9 or A to F; none of any other character
abbrev pub digit_of : ℕ → Option ℕ
digit_of x = cond (ltb x 48) None (cond (leb x 57) (Some (x - 48)) (cond (ltb x 65) None (cond (leb x 70) (Some (x - 55)) None)))

-- number i of those of a case
abbrev pub number_at : List ℕ → ℕ → ℕ
number_at v i = get_or v i 0

-- v has the numbers of a case, of 8 bytes each, after its first byte
pub record NumbersOf (case v : List ℕ) : Type 0 where
  pub eight : length v ≡ 8
  pub each : (i : ℕ) → i < 8 → number_at v i ≡ number (part case (8 * i + 1) 8)

abbrev pub facts_from : List ℕ → Facts
facts_from v =
    record {
      cci = number_at v 0;
      trigger = number_at v 1;
      rights = number_at v 2;
      permits = number_at v 3;
      title_key = number_at v 4;
      sti_key = number_at v 5;
    }

-- what a case of this code with these numbers leaves of its part
unfoldable pub leaves : ℕ → List ℕ → List ℕ → List ℕ
leaves code v p =
    cond (eqb code 0x18) (replaced 16 (wiped p (number_at v 0)) p)
    (cond (eqb code 0x19) (changed_half (wiped p (number_at v 0)) p)
    (cond (eqb code 0x1A) (replaced 24 (plain_row (number_at v 0 % 256)) p)
    (cond (eqb code 0x1B) (replaced 24 (with_permits p (number_at v 0)) p)
    (cond (eqb code 0x1C) (bytes_of (length p) (number_at v 0))
    (cond (eqb code 0x1D) (written_to (groups (number_at v 0)) p)
    (cond (eqb code 0x38) (replaced 16 (title_half (number_at v 0) (number_at v 1) (number_at v 2)) p)
    (cond (eqb code 0x39) (changed_half (put p 0 (half_bytes (number_at v 0 % 256) (number_at v 1) (number_at v 2))) p)
    (cond (eqb code 0x48) (replaced 32 (wiped_rule p (record { f1 = number_at v 0; f2 = number_at v 1; f3 = number_at v 2; f4 = number_at v 3 })) p)
    (cond (eqb code 0x68) (replaced 24 (here_row (facts_from v)) p)
    (cond (eqb code 0x88) (replaced 32 (rule_half (facts_from v) (number_at v 6) (number_at v 7)) p)
    p))))))))))

-- what a case that writes in a text leaves of its part
unfoldable pub leaves_in_text : ℕ → List ℕ → List ℕ → List ℕ
leaves_in_text code v p =
    cond (eqb code 0x1E) (placed p (number_at v 0) total_word)
    (cond (eqb code 0x3A) (placed p (number_at v 2) (field (number_at v 0) (number_at v 1 % 256)))
    p)
