-- The rule half of an entry: 32 bytes.
use Rattle.std.specs.Prelude.{ℕ, ◌+◌, ◌*◌, ◌/◌, ◌%◌, List, [], ◌∷◌, ◌++◌, get_or}
use Rattle.formats.specs.Part.{part, put}
use Rattle.formats.specs.Field.{number, bytes_of}
use Rattle.formats.specs.Half.{half_bytes, wiped}
use Rattle.formats.specs.declared.facts.Facts.{Facts}
use Rattle.formats.specs.declared.facts.Fillers.{Fillers}

-- "byte 16 top bit the trigger"
abbrev pub trigger_of : List ℕ → ℕ
trigger_of r = get_or r 16 0 / 128

-- "byte 17 high half the move rights, low half the permits"
abbrev pub rights_of : List ℕ → ℕ
rights_of r = get_or r 17 0 / 16

abbrev pub permits_of : List ℕ → ℕ
permits_of r = get_or r 17 0 % 16

-- "18-25 C_HASH"
abbrev pub hash_of : List ℕ → ℕ
hash_of r = number (part r 18 8)

-- a written rule half: trigger, rights and permits, C_HASH, and the rest reserved
unfoldable pub rule_half : Facts → ℕ → ℕ → List ℕ
rule_half f hash id =
    half_bytes 0 f.sti_key id
    ++ (f.trigger % 2 * 128 ∷ (f.rights % 16 * 16 + f.permits % 16) ∷ (bytes_of 8 hash ++ (0 ∷ 0 ∷ 0 ∷ 0 ∷ 0 ∷ 0 ∷ [])))

-- "A wiped rule half has bytes 0-7 set to f2, 16-31 to f3 and f4, flag 0."
unfoldable pub wiped_rule : List ℕ → Fillers → List ℕ
wiped_rule r f = put (wiped r f.f2) 16 (bytes_of 8 f.f3 ++ bytes_of 8 f.f4)
