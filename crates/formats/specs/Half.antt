-- What title halves and rule halves have in common: key, flag and content ID in their first 16 bytes.
use Rattle.std.specs.Prelude.{ℕ, ◌+◌, ◌*◌, ◌/◌, ◌%◌, List, [], ◌∷◌, ◌++◌, Bool, not, ◌&&◌, cond, Option, Some, None, length, get_or, leb, eqb}
use Rattle.formats.specs.Facts.{numbered}
use Rattle.formats.specs.Part.{part, put}
use Rattle.formats.specs.Field.{number, bytes_of}
use Rattle.formats.specs.declared.facts.ContentId.{ContentId}

-- "1-7 the title key", "1-7 the track information (STI) key"; of a picture, "STI field .. filled with a random number that the module
-- gives as the STI key"
abbrev pub key_of : List ℕ → ℕ
key_of h = number (part h 1 7)

-- "The availability flag is the top bit of byte 8"
abbrev pub flag_of : List ℕ → Bool
flag_of h = leb 128 (get_or h 8 0)

-- "the content ID is the low ten bits of bytes 14 and 15"
abbrev pub id_of : List ℕ → ℕ
id_of h = get_or h 14 0 % 4 * 256 + get_or h 15 0

-- "A half is usable if its flag is 1 and its content ID is not 0": with all of its first 16 bytes there
unfoldable pub usable_of : List ℕ → Bool
usable_of h = leb 16 (length h) && (flag_of h && not (eqb (id_of h) 0))

-- the content ID of a usable half; any other has none that counts
abbrev pub usable_id : List ℕ → Option ContentId
usable_id h = cond (usable_of h) (Some (record { 0 = id_of h })) None

-- flag 1 and the content ID c, from 1 to 999: what the title half of every copy of c has
unfoldable pub flagged_with : ℕ → List ℕ → Bool
flagged_with c h = numbered c && (usable_of h && eqb (id_of h) c)

-- W7: "flag 0 and an ID from 1 to 999", with all of its first 16 bytes there: what the title half of a spent entry has
unfoldable pub names_spent : List ℕ → Bool
names_spent h = leb 16 (length h) && (not (flag_of h) && numbered (id_of h))

-- "A written half gets its fields, flag 1, ID c, all reserved bits 0": the first 16 bytes
unfoldable pub half_bytes : ℕ → ℕ → ℕ → List ℕ
half_bytes first key id = first ∷ (bytes_of 7 key ++ (128 ∷ 0 ∷ 0 ∷ 0 ∷ 0 ∷ 0 ∷ id / 256 % 4 ∷ id % 256 ∷ []))

-- "bytes 0-7 set to f1 and its flag 0 .. A wipe changes nothing else."
unfoldable pub wiped : List ℕ → ℕ → List ℕ
wiped h f = put h 0 (bytes_of 8 f ++ (get_or h 8 0 % 128 ∷ []))

-- a half that was lent to be written, with 16 bytes or more: the bytes `new`; a shorter part is left as it is
abbrev pub changed_half : List ℕ → List ℕ → List ℕ
changed_half new old = cond (leb 16 (length old)) new old
