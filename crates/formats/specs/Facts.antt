-- "Facts are CCI, trigger, rights, permits, title key, STI key (keys below 2^56)."
use Rattle.std.specs.Prelude.{ℕ, ◌^◌, List, [], ◌∷◌, Bool, not, ◌&&◌, leb, ltb, eqb}
use Rattle.formats.specs.declared.facts.Facts.{Facts}

-- the facts in that order
abbrev pub fact_values : Facts → List ℕ
fact_values f = f.cci ∷ f.trigger ∷ f.rights ∷ f.permits ∷ f.title_key ∷ f.sti_key ∷ []

-- "1 to 999": content IDs, entry numbers, and the count of a ledger's rows
abbrev pub numbered : ℕ → Bool
numbered v = leb 1 v && leb v 999

-- "CCI is 0, 2 or 3"
abbrev pub cci_passes : ℕ → Bool
cci_passes v = leb v 3 && not (eqb v 1)

-- "trigger at most 1"
abbrev pub trigger_passes : ℕ → Bool
trigger_passes v = leb v 1

-- "rights and permits at most 15"
abbrev pub count_passes : ℕ → Bool
count_passes v = leb v 15

-- "keys below 2^56"
abbrev pub key_passes : ℕ → Bool
key_passes v = ltb v (2 ^ 56)

-- the ranges that a row's facts keep; its keys are seven bytes each
unfoldable pub in_range : Facts → Bool
in_range f = cci_passes f.cci && (trigger_passes f.trigger && (count_passes f.rights && count_passes f.permits))

-- and all six of them: condition 6 does not hold
abbrev pub facts_pass : Facts → Bool
facts_pass f = in_range f && (key_passes f.title_key && key_passes f.sti_key)
