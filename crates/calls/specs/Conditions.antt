-- The refusal conditions of the seven calls on tables of either pair: "Checks of a call .. go in number order over what it takes."
use Rattle.std.specs.Prelude.{ℕ, ◌%◌, ◌^◌, List, [], ◌∷◌, ◌++◌, Bool, true, false, not, ◌&&◌, ◌||◌, eqb}
use Rattle.formats.specs.Facts.{facts_pass}
use Rattle.formats.specs.Half.{key_of}
-- handed on, so that what is proved of condition 10 is of the test that stands here
pub use Rattle.formats.specs.Entry.{is_vacant}
use Rattle.formats.specs.Entry.{is_copy, is_full}
use Rattle.formats.specs.Rule.{hash_of}
use Rattle.formats.specs.Head.{ledger_passes, ledger_application, titles_pass, rules_pass, rules_application}
use Rattle.formats.specs.declared.head.Pair.{Pair}
use Rattle.formats.specs.declared.head.Pair.TheVariants.{Audio, Picture}
use Rattle.requests.specs.Request.{passes, refusal_of}
use Rattle.requests.specs.declared.request.Argument.{Argument}
use Rattle.requests.specs.declared.request.Argument.TheVariants.{Content, Entry}
use Rattle.requests.specs.declared.request.Request.{Request}
use Rattle.requests.specs.declared.request.Request.TheVariants.{Register, Record, CheckOut, CheckIn, MoveOut, MoveIn, Delete}
use Rattle.calls.specs.Buffers.{Buffers, title_at, rule_at, state_at, row_facts, kind_at, content_at, facts_at, is_empty, is_here, is_away, copies}
use Rattle.calls.specs.Refusal.{Condition, ◌when◌, ◌unless◌}

-- an argument past its limit: 4 of c, 5 of j
infix 70 ◌limits◌
abbrev pub ◌limits◌ : Argument → ℕ → Condition
a limits v = refusal_of a unless passes a v

-- 4 c not 1 to 999; 5 j not 1 to 999; 6 the facts, all six at once
abbrev pub argument_conditions : Request → List Condition
argument_conditions (Register c f) = Content limits c.0 ∷ 6 unless facts_pass f ∷ []
argument_conditions (Record c j f h) = Content limits c.0 ∷ Entry limits j.0 ∷ 6 unless facts_pass f ∷ []
argument_conditions (CheckOut c j) = Content limits c.0 ∷ Entry limits j.0 ∷ []
argument_conditions (CheckIn j f1) = Entry limits j.0 ∷ []
argument_conditions (MoveOut j h f) = Entry limits j.0 ∷ []
argument_conditions (MoveIn c j h) = Content limits c.0 ∷ Entry limits j.0 ∷ []
argument_conditions (Delete j f) = Entry limits j.0 ∷ []

-- 7 ledger length or head wrong; 8 title table length or head wrong; 9 rule table likewise, its application number other
-- than the ledger's included
abbrev pub all_head_conditions : Pair → Buffers → List Condition
all_head_conditions pair b =
    7 unless ledger_passes b.ledger
    ∷ 8 unless titles_pass pair b.titles
    ∷ 9 unless (rules_pass pair b.rules && eqb (rules_application b.rules) (ledger_application b.ledger))
    ∷ []

-- "Register is lent the ledger only."
abbrev pub head_conditions : Pair → Request → Buffers → List Condition
head_conditions pair (Register c f) b = 7 unless ledger_passes b.ledger ∷ []
head_conditions pair (Record c j f h) b = all_head_conditions pair b
head_conditions pair (CheckOut c j) b = all_head_conditions pair b
head_conditions pair (CheckIn j f1) b = all_head_conditions pair b
head_conditions pair (MoveOut j h f) b = all_head_conditions pair b
head_conditions pair (MoveIn c j h) b = all_head_conditions pair b
head_conditions pair (Delete j f) b = all_head_conditions pair b

-- "trigger 1 or rights 0"
abbrev pub may_not_move : ℕ → ℕ → Bool
may_not_move trigger rights = eqb trigger 1 || eqb rights 0

-- "f1 mod 2^56 is the wiped title key", "f2 mod 2^56 the STI key": the filler would leave the key of this half
abbrev pub leaves_key : ℕ → List ℕ → Bool
leaves_key filler half = eqb (filler % 2 ^ 56) (key_of half)

-- "In picture calls condition 16 looks at f1 only."
abbrev pub looks_at_f2 : Pair → Bool
looks_at_f2 Audio = true
looks_at_f2 Picture = false

-- 10 entry j not of the kind the call needs; 11 row above R or not in the state needed; 12 check-out with permits 0, move
-- with trigger 1 or rights 0 (the entry's on a move out, the row's on a move in); 13 move out: h differs from the stored
-- C_HASH; 14 move in: a copy of c on the card; 15 check-in: permits are 14; 16 f1 leaves the title key, or (full entries,
-- in an audio call) f2 the STI key
abbrev pub state_conditions : Pair → Request → Buffers → List Condition
state_conditions pair (Register c f) b =
    11 unless is_empty (state_at b c.0)
    ∷ []
state_conditions pair (Record c j f h) b =
    10 unless is_vacant (kind_at b j.0)
    ∷ 11 unless is_empty (state_at b c.0)
    ∷ []
state_conditions pair (CheckOut c j) b =
    10 unless is_vacant (kind_at b j.0)
    ∷ 11 unless is_here (state_at b c.0)
    ∷ 12 when eqb (row_facts b c.0).permits 0
    ∷ []
state_conditions pair (CheckIn j f1) b =
    10 unless is_copy (kind_at b j.0)
    ∷ 11 unless is_here (state_at b (content_at b j.0))
    ∷ 15 when eqb (row_facts b (content_at b j.0)).permits 14
    ∷ 16 when leaves_key f1 (title_at b.titles j.0)
    ∷ []
state_conditions pair (MoveOut j h f) b =
    10 unless is_full (kind_at b j.0)
    ∷ 11 unless is_away (state_at b (content_at b j.0))
    ∷ 12 when may_not_move (facts_at b j.0).trigger (facts_at b j.0).rights
    ∷ 13 unless eqb h (hash_of (rule_at b.rules j.0))
    ∷ 16 when (leaves_key f.f1 (title_at b.titles j.0) || (looks_at_f2 pair && leaves_key f.f2 (rule_at b.rules j.0)))
    ∷ []
state_conditions pair (MoveIn c j h) b =
    10 unless is_vacant (kind_at b j.0)
    ∷ 11 unless is_here (state_at b c.0)
    ∷ 12 when may_not_move (row_facts b c.0).trigger (row_facts b c.0).rights
    ∷ 14 unless eqb (copies c.0 b.titles b.rules) 0
    ∷ []
state_conditions pair (Delete j f) b =
    10 unless (is_copy (kind_at b j.0) || is_full (kind_at b j.0))
    ∷ 11 when (is_full (kind_at b j.0) && not (is_away (state_at b (content_at b j.0))))
    ∷ 16 when (leaves_key f.f1 (title_at b.titles j.0) || (is_full (kind_at b j.0) && (looks_at_f2 pair && leaves_key f.f2 (rule_at b.rules j.0))))
    ∷ []

-- all of them, in number order
unfoldable pub conditions : Pair → Request → Buffers → List Condition
conditions pair k b = argument_conditions k ++ (head_conditions pair k b ++ state_conditions pair k b)
