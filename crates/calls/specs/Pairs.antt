-- What a call does with tables of the other pair, and what condition 16 looks at in a picture call.
use Rattle.std.specs.Prelude.{ℕ, ◌%◌, ◌^◌, ◌≡◌, ◌≢◌}
use Rattle.formats.specs.Head.{LedgerHead, TitlesHead, RulesHead}
use Rattle.formats.specs.declared.head.Pair.{Pair}
use Rattle.formats.specs.declared.head.Pair.TheVariants.{Audio, Picture}
use Rattle.formats.specs.declared.facts.EntryNumber.{EntryNumber}
use Rattle.formats.specs.declared.facts.Fillers.{Fillers}
use Rattle.formats.specs.declared.entry.EntryKind.TheVariants.{Full}
use Rattle.requests.specs.Request.{kind_of as call_of, limit_of}
use Rattle.requests.specs.declared.request.Request.{Request}
use Rattle.requests.specs.declared.request.Request.TheVariants.{MoveOut, Delete}
use Rattle.calls.specs.Buffers.{Buffers, kind_at, sti_key_at}
use Rattle.calls.specs.Perform.{perform}
use Rattle.calls.specs.Needs.{MetBelow, WipesTitleKey, needs_of}

-- TABLES OF THE OTHER PAIR

-- audio for picture, and picture for audio
abbrev pub other_pair : Pair → Pair
other_pair Audio = Picture
other_pair Picture = Audio

-- the checks of a call before those of the card pass: its arguments are within their limits, and the ledger is right
pub record PassesUntil8 (k : Request) (b : Buffers) : Type 0 where
  pub its_arguments : limit_of k ≡ 0
  pub ledger : LedgerHead b.ledger

-- and so does that of the title table
pub record PassesUntil9 (pair : Pair) (k : Request) (b : Buffers) : Type 0 where
  pub until_8 : PassesUntil8 k b
  pub titles : TitlesHead pair b.titles

-- a call that is lent the card, which is all but 1, register: on a card of the other pair it is answered 8; where only the rule table
-- is of the other pair, 9
pub record OtherPair : Type 0 where
  pub titles : (pair : Pair) (k : Request) (b : Buffers) → call_of k ≢ 1 → PassesUntil8 k b → TitlesHead (other_pair pair) b.titles
      → (perform pair k b).answer ≡ 8
  pub rules : (pair : Pair) (k : Request) (b : Buffers) → call_of k ≢ 1 → PassesUntil9 pair k b → RulesHead (other_pair pair) b.rules
      → (perform pair k b).answer ≡ 9

-- "In picture calls condition 16 looks at f1 only."

-- what a call with an f2 that is the STI key is answered: 16, and in a picture call done
abbrev pub f2_answer : Pair → ℕ
f2_answer Audio = 16
f2_answer Picture = 0

-- so it is where f2 modulo 2^56 is the STI key of a full entry, and all else that the call needs is there; and a picture call is
-- answered the same, whatever the fillers but f1 are
pub record PictureByF1 : Type 0 where
  pub moved_out : (pair : Pair) (j : EntryNumber) (h : ℕ) (f : Fillers) (b : Buffers) → MetBelow 16 (needs_of pair (MoveOut j h f) b)
      → WipesTitleKey b j.0 f.f1 → f.f2 % 2 ^ 56 ≡ sti_key_at b j.0 → (perform pair (MoveOut j h f) b).answer ≡ f2_answer pair
  pub deleted : (pair : Pair) (j : EntryNumber) (f : Fillers) (b : Buffers) → MetBelow 16 (needs_of pair (Delete j f) b) → kind_at b j.0 ≡ Full
      → WipesTitleKey b j.0 f.f1 → f.f2 % 2 ^ 56 ≡ sti_key_at b j.0 → (perform pair (Delete j f) b).answer ≡ f2_answer pair
  pub any_move_out : (j : EntryNumber) (h : ℕ) (f g : Fillers) (b : Buffers) → f.f1 ≡ g.f1
      → (perform Picture (MoveOut j h f) b).answer ≡ (perform Picture (MoveOut j h g) b).answer
  pub any_delete : (j : EntryNumber) (f g : Fillers) (b : Buffers) → f.f1 ≡ g.f1
      → (perform Picture (Delete j f) b).answer ≡ (perform Picture (Delete j g) b).answer
