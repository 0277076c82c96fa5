-- Work is done: each call is done exactly where its needs are met, and then its row and its entry are what the paper says, and
-- all else is as it was; where a need is not met, the first such gives the answer. A counter that refuses work, or that answers and
-- does nothing, does not meet these.
use Rattle.std.specs.Prelude.{ℕ, ◌<◌, ◌^◌, ◌≡◌, ◌≢◌, List, get_or}
use Rattle.formats.specs.Part.{part}
use Rattle.formats.specs.Field.{bytes_of}
use Rattle.formats.specs.Half.{wiped}
use Rattle.formats.specs.Title.{title_half}
use Rattle.formats.specs.Rule.{rule_half, wiped_rule}
use Rattle.formats.specs.Row.{here_row, plain_row}
use Rattle.formats.specs.declared.head.Pair.{Pair}
use Rattle.formats.specs.declared.head.Pair.TheVariants.{Audio}
use Rattle.formats.specs.declared.facts.ContentId.{ContentId}
use Rattle.formats.specs.declared.facts.Facts.{Facts}
use Rattle.formats.specs.declared.facts.Fillers.{Fillers}
use Rattle.formats.specs.declared.entry.EntryKind.TheVariants.{Copy, Full, Spent}
use Rattle.formats.specs.declared.row.RowState.{RowState}
use Rattle.formats.specs.declared.row.RowState.TheVariants.{Here, Away, Gone}
use Rattle.requests.specs.declared.request.Request.{Request}
use Rattle.requests.specs.declared.request.Request.TheVariants.{Register, Record, CheckOut, CheckIn, MoveOut, MoveIn, Delete}
use Rattle.calls.specs.Count.{one_less, one_more}
use Rattle.calls.specs.Buffers.{Buffers, buffers_of, row_at, title_at, rule_at, state_at, row_facts, kind_at, content_at, facts_at, cci_at, title_key_at, sti_key_at, hash_at}
use Rattle.calls.specs.Effect.{copy_cci}
use Rattle.calls.specs.Perform.{perform, AreBytes}
use Rattle.calls.specs.Needs.{AnsweredBy, needs_of, Needs}
use Rattle.calls.specs.Untouched.{Untouched}

-- THE ROW AND THE ENTRY of a done call

-- row c is in this state, by these 24 bytes: "a change of state writes all 24 bytes"
pub record RowIs (b : Buffers) (c : ℕ) (state : RowState) (bytes : List ℕ) : Type 0 where
  pub reads : state_at b c ≡ state
  pub bytes_are : row_at b.ledger c ≡ bytes

-- g are the facts f, with these rights and permits
pub record Recounted (f : Facts) (rights permits : ℕ) (g : Facts) : Type 0 where
  pub cci : g.cci ≡ f.cci
  pub trigger : g.trigger ≡ f.trigger
  pub rights_are : g.rights ≡ rights
  pub permits_are : g.permits ≡ permits
  pub title_key : g.title_key ≡ f.title_key
  pub sti_key : g.sti_key ≡ f.sti_key

-- row c is still here, with other permits: "Check-out and check-in change at most byte 4 of their row"
pub record PermitsBecome (b after : Buffers) (c permits : ℕ) : Type 0 where
  pub here : state_at after c ≡ Here (row_facts after c)
  pub facts : Recounted (row_facts b c) (row_facts b c).rights permits (row_facts after c)
  pub bytes : (i : ℕ) → i ≢ 4 → get_or (row_at after.ledger c) i 0 ≡ get_or (row_at b.ledger c) i 0

-- entry j is full, with ID c, the facts f and h: "A written half gets its fields, flag 1, ID c, all reserved bits 0."
pub record FullEntry (b : Buffers) (j c : ℕ) (f : Facts) (h : ℕ) : Type 0 where
  pub full : kind_at b j ≡ Full
  pub id : content_at b j ≡ c
  pub facts : facts_at b j ≡ f
  pub hash : h < 2 ^ 64 → hash_at b j ≡ h
  pub title_half : title_at b.titles j ≡ title_half f.cci f.title_key c
  pub rule_half : rule_at b.rules j ≡ rule_half f h c

-- the title half of entry j is wiped, and no longer has the key that it had
pub record TitleWiped (j f1 : ℕ) (b after : Buffers) : Type 0 where
  pub title_half : title_at after.titles j ≡ wiped (title_at b.titles j) f1
  pub key_gone : title_key_at after j ≢ title_key_at b j

-- and so its rule half. What it held is overwritten with f2, whatever that was; in an audio call it no longer has the STI key that it
-- had, and in a picture call, which does not look at f2, it may have the same number again
pub record RuleWiped (pair : Pair) (j : ℕ) (f : Fillers) (b after : Buffers) : Type 0 where
  pub rule_half : rule_at after.rules j ≡ wiped_rule (rule_at b.rules j) f
  pub overwritten : part (rule_at after.rules j) 0 8 ≡ bytes_of 8 f.f2
  pub key_gone : pair ≡ Audio → sti_key_at after j ≢ sti_key_at b j

-- W7: entry j is spent, and has the ID of the title that was in it, so that it shows "which entry once had which loan"
pub record EntrySpent (j : ℕ) (b after : Buffers) : Type 0 where
  pub spent : kind_at after j ≡ Spent
  pub id : content_at after j ≡ content_at b j

-- 1 register: row "becomes here with the facts"
pub record Registered (c : ℕ) (f : Facts) (b after : Buffers) : Type 0 where
  pub row : RowIs after c (Here f) (here_row f)
  pub titles : after.titles ≡ b.titles
  pub rules : after.rules ≡ b.rules

-- 2 record: "row away, entry full with the facts and h"
pub record Recorded (c j : ℕ) (f : Facts) (h : ℕ) (after : Buffers) : Type 0 where
  pub row : RowIs after c Away (plain_row 2)
  pub entry : FullEntry after j c f h

-- 3 check-out: "title half written with the row's CCI and key; permits less 1, or 15 unchanged. The rule half is untouched.", and of
-- the CCI W3: "check-out writes CCI 3 where the row has 2; 0 and 3 pass through"
pub record CheckedOut (c j : ℕ) (b after : Buffers) : Type 0 where
  pub row : PermitsBecome b after c (one_less (row_facts b c).permits)
  pub copy : kind_at after j ≡ Copy
  pub id : content_at after j ≡ c
  pub cci_of_2 : (row_facts b c).cci ≡ 2 → cci_at after j ≡ 3
  pub cci_else : (row_facts b c).cci ≢ 2 → cci_at after j ≡ (row_facts b c).cci
  pub title_key : title_key_at after j ≡ (row_facts b c).title_key
  pub title_half : title_at after.titles j ≡ title_half (copy_cci (row_facts b c).cci) (row_facts b c).title_key c
  pub rules : after.rules ≡ b.rules

-- 4 check-in: "wiped; permits plus 1, or 15 unchanged"
pub record CheckedIn (j f1 : ℕ) (b after : Buffers) : Type 0 where
  pub row : PermitsBecome b after (content_at b j) (one_more (row_facts b (content_at b j)).permits)
  pub entry : EntrySpent j b after
  pub title : TitleWiped j f1 b after
  pub rules : after.rules ≡ b.rules

-- 5 move out: "row here with the entry's facts; both halves wiped; rights less 1, or 15 unchanged"
pub record MovedOut (pair : Pair) (j : ℕ) (f : Fillers) (b after : Buffers) : Type 0 where
  pub row : RowIs after (content_at b j) (Here (row_facts after (content_at b j))) (here_row (row_facts after (content_at b j)))
  pub facts : Recounted (facts_at b j) (one_less (facts_at b j).rights) (facts_at b j).permits (row_facts after (content_at b j))
  pub entry : EntrySpent j b after
  pub title : TitleWiped j f.f1 b after
  pub rule : RuleWiped pair j f b after

-- 6 move in: "entry full with the row's facts and h; rights less 1, or 15 unchanged; row away"
pub record MovedIn (c j h : ℕ) (b after : Buffers) : Type 0 where
  pub row : RowIs after c Away (plain_row 2)
  pub entry : FullEntry after j c (facts_at after j) h
  pub facts : Recounted (row_facts b c) (one_less (row_facts b c).rights) (row_facts b c).permits (facts_at after j)

-- 7 delete: "a copy has its title half wiped, its row neither tested nor touched"
pub record CopyDeleted (j : ℕ) (f : Fillers) (b after : Buffers) : Type 0 where
  pub entry : EntrySpent j b after
  pub title : TitleWiped j f.f1 b after
  pub ledger : after.ledger ≡ b.ledger
  pub rules : after.rules ≡ b.rules

-- "a full entry has both halves wiped and its row, away, becomes gone"
pub record HolderDeleted (pair : Pair) (j : ℕ) (f : Fillers) (b after : Buffers) : Type 0 where
  pub row : RowIs after (content_at b j) Gone (plain_row 3)
  pub entry : EntrySpent j b after
  pub title : TitleWiped j f.f1 b after
  pub rule : RuleWiped pair j f b after

pub record Deleted (pair : Pair) (j : ℕ) (f : Fillers) (b after : Buffers) : Type 0 where
  pub of_copy : kind_at b j ≡ Copy → CopyDeleted j f b after
  pub of_full : kind_at b j ≡ Full → HolderDeleted pair j f b after

-- what a done call leaves, where it found b
abbrev pub Left : Pair → Request → Buffers → Buffers → Type 0
Left pair (Register c f) b after = Registered c.0 f b after
Left pair (Record c j f h) b after = Recorded c.0 j.0 f h after
Left pair (CheckOut c j) b after = CheckedOut c.0 j.0 b after
Left pair (CheckIn j f1) b after = CheckedIn j.0 f1 b after
Left pair (MoveOut j h f) b after = MovedOut pair j.0 f b after
Left pair (MoveIn c j h) b after = MovedIn c.0 j.0 h b after
Left pair (Delete j f) b after = Deleted pair j.0 f b after

-- THE STATEMENT

-- of one call on any buffers
pub record Works (pair : Pair) (k : Request) (b : Buffers) : Type 0 where
  pub answered : AnsweredBy (needs_of pair k b) (perform pair k b).answer
  pub leaves : AreBytes b → Needs pair k b → Left pair k b (perform pair k b).buffers
  pub untouched : Untouched k b (perform pair k b).buffers

-- of each call on tables of either pair and on all buffers, damaged ones included
abbrev pub WorkIsDone : Type 0
WorkIsDone = (pair : Pair) (k : Request) (b : Buffers) → Works pair k b

-- "Register is lent the ledger only.": it answers and leaves the same ledger whatever the card's tables are, and of which pair
pub record SameRegister (pair pair' : Pair) (k : Request) (b b' : Buffers) : Type 0 where
  pub answer : (perform pair k b).answer ≡ (perform pair' k b').answer
  pub ledger : (perform pair k b).buffers.ledger ≡ (perform pair' k b').buffers.ledger

abbrev pub RegisterByLedger : Type 0
RegisterByLedger =
    (pair pair' : Pair) (c : ContentId) (f : Facts) (ledger titles rules titles' rules' : List ℕ)
    → SameRegister pair pair' (Register c f) (buffers_of ledger titles rules) (buffers_of ledger titles' rules')

-- "A gone row is not used again.": whatever the call, done or refused, it stays gone
abbrev pub GoneStays : Type 0
GoneStays = (pair : Pair) (k : Request) (b : Buffers) (c : ℕ) → state_at b c ≡ Gone → state_at (perform pair k b).buffers c ≡ Gone
