-- What each call needs, by names, for the proofs.
-- Assumes nothing.
use Prim.Native.Nat.{ℕ}
use mathlib.Core.Path.{◌≡◌, refl, sym, ◌∙◌}
use mathlib.Core.Logic.{◌≢◌, ◌⊎◌, inl, inr}
use native.Mathlib.Omega.{arith}
use Rattle.formats.specs.declared.head.Pair.{Pair}
use Rattle.formats.specs.declared.head.Pair.TheVariants.{Audio}
use Rattle.formats.specs.Head.{LedgerHead, TitlesHead, RulesHead, ledger_application, rules_application}
use Rattle.formats.specs.declared.facts.Facts.{Facts}
use Rattle.formats.specs.declared.facts.Fillers.{Fillers}
use Rattle.formats.specs.declared.entry.EntryKind.TheVariants.{Copy, Full}
use Rattle.formats.specs.declared.row.RowState.TheVariants.{Empty, Here, Away}
use Rattle.requests.specs.declared.request.Request.{Request}
use Rattle.requests.specs.declared.request.Request.TheVariants.{Register, Record, CheckOut, CheckIn, MoveOut, MoveIn, Delete}
use Rattle.calls.specs.Buffers.{Buffers, state_at, row_facts, kind_at, content_at, facts_at, hash_at, Within}
use Rattle.calls.specs.Needs.{FactsInRange, RulesOfLedger, MayMove, WipesTitleKey, WipesStiKey, Vacant, NoCopy, Needs}

-- 7, 8 and 9
pub record HeadsPass (pair : Pair) (b : Buffers) : Type 0 where
  pub ledger : LedgerHead b.ledger
  pub titles : TitlesHead pair b.titles
  pub rules : RulesOfLedger pair b

-- the heads by themselves, and the application numbers in them
pub record Heads (pair : Pair) (application card_application : ℕ) (b : Buffers) : Type 0 where
  pub ledger : LedgerHead b.ledger
  pub titles : TitlesHead pair b.titles
  pub rules : RulesHead pair b.rules
  pub of_ledger : ledger_application b.ledger ≡ application
  pub of_card : rules_application b.rules ≡ card_application

-- of one application they pass together
pub heads_pass : {pair : Pair} {application : ℕ} {b : Buffers} → Heads pair application application b → HeadsPass pair b
heads_pass h = record { ledger = h.ledger; titles = h.titles; rules = record { head = h.rules; application = h.of_card ∙ sym h.of_ledger } }

pub heads_of : {pair : Pair} {b : Buffers} → HeadsPass pair b → Heads pair (ledger_application b.ledger) (ledger_application b.ledger) b
heads_of p = record { ledger = p.ledger; titles = p.titles; rules = p.rules.head; of_ledger = refl; of_card = p.rules.application }

pub record RegisterNeeds (c : ℕ) (f : Facts) (b : Buffers) : Type 0 where
  pub content : Within 999 c
  pub facts : FactsInRange f
  pub ledger : LedgerHead b.ledger
  pub empty : state_at b c ≡ Empty

pub record RecordNeeds (pair : Pair) (c j : ℕ) (f : Facts) (b : Buffers) : Type 0 where
  pub content : Within 999 c
  pub entry : Within 999 j
  pub facts : FactsInRange f
  pub heads : HeadsPass pair b
  pub vacant : Vacant b j
  pub empty : state_at b c ≡ Empty

pub record CheckOutNeeds (pair : Pair) (c j : ℕ) (b : Buffers) : Type 0 where
  pub content : Within 999 c
  pub entry : Within 999 j
  pub heads : HeadsPass pair b
  pub vacant : Vacant b j
  pub here : state_at b c ≡ Here (row_facts b c)
  pub permit_left : (row_facts b c).permits ≢ 0

pub record CheckInNeeds (pair : Pair) (j f1 : ℕ) (b : Buffers) : Type 0 where
  pub entry : Within 999 j
  pub heads : HeadsPass pair b
  pub copy : kind_at b j ≡ Copy
  pub here : state_at b (content_at b j) ≡ Here (row_facts b (content_at b j))
  pub not_14 : (row_facts b (content_at b j)).permits ≢ 14
  pub title_key : WipesTitleKey b j f1

pub record MoveOutNeeds (pair : Pair) (j h : ℕ) (f : Fillers) (b : Buffers) : Type 0 where
  pub entry : Within 999 j
  pub heads : HeadsPass pair b
  pub full : kind_at b j ≡ Full
  pub away : state_at b (content_at b j) ≡ Away
  pub may_move : MayMove (facts_at b j)
  pub hash : h ≡ hash_at b j
  pub title_key : WipesTitleKey b j f.f1
  pub sti_key : pair ≡ Audio → WipesStiKey b j f.f2

pub record MoveInNeeds (pair : Pair) (c j : ℕ) (b : Buffers) : Type 0 where
  pub content : Within 999 c
  pub entry : Within 999 j
  pub heads : HeadsPass pair b
  pub vacant : Vacant b j
  pub here : state_at b c ≡ Here (row_facts b c)
  pub may_move : MayMove (row_facts b c)
  pub no_copy : NoCopy b c

pub data Deletable (pair : Pair) (j : ℕ) (f : Fillers) (b : Buffers) : Type 0 where
  deletes_copy : kind_at b j ≡ Copy → Deletable pair j f b
  deletes_holder : kind_at b j ≡ Full → state_at b (content_at b j) ≡ Away → (pair ≡ Audio → WipesStiKey b j f.f2) → Deletable pair j f b

pub record DeleteNeeds (pair : Pair) (j : ℕ) (f : Fillers) (b : Buffers) : Type 0 where
  pub entry : Within 999 j
  pub heads : HeadsPass pair b
  pub deletable : Deletable pair j f b
  pub title_key : WipesTitleKey b j f.f1

abbrev pub Named : Pair → Request → Buffers → Type 0
Named pair (Register c f) b = RegisterNeeds c.0 f b
Named pair (Record c j f h) b = RecordNeeds pair c.0 j.0 f b
Named pair (CheckOut c j) b = CheckOutNeeds pair c.0 j.0 b
Named pair (CheckIn j f1) b = CheckInNeeds pair j.0 f1 b
Named pair (MoveOut j h f) b = MoveOutNeeds pair j.0 h f b
Named pair (MoveIn c j h) b = MoveInNeeds pair c.0 j.0 b
Named pair (Delete j f) b = DeleteNeeds pair j.0 f b

pub named : (pair : Pair) (k : Request) (b : Buffers) → Needs pair k b → Named pair k b
named pair (Register c f) b (content, (facts, (ledger, (empty, end)))) = record { content = content; facts = facts; ledger = ledger; empty = empty }
named pair (Record c j f h) b (content, (entry, (facts, (ledger, (titles, (rules, (vacant, (empty, end)))))))) =
    record { content = content; entry = entry; facts = facts; heads = record { ledger = ledger; titles = titles; rules = rules }; vacant = vacant; empty = empty }
named pair (CheckOut c j) b (content, (entry, (ledger, (titles, (rules, (vacant, (here, (permit_left, end)))))))) =
    record { content = content; entry = entry; heads = record { ledger = ledger; titles = titles; rules = rules }; vacant = vacant; here = here; permit_left = permit_left }
named pair (CheckIn j f1) b (entry, (ledger, (titles, (rules, (copy, (here, (not_14, (title_key, end)))))))) =
    record { entry = entry; heads = record { ledger = ledger; titles = titles; rules = rules }; copy = copy; here = here; not_14 = not_14; title_key = title_key }
named pair (MoveOut j h f) b (entry, (ledger, (titles, (rules, (full, (away, (may_move, (hash, (keys, end))))))))) =
    record {
      entry = entry;
      heads = record { ledger = ledger; titles = titles; rules = rules };
      full = full;
      away = away;
      may_move = may_move;
      hash = hash;
      title_key = keys.0;
      sti_key = keys.1;
    }
named pair (MoveIn c j h) b (content, (entry, (ledger, (titles, (rules, (vacant, (here, (may_move, (no_copy, end))))))))) =
    record {
      content = content;
      entry = entry;
      heads = record { ledger = ledger; titles = titles; rules = rules };
      vacant = vacant;
      here = here;
      may_move = may_move;
      no_copy = no_copy;
    }
named pair (Delete j f) b (entry, (ledger, (titles, (rules, (kind, (away, (keys, end))))))) =
    record {
      entry = entry;
      heads = record { ledger = ledger; titles = titles; rules = rules };
      deletable = elim kind [ inl copy ↦ deletes_copy copy | inr full ↦ deletes_holder full (away full) (keys.1 full) ];
      title_key = keys.0;
    }

-- what is asked of a full entry that is to be deleted is not asked of a copy
module _ (pair : Pair) (b : Buffers) (j : ℕ) (f : Fillers) where
  not_both : {A : Type 0} → kind_at b j ≡ Copy → kind_at b j ≡ Full → A
  not_both copy full = let z : ◌≡◌ {A = ℕ} 0 1 = cc in absurd (omega arith)

  pub kind_of_lem : Deletable pair j f b → (kind_at b j ≡ Copy) ⊎ (kind_at b j ≡ Full)
  kind_of_lem (deletes_copy copy) = inl copy
  kind_of_lem (deletes_holder full away key) = inr full

  away_if : Deletable pair j f b → kind_at b j ≡ Full → state_at b (content_at b j) ≡ Away
  away_if (deletes_copy copy) = not_both copy
  away_if (deletes_holder full away key) = λ e. away

  key_if : Deletable pair j f b → kind_at b j ≡ Full → pair ≡ Audio → WipesStiKey b j f.f2
  key_if (deletes_copy copy) = not_both copy
  key_if (deletes_holder full away key) = λ e. key

pub unnamed : (pair : Pair) (k : Request) (b : Buffers) → Named pair k b → Needs pair k b
unnamed pair (Register c f) b n = (n.content, (n.facts, (n.ledger, (n.empty, tt))))
unnamed pair (Record c j f h) b n =
    (n.content, (n.entry, (n.facts, (n.heads.ledger, (n.heads.titles, (n.heads.rules, (n.vacant, (n.empty, tt))))))))
unnamed pair (CheckOut c j) b n =
    (n.content, (n.entry, (n.heads.ledger, (n.heads.titles, (n.heads.rules, (n.vacant, (n.here, (n.permit_left, tt))))))))
unnamed pair (CheckIn j f1) b n =
    (n.entry, (n.heads.ledger, (n.heads.titles, (n.heads.rules, (n.copy, (n.here, (n.not_14, (n.title_key, tt))))))))
unnamed pair (MoveOut j h f) b n =
    (n.entry, (n.heads.ledger, (n.heads.titles, (n.heads.rules, (n.full, (n.away, (n.may_move, (n.hash, ((n.title_key, n.sti_key), tt)))))))))
unnamed pair (MoveIn c j h) b n =
    (n.content, (n.entry, (n.heads.ledger, (n.heads.titles, (n.heads.rules, (n.vacant, (n.here, (n.may_move, (n.no_copy, tt)))))))))
unnamed pair (Delete j f) b n = (
  n.entry,
  (
    n.heads.ledger,
    (
      n.heads.titles,
      (
        n.heads.rules,
        (kind_of_lem pair b j.0 f n.deletable, (away_if pair b j.0 f n.deletable, ((n.title_key, key_if pair b j.0 f n.deletable), tt))),
      ),
    ),
  ),
)
