-- What a call has left, from what its writers left.
-- Assumes nothing.
use Prim.Native.Nat.{ℕ, ◌*◌}
use mathlib.Core.Path.{◌≡◌, refl, ap, ap₂, ◌∙◌}
use mathlib.Core.List.{List}
use mathlib.Core.Bool.{true, false}
use Rattle.formats.specs.Part.{put}
use Rattle.formats.specs.Half.{id_of, wiped}
use Rattle.formats.specs.Title.{title_half}
use Rattle.formats.specs.Rule.{wiped_rule}
use Rattle.formats.specs.Row.{here_row, plain_row, with_permits}
use Rattle.formats.specs.Entry.{kind_of, entry_facts, is_full}
use Rattle.formats.specs.declared.facts.ContentId.{ContentId}
use Rattle.formats.specs.declared.facts.EntryNumber.{EntryNumber}
use Rattle.formats.specs.declared.facts.Facts.{Facts}
use Rattle.formats.specs.declared.facts.Fillers.{Fillers}
use Rattle.requests.specs.declared.request.Request.TheVariants.{Record, CheckOut, CheckIn, MoveOut, MoveIn, Delete}
use Rattle.calls.specs.Count.{one_less, one_more}
use Rattle.calls.specs.Buffers.{buffers_of, row_at, title_at, rule_at, state_in, here_facts}
use Rattle.calls.specs.Effect.{copy_cci, effect, after_move}

-- three buffers, each as it should be
pub same_buffers : {l t r l' t' r' : List ℕ} → l ≡ l' → t ≡ t' → r ≡ r' → buffers_of l t r ≡ buffers_of l' t' r'
same_buffers p q r = rw (p, q, r) refl

module _ (l t r : List ℕ) where
  -- check-out: the row's facts f, its permits p afterwards, and the CCI k of the copy
  pub checked_out_lem : (c : ContentId) (j : EntryNumber) {f : Facts} {p k : ℕ} {l' t' : List ℕ} → f ≡ here_facts (state_in l c.0) → p ≡ one_less f.permits → k ≡ copy_cci f.cci
      → l' ≡ put l (24 * c.0) (with_permits (row_at l c.0) p) → t' ≡ put t (16 * j.0) (title_half k f.title_key c.0)
      → buffers_of l' t' r ≡ effect (CheckOut c j) (buffers_of l t r)
  unfolding effect
  checked_out_lem c j {f} e g i p q =
      same_buffers
      (p ∙ ap (λ (n : ℕ). put l (24 * c.0) (with_permits (row_at l c.0) n)) (g ∙ ap (λ (x : Facts). one_less x.permits) e))
      (q
      ∙ ap (λ (n : ℕ). put t (16 * j.0) (title_half n f.title_key c.0)) i
      ∙ ap (λ (x : Facts). put t (16 * j.0) (title_half (copy_cci x.cci) x.title_key c.0)) e)
      refl

  -- check-in: the ID i in the title half, the facts f of its row, and its permits p afterwards
  pub checked_in_lem : (j : EntryNumber) (f1 : ℕ) (i : ℕ) {f : Facts} {p : ℕ} {l' t' : List ℕ} → i ≡ id_of (title_at t j.0) → f ≡ here_facts (state_in l i) → p ≡ one_more f.permits
      → l' ≡ put l (24 * i) (with_permits (row_at l i) p) → t' ≡ put t (16 * j.0) (wiped (title_at t j.0) f1)
      → buffers_of l' t' r ≡ effect (CheckIn j f1) (buffers_of l t r)
  unfolding effect
  checked_in_lem j f1 i d e g p q =
      same_buffers
      (p
      ∙ ap (λ (n : ℕ). put l (24 * i) (with_permits (row_at l i) n)) (g ∙ ap (λ (x : Facts). one_more x.permits) e)
      ∙ ap (λ (n : ℕ). put l (24 * n) (with_permits (row_at l n) (one_more (here_facts (state_in l n)).permits))) d)
      q refl

  -- move out: the ID i in the title half, and the facts f that the row gets; the hash leaves no trace
  pub moved_out : (j : EntryNumber) (h : ℕ) (f : Fillers) (i : ℕ) {g : Facts} {l' t' r' : List ℕ} → i ≡ id_of (title_at t j.0) → g ≡ after_move (entry_facts (title_at t j.0) (rule_at r j.0))
      → l' ≡ put l (24 * i) (here_row g) → t' ≡ put t (16 * j.0) (wiped (title_at t j.0) f.f1) → r' ≡ put r (32 * j.0) (wiped_rule (rule_at r j.0) f)
      → buffers_of l' t' r' ≡ effect (MoveOut j h f) (buffers_of l t r)
  unfolding effect
  moved_out j h f i {g} d e p q s = same_buffers (p ∙ ap₂ (λ (n : ℕ) (x : Facts). put l (24 * n) (here_row x)) d e) q s

  -- move in is a record with the row's facts after a move
  pub moved_in : (c : ContentId) (j : EntryNumber) (h : ℕ) {f : Facts} {after : _} → f ≡ after_move (here_facts (state_in l c.0))
      → after ≡ effect (Record c j f h) (buffers_of l t r) → after ≡ effect (MoveIn c j h) (buffers_of l t r)
  unfolding effect
  moved_in c j h e q = q ∙ ap (λ (f : Facts). effect (Record c j f h) (buffers_of l t r)) e

  -- delete of a full entry, with the ID i in its title half
  pub deleted : (j : EntryNumber) (f : Fillers) (i : ℕ) {l' t' r' : List ℕ} → is_full (kind_of (title_at t j.0) (rule_at r j.0)) ≡ true → i ≡ id_of (title_at t j.0)
      → l' ≡ put l (24 * i) (plain_row 3) → t' ≡ put t (16 * j.0) (wiped (title_at t j.0) f.f1) → r' ≡ put r (32 * j.0) (wiped_rule (rule_at r j.0) f)
      → buffers_of l' t' r' ≡ effect (Delete j f) (buffers_of l t r)
  unfolding effect
  deleted j f i full d p q s = simp full (same_buffers (p ∙ ap (λ (n : ℕ). put l (24 * n) (plain_row 3)) d) q s)

  -- and of any other
  pub deleted_copy : (j : EntryNumber) (f : Fillers) {t' : List ℕ} → is_full (kind_of (title_at t j.0) (rule_at r j.0)) ≡ false
      → t' ≡ put t (16 * j.0) (wiped (title_at t j.0) f.f1) → buffers_of l t' r ≡ effect (Delete j f) (buffers_of l t r)
  unfolding effect
  deleted_copy j f copy q = simp copy (same_buffers refl q refl)
