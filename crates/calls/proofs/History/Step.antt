-- The invariant of all titles and places together, and that a change of one title at one place keeps it.
-- Assumes nothing.
use Prim.Native.Nat.{ℕ, ◌+◌}
use mathlib.Core.Path.{◌≡◌, refl, ap, sym, subst, ◌∙◌}
use mathlib.Core.Logic.{◌≢◌, ◌⊎◌, inl, inr}
use mathlib.Core.List.{◌∷◌}
use native.Mathlib.Omega.{arith}
use native.Mathlib.Decide.{ℕ_discrete}
use borrow.Author.Tests.{ne_eqb}
use Rattle.formats.specs.declared.facts.Facts.{Facts}
use Rattle.requests.specs.declared.request.Request.{Request}
use Rattle.formats.specs.declared.row.RowState.{RowState}
use Rattle.calls.specs.Buffers.{one, total, Within}
use Rattle.calls.specs.History.{Answered, Log, LastPut, a_copy, the_holder, puts, last_at, Action, event, actions}
use Rattle.calls.proofs.History.Totals.{total_same, total_put, total_at, total_some}
use Rattle.calls.proofs.History.Titles.{Place, no_title, copy, full, copy_in, full_in, eqb_self, TitleInvariant, TitleStep, own, other, unaffected}

-- what the titles' rows and the places are
pub record State : Type 0 where
  pub rows : ℕ → RowState
  pub places : ℕ → Place

abbrev pub done_now : Request → Answered
done_now k = record { call = k; answer = 0 }

-- what a done call adds to the actions of its title
actions_own : (k : Request) (log : Log) (d : ℕ) (a : Action) → event k log ≡ record { title = d; action = a } → actions d (done_now k ∷ log) ≡ a ∷ actions d log
unfolding actions
actions_own k log d a e = rw (e, eqb_self d)

-- and to those of another: nothing
actions_else : (k : Request) (log : Log) (c d : ℕ) (a : Action) → event k log ≡ record { title = d; action = a } → c ≢ d → actions c (done_now k ∷ log) ≡ actions c log
unfolding actions
actions_else k log c d a e ne = rw (e, ne_eqb c d ne)

-- what a place has is what the log says was put there last
abbrev pub Agree : Place → LastPut → Type 0
Agree no_title o = Unit {0}
Agree (copy c x) o = o ≡ a_copy c
Agree (full c f) o = o ≡ the_holder c

-- a full place counts
full_of_lem : (c : ℕ) (q : Place) → full_in c q ≢ 0 → (h : Facts) × (q ≡ full c h)
full_of_lem c no_title d = absurd (d refl)
full_of_lem c (copy e x) d = absurd (d refl)
full_of_lem c (full e h) d =
    elim (ℕ_discrete e c) [ yes i ↦ (h, ap (λ (x : ℕ). full x h) i) | no ne ↦ absurd (d (simp (ne_eqb e c ne))) ]

-- N places
module _ (N : ℕ) where
  abbrev pub copies_in : ℕ → State → ℕ
  copies_in c s = total N (λ p. copy_in c (s.places p))

  abbrev pub fulls_in : ℕ → State → ℕ
  fulls_in c s = total N (λ p. full_in c (s.places p))

  -- some place is q
  abbrev pub At : State → Place → Type 0
  At s q = (p : ℕ) × Within N p × (s.places p ≡ q)

  pub record Invariant (log : Log) (s : State) : Type 0 where
    pub titles : (c : ℕ) → TitleInvariant c (actions c log) (copies_in c s) (fulls_in c s) (At s) (s.rows c)
    pub agree : (p : ℕ) → Within N p → Agree (s.places p) (last_at p log)

  -- what a done call k does, point by point: a change of one title at one place
  pub record Change (k : Request) (log : Log) (s s' : State) : Type 0 where
    pub title : ℕ
    pub place : ℕ
    pub action : Action
    pub event_is : event k log ≡ record { title = title; action = action }
    pub step : TitleStep title (copies_in title s) (At s) action (s.rows title) (s.places place) (s'.rows title) (s'.places place)
    pub rows_else : (c : ℕ) → c ≢ title → s'.rows c ≡ s.rows c
    pub places_else : (p : ℕ) → Within N p → p ≢ place → s'.places p ≡ s.places p
    pub touched : Within N place ⊎ (s'.places place ≡ s.places place)
    pub agree_here : Within N place → Agree (s'.places place) (puts k place (last_at place log))
    pub agree_else : (p : ℕ) → p ≢ place → puts k p (last_at p log) ≡ last_at p log

  -- what some place is counts
  counts : (w : Place → ℕ) (s : State) (q : Place) → w q ≡ 1 → At s q → total N (λ p. w (s.places p)) ≢ 0
  counts w s q e x z =
      let a = total_at N (λ p. w (s.places p)) x.0 x.1 in
      let b = ap w x.2 in
      omega arith

  -- a title in full at a place, and a copy
  holder_counts : (c : ℕ) (s : State) (h : Facts) → At s (full c h) → fulls_in c s ≢ 0
  holder_counts c s h = counts (full_in c) s (full c h) (ap one (eqb_self c))

  pub copy_at_counts : (c : ℕ) (s : State) (x : ℕ) → At s (copy c x) → copies_in c s ≢ 0
  copy_at_counts c s x = counts (copy_in c) s (copy c x) (ap one (eqb_self c))

  -- and where a holder counts, it is at a place
  pub holder_found : (c : ℕ) (s : State) → fulls_in c s ≢ 0 → (h : Facts) × At s (full c h)
  holder_found c s d =
      let y = total_some N (λ p. full_in c (s.places p)) d in
      let u = full_of_lem c (s.places y.0) y.2 in
      (u.0, (y.0, y.1, u.1))

  module _ (k : Request) (log : Log) (s s' : State) (ch : Change k log s s') where
    -- every sum over the places changes by what the one place changes
    sums : (w : Place → ℕ) → total N (λ p. w (s'.places p)) + w (s.places ch.place) ≡ total N (λ p. w (s.places p)) + w (s'.places ch.place)
    sums w =
        elim ch.touched [
          | inl l ↦ total_put N (λ p. w (s.places p)) (λ p. w (s'.places p)) ch.place l (λ j m ne. ap w (ch.places_else j m ne))
          | inr e ↦
              let a = total_same N (λ p. w (s.places p)) (λ p. w (s'.places p)) (λ j m. ap w (
              elim (ℕ_discrete j ch.place) [ yes i ↦ rw i e | no ne ↦ ch.places_else j m ne ])) in
              let b = ap w e in
              omega arith
        ]

    -- what some place is after the change was put there, or some place was it before
    put_or_before : (q : Place) → At s' q → (Within N ch.place × (s'.places ch.place ≡ q)) ⊎ At s q
    put_or_before q x =
        elim (ℕ_discrete x.0 ch.place) [
          | yes e ↦ inl (subst (λ p. Within N p × (s'.places p ≡ q)) e (x.1, x.2))
          | no ne ↦ inr (x.0, x.1, sym (ch.places_else x.0 x.1 ne) ∙ x.2)
        ]

    own_title : Invariant log s
        → TitleInvariant ch.title (actions ch.title (done_now k ∷ log)) (copies_in ch.title s') (fulls_in ch.title s') (At s') (s'.rows ch.title)
    own_title inv =
        let d = ch.title in
        rw (actions_own k log d ch.action ch.event_is)
        (own d (copies_in d s) (fulls_in d s) (copies_in d s') (fulls_in d s') (At s) (At s') (actions d log) ch.step
        (sums (copy_in d)) (sums (full_in d)) (holder_found d s) (holder_counts d s) (copy_at_counts d s')
        (λ q x. elim (put_or_before q x) [ inl e ↦ inl e.1 | inr y ↦ inr y ]) (inv.titles d))

    other_title : (c : ℕ) → c ≢ ch.title → Invariant log s
        → TitleInvariant c (actions c (done_now k ∷ log)) (copies_in c s') (fulls_in c s') (At s') (s'.rows c)
    other_title c ne inv =
        let t = unaffected c ch.title (copies_in ch.title s) (At s) ne ch.step in
        rw (actions_else k log c ch.title ch.action ch.event_is ne, ch.rows_else c ne)
        (other c (actions c log) (copies_in c s) (fulls_in c s) (copies_in c s') (fulls_in c s') (At s) (At s') (s.rows c)
        (omega (arith, sums (copy_in c), t.copies)) (omega (arith, sums (full_in c), t.fulls))
        (λ q has x. elim (put_or_before q x) [ inl e ↦ (ch.place, e.0, t.before q has e.1) | inr y ↦ y ]) (inv.titles c))

    agree_after : (p : ℕ) → Within N p → Invariant log s → Agree (s'.places p) (puts k p (last_at p log))
    agree_after p l inv =
        elim (ℕ_discrete p ch.place) [
          | yes e ↦ subst (λ j. Agree (s'.places j) (puts k j (last_at j log))) (sym e) (ch.agree_here (subst (Within N) e l))
          | no ne ↦ rw (ch.places_else p l ne, ch.agree_else p ne) (inv.agree p l)
        ]

    -- the invariant is kept
    pub kept : Invariant log s → Invariant (done_now k ∷ log) s'
    unfolding last_at
    kept inv =
        record {
          titles = λ c.
              elim (ℕ_discrete c ch.title) [
                | yes e ↦ subst (λ d. TitleInvariant d (actions d (done_now k ∷ log)) (copies_in d s') (fulls_in d s') (At s') (s'.rows d)) (sym e) (own_title inv)
                | no ne ↦ other_title c ne inv
              ];
          agree = λ p l. agree_after p l inv;
        }
