-- One title by itself: how its row, its copies and its holder at a place go on with each thing done to it. No bytes and no
-- log stand here.
-- Assumes nothing.
use Prim.Native.Nat.{ℕ, ◌+◌}
use mathlib.Core.Path.{◌≡◌, refl, sym, ap, subst, ◌∙◌}
use mathlib.Core.Logic.{◌≢◌, ◌⊎◌, inl, inr}
use mathlib.Core.List.{List, ◌∷◌}
use mathlib.Core.Bool.{Bool, true, false, true≢false}
use native.Mathlib.Omega.{arith}
use lib.Dec.{eqb}
use borrow.Author.Tests.{eq-eqb, ne_eqb}
use Rattle.std.specs.Prelude.{None, Some}
use Rattle.formats.specs.declared.facts.Facts.{Facts}
use Rattle.formats.specs.declared.row.RowState.{RowState}
use Rattle.formats.specs.declared.row.RowState.TheVariants.{Empty, Here, Away, Gone, NoState}
use Rattle.formats.proofs.facts.Laws.{permitting}
use Rattle.calls.specs.Count.{one_less, one_more}
use Rattle.calls.specs.Buffers.{one}
use Rattle.calls.specs.Effect.{copy_cci, after_move}
use Rattle.calls.specs.History.{Action, granted, checked_out, checked_in, moved, copy_deleted, holder_deleted, times, grant, Account}
use Rattle.calls.proofs.Counts.{less_limited, less_unlimited, more_limited, more_unlimited}

-- a place has nothing, a copy of a title with its CCI, or a title in full with its facts
pub data Place : Type 0 where
  no_title : Place
  copy : ℕ → ℕ → Place
  full : ℕ → Facts → Place

-- how many copies of c a place has; whether it has c in full
abbrev pub copy_in : ℕ → Place → ℕ
copy_in c no_title = 0
copy_in c (copy d x) = one (eqb d c)
copy_in c (full d f) = 0

abbrev pub full_in : ℕ → Place → ℕ
full_in c no_title = 0
full_in c (copy d x) = 0
full_in c (full d f) = one (eqb d c)

-- whether a place has anything of c
abbrev pub of_title : ℕ → Place → Bool
of_title c no_title = false
of_title c (copy d x) = eqb d c
of_title c (full d f) = eqb d c

pub eqb_self : (d : ℕ) → eqb d d ≡ true
eqb_self d = eq-eqb d d refl

-- accounts: nothing used, one used, one given back
keep : {g l u v : ℕ} → Account g l u → v ≡ u → Account g l v
keep a e = record { counted = λ b. let x = a.counted b in omega arith; unlimited = a.unlimited }

spend : {g l u v : ℕ} → Account g l u → l ≢ 0 → v ≡ u + 1 → Account g (one_less l) v
spend {l} a d e =
    record {
      counted = λ b. let x = a.counted b in let y = less_limited l (omega arith) in omega arith;
      unlimited = λ b. let x = a.unlimited b in let y = less_unlimited l (omega arith) in omega arith;
    }

refund : {g l u v : ℕ} → Account g l u → u ≡ v + 1 → Account g (one_more l) v
refund {l} a e =
    record {
      counted = λ b. let x = a.counted b in let y = more_limited l (omega arith) in omega arith;
      unlimited = λ b. let x = a.unlimited b in let y = more_unlimited l (omega arith) in omega arith;
    }

-- what the actions acts, with n copies out, say of the holder's facts h
pub record Accounts (acts : List Action) (h : Facts) (n : ℕ) : Type 0 where
  pub given : Facts
  pub is_grant : grant acts ≡ Some given
  pub once : (f : Facts) → times (granted f) acts ≡ 1
  pub cci : h.cci ≡ given.cci
  pub title_key : h.title_key ≡ given.title_key
  pub sti_key : h.sti_key ≡ given.sti_key
  pub out : times checked_out acts ≡ n + times checked_in acts + times copy_deleted acts
  pub permits : Account given.permits h.permits (n + times copy_deleted acts)
  pub rights : Account given.rights h.rights (times moved acts)
  pub not_deleted : times holder_deleted acts ≡ 0

-- the title was never granted
pub record NotGranted (acts : List Action) (n m : ℕ) : Type 0 where
  pub no_action : (d : Action) → times d acts ≡ 0
  pub no_grant : grant acts ≡ None
  pub no_copy : n ≡ 0
  pub no_full : m ≡ 0

-- its holder is its row
pub record HeldInRow (c : ℕ) (acts : List Action) (n m : ℕ) (P : Place → Type 0) (h : Facts) : Type 0 where
  pub no_full : m ≡ 0
  pub accounts : Accounts acts h n
  pub cci_of_copies : (x : ℕ) → P (copy c x) → x ≡ copy_cci h.cci

-- its holder is at a place
pub record HeldAtPlace (c : ℕ) (acts : List Action) (n m : ℕ) (P : Place → Type 0) : Type 0 where
  pub no_copy : n ≡ 0
  pub one_full : m ≡ 1
  pub accounts : (h : Facts) → P (full c h) → Accounts acts h 0

-- its holder was deleted
pub record HolderGone (acts : List Action) (n m : ℕ) : Type 0 where
  pub deleted : times holder_deleted acts ≢ 0
  pub once : (f : Facts) → times (granted f) acts ≡ 1
  pub no_copy : n ≡ 0
  pub no_full : m ≡ 0

-- the invariant of title c, by its row: acts its actions, n its copies, m the places that have it in full, and P q says that some
-- place is q
abbrev pub TitleInvariant : ℕ → List Action → ℕ → ℕ → (Place → Type 0) → RowState → Type 0
TitleInvariant c acts n m P Empty = NotGranted acts n m
TitleInvariant c acts n m P (Here h) = HeldInRow c acts n m P h
TitleInvariant c acts n m P Away = HeldAtPlace c acts n m P
TitleInvariant c acts n m P Gone = HolderGone acts n m
TitleInvariant c acts n m P NoState = NotGranted acts n m

-- a done call, as the title d that it belongs to sees it: the action, the row and the place before it, and both after it
pub data TitleStep (d n : ℕ) (P : Place → Type 0) : Action → RowState → Place → RowState → Place → Type 0 where
  step_register : {f : Facts} {q : Place} → TitleStep d n P (granted f) Empty q (Here f) q
  step_record : {f : Facts} → TitleStep d n P (granted f) Empty no_title Away (full d f)
  step_check_out : {h : Facts} → h.permits ≢ 0
      → TitleStep d n P checked_out (Here h) no_title (Here (permitting h (one_less h.permits))) (copy d (copy_cci h.cci))
  step_check_in : {h : Facts} {x : ℕ} → TitleStep d n P checked_in (Here h) (copy d x) (Here (permitting h (one_more h.permits))) no_title
  step_move_out : {h : Facts} → P (full d h) → h.rights ≢ 0 → TitleStep d n P moved Away (full d h) (Here (after_move h)) no_title
  step_move_in : {h : Facts} → n ≡ 0 → h.rights ≢ 0 → TitleStep d n P moved (Here h) no_title Away (full d (after_move h))
  step_delete_copy : {r : RowState} {x : ℕ} → TitleStep d n P copy_deleted r (copy d x) r no_title
  step_delete_holder : {h : Facts} → TitleStep d n P holder_deleted Away (full d h) Gone no_title

-- the accounts after each action
module _ (acts : List Action) (h : Facts) (n n' : ℕ) where
  accounts_granted : ((d : Action) → times d acts ≡ 0) → n ≡ 0 → Accounts (granted h ∷ acts) h n
  unfolding times grant
  accounts_granted z e =
      let a = z checked_out in
      let b = z checked_in in
      let c = z copy_deleted in
      let x = z moved in
      let y = z holder_deleted in
      record {
        given = h;
        is_grant = refl;
        once = λ f. let o = z (granted f) in omega arith;
        cci = refl;
        title_key = refl;
        sti_key = refl;
        out = omega arith;
        permits = record { counted = λ l. omega arith; unlimited = λ l. l };
        rights = record { counted = λ l. omega arith; unlimited = λ l. l };
        not_deleted = omega arith;
      }

  -- after an action that is no grant, from what each account says then
  accounts_next : (a : Action) (h' : Facts) (b : Accounts acts h n) → grant (a ∷ acts) ≡ grant acts → ((f : Facts) → times (granted f) (a ∷ acts) ≡ times (granted f) acts)
      → h'.cci ≡ h.cci → h'.title_key ≡ h.title_key → h'.sti_key ≡ h.sti_key
      → times checked_out (a ∷ acts) ≡ n' + times checked_in (a ∷ acts) + times copy_deleted (a ∷ acts)
      → Account b.given.permits h'.permits (n' + times copy_deleted (a ∷ acts)) → Account b.given.rights h'.rights (times moved (a ∷ acts))
      → times holder_deleted (a ∷ acts) ≡ 0 → Accounts (a ∷ acts) h' n'
  accounts_next a h' b same-grant same-times cci title_key sti_key out permits rights not_deleted =
      record {
        given = b.given;
        is_grant = same-grant ∙ b.is_grant;
        once = λ f. same-times f ∙ b.once f;
        cci = cci ∙ b.cci;
        title_key = title_key ∙ b.title_key;
        sti_key = sti_key ∙ b.sti_key;
        out = out;
        permits = permits;
        rights = rights;
        not_deleted = not_deleted;
      }

  accounts_checked_out : Accounts acts h n → h.permits ≢ 0 → n' ≡ n + 1 → Accounts (checked_out ∷ acts) (permitting h (one_less h.permits)) n'
  unfolding times grant
  accounts_checked_out b l e =
      accounts_next checked_out (permitting h (one_less h.permits)) b refl (λ f. omega arith) refl refl refl (omega (arith, b.out))
      (spend b.permits l (omega arith)) (keep b.rights (omega arith)) (omega (arith, b.not_deleted))

  accounts_checked_in : Accounts acts h n → n' + 1 ≡ n → Accounts (checked_in ∷ acts) (permitting h (one_more h.permits)) n'
  unfolding times grant
  accounts_checked_in b e =
      accounts_next checked_in (permitting h (one_more h.permits)) b refl (λ f. omega arith) refl refl refl (omega (arith, b.out))
      (refund b.permits (omega arith)) (keep b.rights (omega arith)) (omega (arith, b.not_deleted))

  accounts_moved : Accounts acts h n → h.rights ≢ 0 → n' ≡ n → Accounts (moved ∷ acts) (after_move h) n'
  unfolding times grant
  accounts_moved b l e =
      accounts_next moved (after_move h) b refl (λ f. omega arith) refl refl refl (omega (arith, b.out))
      (keep b.permits (omega arith)) (spend b.rights l (omega arith)) (omega (arith, b.not_deleted))

  accounts_copy_deleted : Accounts acts h n → n' + 1 ≡ n → Accounts (copy_deleted ∷ acts) h n'
  unfolding times grant
  accounts_copy_deleted b e =
      accounts_next copy_deleted h b refl (λ f. omega arith) refl refl refl (omega (arith, b.out))
      (keep b.permits (omega arith)) (keep b.rights (omega arith)) (omega (arith, b.not_deleted))

  accounts_deleted : Accounts acts h n → (f : Facts) → times (granted f) (holder_deleted ∷ acts) ≡ 1
  unfolding times
  accounts_deleted b f = omega (arith, b.once f)

-- the title that a call belongs to goes on as it should
module _ (d n m n' m' : ℕ) (P P' : Place → Type 0) (acts : List Action) where
  -- a holder at a place, just put there
  placed : {acts' : List Action} (f : Facts) (q' : Place) → q' ≡ full d f → m ≡ 0 → ((h : Facts) → P (full d h) → m ≢ 0)
      → ((q : Place) → P' q → (q' ≡ q) ⊎ P q) → Accounts acts' f 0 → (h : Facts) → P' (full d h) → Accounts acts' h 0
  placed {acts'} f q' at z g g' b h x =
      elim (g' (full d h) x) [ inl e ↦ let i : f ≡ h = cc in subst (λ (y : Facts). Accounts acts' y 0) i b | inr y ↦ absurd (g h y z) ]

  -- all copies, where one was put there or taken away
  copies_after : (h : Facts) (q' : Place) → ((x : ℕ) → q' ≡ copy d x → x ≡ copy_cci h.cci) → ((q : Place) → P' q → (q' ≡ q) ⊎ P q)
      → ((x : ℕ) → P (copy d x) → x ≡ copy_cci h.cci) → (x : ℕ) → P' (copy d x) → x ≡ copy_cci h.cci
  copies_after h q' put g' all x y = elim (g' (copy d x) y) [ inl e ↦ put x e | inr z ↦ all x z ]

  pub own : {a : Action} {r r' : RowState} {q q' : Place} → TitleStep d n P a r q r' q'
      → n' + copy_in d q ≡ n + copy_in d q' → m' + full_in d q ≡ m + full_in d q'
      → (m ≢ 0 → (h : Facts) × P (full d h)) → ((h : Facts) → P (full d h) → m ≢ 0) → ((x : ℕ) → P' (copy d x) → n' ≢ 0)
      → ((q : Place) → P' q → (q' ≡ q) ⊎ P q)
      → TitleInvariant d acts n m P r → TitleInvariant d (a ∷ acts) n' m' P' r'
  unfolding times
  own (step_register {f = f}) en em x g k g' s =
      record {
        no_full = omega arith;
        accounts = accounts_granted acts f n' 0 s.no_action (omega arith);
        cci_of_copies = λ x y. absurd (k x y (omega arith));
      }
  own (step_record {f = f}) en em x g k g' s =
      let b = simp (eqb_self d) at em in
      record {
        no_copy = omega arith;
        one_full = omega arith;
        accounts = placed f (full d f) refl s.no_full g g' (accounts_granted acts f 0 0 s.no_action refl);
      }
  own (step_check_out {h = h} b) en em x g k g' s =
      let c = simp (eqb_self d) at en in
      record {
        no_full = omega arith;
        accounts = accounts_checked_out acts h n n' s.accounts b (omega arith);
        cci_of_copies = copies_after h (copy d (copy_cci h.cci)) (λ x e. cc) g' s.cci_of_copies;
      }
  own (step_check_in {h = h}) en em x g k g' s =
      let c = simp (eqb_self d) at en in
      record { no_full = omega arith; accounts = accounts_checked_in acts h n n' s.accounts (omega arith); cci_of_copies = copies_after h no_title (λ x e. cc) g' s.cci_of_copies }
  own (step_move_out {h = h} y b) en em x g k g' s =
      let c = simp (eqb_self d) at em in
      record {
        no_full = omega arith;
        accounts = accounts_moved acts h 0 n' (s.accounts h y) b (omega arith);
        cci_of_copies = λ x y. absurd (k x y (omega arith));
      }
  own (step_move_in {h = h} z b) en em x g k g' s =
      let c = simp (eqb_self d) at em in
      record {
        no_copy = omega arith;
        one_full = omega arith;
        accounts = placed (after_move h) _ refl s.no_full g g' (accounts_moved acts h n 0 s.accounts b (omega arith));
      }
  own (step_delete_copy {r = Empty}) en em x g k g' s = let c = simp (eqb_self d) at en in absurd (omega arith)
  own (step_delete_copy {r = Here h}) en em x g k g' s =
      let c = simp (eqb_self d) at en in
      record { no_full = omega arith; accounts = accounts_copy_deleted acts h n n' s.accounts (omega arith); cci_of_copies = copies_after h no_title (λ x e. cc) g' s.cci_of_copies }
  own (step_delete_copy {r = Away}) en em x g k g' s = let c = simp (eqb_self d) at en in absurd (omega arith)
  own (step_delete_copy {r = Gone}) en em x g k g' s = let c = simp (eqb_self d) at en in absurd (omega arith)
  own (step_delete_copy {r = NoState}) en em x g k g' s = let c = simp (eqb_self d) at en in absurd (omega arith)
  own (step_delete_holder {h = h}) en em x g k g' s =
      let c = simp (eqb_self d) at em in
      let y = x (omega (arith, s.one_full)) in
      record {
        deleted = omega arith;
        once = accounts_deleted acts y.0 0 0 (s.accounts y.0 y.1);
        no_copy = omega arith;
        no_full = omega arith;
      }

-- a title that a call does not belong to stays as it is
module _ (c : ℕ) (acts : List Action) (n m n' m' : ℕ) (P P' : Place → Type 0) where
  pub other : (r : RowState) → n' ≡ n → m' ≡ m → ((q : Place) → of_title c q ≡ true → P' q → P q)
      → TitleInvariant c acts n m P r → TitleInvariant c acts n' m' P' r
  other Empty a b g s = record { no_action = s.no_action; no_grant = s.no_grant; no_copy = omega arith; no_full = omega arith }
  other (Here h) a b g s =
      record {
        no_full = omega arith;
        accounts = rw a s.accounts;
        cci_of_copies = λ x y. s.cci_of_copies x (g (copy c x) (eqb_self c) y);
      }
  other Away a b g s = record { no_copy = omega arith; one_full = omega arith; accounts = λ h x. s.accounts h (g (full c h) (eqb_self c) x) }
  other Gone a b g s = record { deleted = s.deleted; once = s.once; no_copy = omega arith; no_full = omega arith }
  other NoState a b g s = record { no_action = s.no_action; no_grant = s.no_grant; no_copy = omega arith; no_full = omega arith }

-- what the place had and has is not c's, if the step is another title's
pub record Unaffected (c : ℕ) (q q' : Place) : Type 0 where
  pub copies : copy_in c q ≡ copy_in c q'
  pub fulls : full_in c q ≡ full_in c q'
  pub before : (p : Place) → of_title c p ≡ true → q' ≡ p → q ≡ p

module _ (c d n : ℕ) (P : Place → Type 0) (ne : c ≢ d) where
  not_c : eqb d c ≡ false
  not_c = ne_eqb d c (λ e. ne (sym e))

  -- a place with nothing of c is none of those that have
  nothing_of_c : {q : Place} (q' : Place) → of_title c q' ≡ false → (p : Place) → of_title c p ≡ true → q' ≡ p → q ≡ p
  nothing_of_c q' without p has e = absurd (true≢false (sym has ∙ sym (ap (of_title c) e) ∙ without))

  pub unaffected : {a : Action} {r r' : RowState} {q q' : Place} → TitleStep d n P a r q r' q' → Unaffected c q q'
  unaffected step_register = record { copies = refl; fulls = refl; before = λ p has e. e }
  unaffected (step_record {f = f}) = record { copies = refl; fulls = simp not_c; before = nothing_of_c (full d f) not_c }
  unaffected (step_check_out {h = h} b) = record { copies = simp not_c; fulls = refl; before = nothing_of_c (copy d (copy_cci h.cci)) not_c }
  unaffected step_check_in = record { copies = simp not_c; fulls = refl; before = nothing_of_c no_title refl }
  unaffected (step_move_out x b) = record { copies = refl; fulls = simp not_c; before = nothing_of_c no_title refl }
  unaffected (step_move_in {h = h} z b) = record { copies = refl; fulls = simp not_c; before = nothing_of_c (full d (after_move h)) not_c }
  unaffected step_delete_copy = record { copies = simp not_c; fulls = refl; before = nothing_of_c no_title refl }
  unaffected step_delete_holder = record { copies = refl; fulls = simp not_c; before = nothing_of_c no_title refl }

-- a step, at what is equal to its ends
pub step_at : {d n : ℕ} {P : Place → Type 0} {a : Action} {r r' x x' : RowState} {q q' y y' : Place} → TitleStep d n P a r q r' q'
    → x ≡ r → y ≡ q → x' ≡ r' → y' ≡ q' → TitleStep d n P a x y x' y'
step_at t a b c e = rw (a, b, c, e) t
