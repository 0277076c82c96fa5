-- What inspection tells after a list of calls, by the claim of demand 3.
-- Assumes nothing.
use Prim.Native.Nat.{ℕ, ◌^◌, ◌<◌}
use mathlib.Core.Path.{◌≡◌, refl, sym, ap, ap₂, ◌∙◌}
use mathlib.Core.Logic.{◌≢◌, inl, inr}
use mathlib.Core.List.{List, [], ◌∷◌}
use native.Mathlib.Omega.{arith}
use Rattle.std.specs.Prelude.{Some}
use Rattle.formats.specs.Answer.{done}
use Rattle.formats.specs.declared.head.Pair.{Pair}
use Rattle.formats.specs.declared.facts.Facts.{Facts}
use Rattle.formats.specs.declared.row.RowState.{RowState}
use Rattle.formats.specs.declared.row.RowState.TheVariants.{Empty, Here, Away, Gone, NoState}
use Rattle.requests.specs.declared.request.Request.{Request}
use Rattle.calls.specs.Buffers.{Buffers, state_at, copies, Within}
use Rattle.calls.specs.History.{Run, Action, actions, grant, holders, start, run}
use Rattle.calls.specs.Needs.{RulesOfLedger}
use Rattle.calls.proofs.Fresh.{each_fresh_head}
use Rattle.calls.proofs.History.Always.{sound, in_a_state as row_in_a_state, heads_stay, history, no_others}
use Rattle.calls.proofs.History.Step.{At, copies_in, fulls_in}
use Rattle.calls.proofs.History.Titles.{TitleInvariant}
use Rattle.calls.proofs.Named.{HeadsPass, heads_pass}
use Rattle.calls.proofs.Views.{inside, view}
use Rattle.tables.proofs.Told.{told_done, told_refused}
use Rattle.inspection.specs.Inspect.{title_inspected}
use Rattle.inspection.specs.History.{TitleInspects, AllInspect, InspectsOne}
use Rattle.inspection.proofs.Demand1.{inspects_title}

module _ (pair : Pair) (c : ℕ) (acts : List Action) (b : Buffers) where
  -- the row of a title that was granted is in a state
  in_a_state : (f : Facts) → grant acts ≡ Some f → (r : RowState)
      → TitleInvariant c acts (copies_in 999 c (view b)) (fulls_in 999 c (view b)) (At 999 (view b)) r → r ≢ NoState
  in_a_state f e Empty st z = let y : ◌≡◌ {A = ℕ} 0 1 = cc in absurd (omega arith)
  in_a_state f e (Here h) st z = let y : ◌≡◌ {A = ℕ} 0 1 = cc in absurd (omega arith)
  in_a_state f e Away st z = let y : ◌≡◌ {A = ℕ} 0 1 = cc in absurd (omega arith)
  in_a_state f e Gone st z = let y : ◌≡◌ {A = ℕ} 0 1 = cc in absurd (omega arith)
  in_a_state f e NoState st z = let n = st.no_grant in let y : ◌≡◌ {A = ℕ} 0 1 = cc in absurd (omega arith)

  -- so the ledger has it, and where the heads are right it is inspected
  told : HeadsPass pair b → state_at b c ≢ NoState → {h n : ℕ} → holders c b ≡ h → copies c b.titles b.rules ≡ n → title_inspected pair b c ≡ done (h ∷ n ∷ [])
  told heads in_one of_holders of_copies =
      let row = inside b.ledger c in_one in
      let d = inspects_title pair b c in
      let answered =
      d.answered.done (record { from = row.from; to = omega (arith, row.to, heads.ledger.high) }, (heads.ledger, (heads.titles, (heads.rules, (row.to, tt))))) in
      told_done d answered ∙ ap done (ap₂ (λ (x y : ℕ). x ∷ y ∷ []) of_holders of_copies)

-- of one application
module _ (pair : Pair) (rows application : ℕ) (in_limits : Within 999 rows) (small : application < 2 ^ 16) (ks : List Request) where
  abbrev w : Run
  w = run pair ks (start pair rows application application)

  heads : HeadsPass pair w.buffers
  heads =
      let fresh = each_fresh_head pair rows application application in_limits.from in_limits.to small small in
      heads_pass (heads_stay pair ks (start pair rows application application) fresh)

  granted_title : (c : ℕ) (f : Facts) → grant (actions c w.log) ≡ Some f → TitleInspects pair c (actions c w.log) w.buffers
  granted_title c f e =
      let acts = actions c w.log in
      let s = sound pair rows application application in_limits.from in_limits.to ks in
      let claim = history pair rows application application in_limits.from in_limits.to ks c f e in
      let in_one = in_a_state pair c acts w.buffers f e (state_at w.buffers c) (s.inv.titles c) in
      record {
        unless_deleted = λ z.
            let stands = claim.unless_deleted z in
            record {
              out = copies c w.buffers.titles w.buffers.rules;
              inspected = told pair c acts w.buffers heads in_one stands.one_holder refl;
              loans = stands.check_outs;
            };
        if_deleted = λ d. let none = claim.if_deleted d in told pair c acts w.buffers heads in_one none.no_holder none.no_copy;
      }

  all_inspect : AllInspect pair rows w
  all_inspect =
      record {
        titles = granted_title;
        no_other = λ c l e.
            let none = no_others pair rows application application in_limits.from in_limits.to ks c e in
            let in_one = row_in_a_state pair rows application application in_limits.from in_limits.to ks c l in
            told pair c (actions c w.log) w.buffers heads in_one none.no_holder none.no_copy;
      }

-- and of two
pub inspects_one : InspectsOne
inspects_one =
    record {
      of_one_application = all_inspect;
      of_two = λ pair rows application card_application in_limits small card_small other ks c numbered.
          let w = start pair rows application card_application in
          let fresh = each_fresh_head pair rows application card_application in_limits.from in_limits.to small card_small in
          let heads = heads_stay pair ks w fresh in
          let d = inspects_title pair (run pair ks w).buffers c in
          let apart : RulesOfLedger pair (run pair ks w).buffers → ⊥ = λ r. other (sym heads.of_card ∙ r.application ∙ heads.of_ledger) in
          told_refused d 9 (λ z. omega (arith, z)) (d.answered.refused 9 (inr (numbered, inr (heads.ledger, inr (heads.titles, inl (apart, refl))))));
    }
