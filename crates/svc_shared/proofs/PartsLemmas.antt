-- A step of one seat that changes no hand keeps the parts of the rule.
use Rattle.std.proofs.Common.{◌≡◌, ◌≢◌, ◌⊎◌, ⊎_elim, ℕ, ◌*◌, ◌≤◌, true, false, List, map, length, ◌==◌, refl, sym, ap, ◌∙◌, subst, arith, set, eq-eqb, Some}
use mathlib.Core.Option as maybe
use mathlib.Core.Logic.{dite}
use native.Mathlib.Decide.{ℕ_discrete}
use lib.ListN.{get_elem?}
use lib.Seq.{map-set}
use Rattle.atomic_table.proofs.Lists.{at_set, set_again, set_else, at_map}
use Rattle.svc_record.specs.Journal.{PostData}
use Rattle.svc_shared.specs.BookData.{BookData}
use Rattle.svc_shared.specs.declared.view.SeatView.{SeatView}
use Rattle.svc_shared.specs.declared.view.View.{View}
use Rattle.svc_shared.specs.Views.{hand_of, IsWhole, most}
use Rattle.svc_shared.specs.Rule.{Role, is_holder, Knows, TurnPart, PassesPart, Posted, Parts}
use Rattle.svc_shared.proofs.OwnLemmas.{set_there}

module _ (b : BookData) (next : ℕ) (role : ℕ → Role) (keeper : ℕ → ℕ) where
  -- beside a pass with the whole share there is no other
  pub alone : (hands : List SeatView) → PassesPart b next role keeper hands → (i j : ℕ) (h g : SeatView) → get_elem? hands i ≡ maybe.some h → h.spent ≡ false
      → IsWhole h
      → get_elem? hands j ≡ maybe.some g → g.spent ≡ false → j ≡ i
  alone hands p i j h g at-h live-h whole at-g live-g =
      let fh = p.each i h at-h live-h in
      let fg = p.each j g at-g live-g in
      let low : h.low ≤ g.low = subst (λ (z : ℕ). z ≤ g.low) (sym whole.0) (omega arith) in
      let some : g.low ≤ g.high = fg.some_share in
      let within : g.high ≤ most = fg.within in
      let high : g.low ≤ h.high = subst (λ (z : ℕ). g.low ≤ z) (sym whole.1) (omega arith) in
      sym (fg.share g.low (omega arith) some) ∙ fh.share g.low low high

  module _ (journal : List PostData) (holder : maybe.Option ℕ) (views : List View) (parts : Parts b journal holder next role keeper views) (id : ℕ) (v : View)
      (at : get_elem? views id ≡ maybe.some v) (live : v.hand.spent ≡ false) where
    pub hand_at : (j : ℕ) (u : View) → get_elem? views j ≡ maybe.some u → get_elem? (map hand_of views) j ≡ maybe.some u.hand
    hand_at j u e = at_map hand_of views j u e

    -- beside a pass with the whole share that doesn't hold the turn, nobody holds it
    free_here : (h : maybe.Option ℕ) → holder ≡ h → IsWhole v.hand → v.sight.holding ≡ false → holder ≡ maybe.none
    free_here maybe.none is whole free = is
    free_here (maybe.some j) is whole free =
        let held = parts.turn.held j is in
        let same : j ≡ id = alone (map hand_of views) parts.passes id j v.hand held.0.hand (hand_at id v at) live whole (hand_at j held.0 held.1) held.2 in
        let holds : v.sight.holding ≡ (j == id) = (parts.turn.each id v at live).holding_is ∙ ap (λ (h : maybe.Option ℕ). is_holder h id) is in
        let yes : (j == id) ≡ true = eq-eqb j id same in
        absurd (cc)

    pub whole_free : IsWhole v.hand → v.sight.holding ≡ false → holder ≡ maybe.none
    whole_free = free_here holder refl

    same_hands : (w : View) → w.hand ≡ v.hand → map hand_of views ≡ map hand_of (set views id w)
    same_hands w same = sym (map-set hand_of views id w ∙ (ap (set (map hand_of views) id) same ∙ set_again (map hand_of views) id v.hand (hand_at id v at)))

    pub turn_moved : (journal' : List PostData) (holder' : maybe.Option ℕ) (w : View) → w.hand.spent ≡ false → Knows journal' holder' id w
        → ((j : ℕ) (u : View) → j ≢ id → get_elem? views j ≡ maybe.some u → u.hand.spent ≡ false → Knows journal holder j u → Knows journal' holder' j u)
        → ((j : ℕ) → holder' ≡ maybe.some j → (j ≡ id) ⊎ (holder ≡ maybe.some j))
        → TurnPart journal' holder' (set views id w)
    turn_moved journal' holder' w w-live knows others holds = record {
      each = λ j u e u-live. ⊎_elim (λ (t : (j ≡ id) × (w ≡ u)). subst (λ (x : ℕ × View). Knows journal' holder' x.0 x.1) (λ i. (sym t.0 i, t.1 i)) knows)
          (λ (t : (j ≢ id) × (get_elem? views j ≡ maybe.some u)). others j u t.0 t.1 u-live (parts.turn.each j u t.1 u-live)) (at_set views id j w u e);
      held = λ j is. dite (ℕ_discrete j id)
          (λ (e : j ≡ id). (w, subst (λ (k : ℕ). get_elem? (set views id w) k ≡ maybe.some w) (sym e) (set_there views id v w at), w-live))
          (λ (ne : j ≢ id). ⊎_elim (λ (e : j ≡ id). absurd (ne e))
          (λ (was : holder ≡ maybe.some j). let u = parts.turn.held j was in (u.0, set_else views id j w ne ∙ u.1, u.2)) (holds j is));
    }

    pub moved : (journal' : List PostData) (holder' : maybe.Option ℕ) (w : View) → w.hand ≡ v.hand → Knows journal' holder' id w
        → ((j : ℕ) (u : View) → j ≢ id → get_elem? views j ≡ maybe.some u → u.hand.spent ≡ false → Knows journal holder j u → Knows journal' holder' j u)
        → ((j : ℕ) → holder' ≡ maybe.some j → (j ≡ id) ⊎ (holder ≡ maybe.some j))
        → Posted role journal'
        → (IsWhole w.hand → w.sight.holding ≡ false → (n : ℕ) → w.sight.last ≡ Some n → n ≡ 2 * length journal')
        → Parts b journal' holder' next role keeper (set views id w)
    moved journal' holder' w same knows others holds posted reads = record {
      turn = turn_moved journal' holder' w (ap (λ (h : SeatView). h.spent) same ∙ live) knows others holds;
      passes = subst (PassesPart b next role keeper) (same_hands w same) parts.passes;
      posted = posted;
      whole = λ j u e u-live u-whole u-free n is. ⊎_elim (λ (t : (j ≡ id) × (w ≡ u)). mine u t.1 u-whole u-free n is)
          (λ (t : (j ≢ id) × (get_elem? views j ≡ maybe.some u)).
          absurd (t.0 (sym (alone (map hand_of views) parts.passes j id u.hand v.hand (hand_at j u t.1) u-live u-whole (hand_at id v at) live))))
          (at_set views id j w u e);
    }
      where
        mine : (u : View) → w ≡ u → IsWhole u.hand → u.sight.holding ≡ false → (n : ℕ) → u.sight.last ≡ Some n → n ≡ 2 * length journal'
        mine u e = subst (λ (x : View). IsWhole x.hand → x.sight.holding ≡ false → (n : ℕ) → x.sight.last ≡ Some n → n ≡ 2 * length journal') e reads
