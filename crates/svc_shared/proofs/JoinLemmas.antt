-- A join keeps the parts of the rule.
use Rattle.std.proofs.Common.{◌≡◌, ◌≢◌, ◌⊎◌, inl, inr, ⊎_elim, ℕ, zero, suc, ◌+◌, ◌≤◌, ◌<◌, Bool, true, false, List, [], ◌∷◌, ◌++◌, map, ◌==◌, if◌then◌else◌, refl, sym, ap, ◌∙◌, subst, arith, set, eq-eqb, ne_eqb}
use mathlib.Core.Option as maybe
use mathlib.Core.Logic.{dite}
use native.Mathlib.Decide.{ℕ_discrete}
use lib.ListN.{get_elem?}
use lib.Seq.{map-set}
use Rattle.std.proofs.lemmas.Bool.{cases_lt}
use Rattle.atomic_table.proofs.Lists.{at_set, set_else, at_longer}
use Rattle.svc_record.specs.Journal.{PostData, own_posts}
use Rattle.svc_shared.specs.BookData.{BookData}
use Rattle.svc_shared.specs.declared.view.SeatView.{SeatView}
use Rattle.svc_shared.specs.declared.view.Ended.{Ended}
use Rattle.svc_shared.specs.declared.view.View.{View}
use Rattle.svc_shared.specs.Views.{hand_of, glued, spent_view, ended_seat}
use Rattle.svc_shared.specs.Rule.{Role, fresh, drawn, seated, kept, may_post, owner_of, IsSeatOf, is_holder, SeatFits, PassesPart, Parts}
use Rattle.svc_shared.proofs.OwnLemmas.{set_there, posted-by, at_both, at_right}
use Rattle.svc_shared.proofs.PartsLemmas.{hand_at, turn_moved}
use Rattle.svc_shared.proofs.HandLemmas.{place_of, fits_on}
use Rattle.svc_base.proofs.Logic.{none-some}

apart : true ≡ false → ⊥
apart e = cc

-- the numbers of the pass `other` become ended seats of the pass id
module _ (id other : ℕ) where
  abbrev pub rejoin : Role → Role
  rejoin fresh = fresh
  rejoin (drawn j) = drawn j
  rejoin (seated j) = if j == other then kept id else seated j
  rejoin (kept j) = if j == other then kept id else kept j

  rejoin_else : (j : ℕ) (r : Role) → j ≢ other → place_of r ≡ maybe.some j → rejoin r ≡ r
  rejoin_else j fresh ne is = refl
  rejoin_else j (drawn i) ne is = refl
  rejoin_else j (seated i) ne is = ap (λ (t : Bool). if t then kept id else seated i) (ne_eqb i other (λ e. ne (sym (maybe.some-injective i j is) ∙ e)))
  rejoin_else j (kept i) ne is = ap (λ (t : Bool). if t then kept id else kept i) (ne_eqb i other (λ e. ne (sym (maybe.some-injective i j is) ∙ e)))

  rejoin_here : (r : Role) → owner_of r ≡ maybe.some other → rejoin r ≡ kept id
  rejoin_here fresh is = absurd (maybe.some-ne-none other (sym is))
  rejoin_here (drawn i) is = absurd (maybe.some-ne-none other (sym is))
  rejoin_here (seated i) is = ap (λ (t : Bool). if t then kept id else seated i) (eq-eqb i other (maybe.some-injective i other is))
  rejoin_here (kept i) is = ap (λ (t : Bool). if t then kept id else kept i) (eq-eqb i other (maybe.some-injective i other is))

  -- who owned a number that i owns now
  owned_before : (i : ℕ) (r : Role) → owner_of (rejoin r) ≡ maybe.some i
      → ((owner_of r ≡ maybe.some other) × (id ≡ i)) ⊎ ((i ≢ other) × (owner_of r ≡ maybe.some i))
  owned_before i fresh is = absurd (maybe.some-ne-none i (sym is))
  owned_before i (drawn j) is = absurd (maybe.some-ne-none i (sym is))
  owned_before i (seated j) is = dite (ℕ_discrete j other)
      (λ (e : j ≡ other). inl
      (ap maybe.some e, maybe.some-injective id i (sym (ap owner_of (ap (λ (t : Bool). if t then kept id else seated j) (eq-eqb j other e))) ∙ is)))
      (λ (ne : j ≢ other).
      let same : j ≡ i = maybe.some-injective j i (sym (ap owner_of (ap (λ (t : Bool). if t then kept id else seated j) (ne_eqb j other ne))) ∙ is) in
      inr ((λ e. ne (same ∙ e)), ap maybe.some same))
  owned_before i (kept j) is = dite (ℕ_discrete j other)
      (λ (e : j ≡ other). inl
      (ap maybe.some e, maybe.some-injective id i (sym (ap owner_of (ap (λ (t : Bool). if t then kept id else kept j) (eq-eqb j other e))) ∙ is)))
      (λ (ne : j ≢ other).
      let same : j ≡ i = maybe.some-injective j i (sym (ap owner_of (ap (λ (t : Bool). if t then kept id else kept j) (ne_eqb j other ne))) ∙ is) in
      inr ((λ e. ne (same ∙ e)), ap maybe.some same))

  rejoin_posts : (r : Role) → may_post r ≡ true → may_post (rejoin r) ≡ true
  rejoin_posts fresh may = may
  rejoin_posts (drawn i) may = may
  rejoin_posts (seated i) may = go (i == other)
    where
      go : (t : Bool) → may_post (if t then kept id else seated i) ≡ true
      go true = refl
      go false = refl
  rejoin_posts (kept i) may = go (i == other)
    where
      go : (t : Bool) → may_post (if t then kept id else kept i) ≡ true
      go true = refl
      go false = refl

module _ (b : BookData) (next : ℕ) (role : ℕ → Role) (keeper : ℕ → ℕ) (journal : List PostData) (holder : maybe.Option ℕ) (views : List View)
    (parts : Parts b journal holder next role keeper views)
    (id : ℕ) (v : View) (at : get_elem? views id ≡ maybe.some v) (live : v.hand.spent ≡ false)
    (other : ℕ) (w : View) (w-at : get_elem? views other ≡ maybe.some w) (w-live : w.hand.spent ≡ false) (ne : other ≢ id) (w-free : w.sight.holding ≡ false)
    (right_after : w.hand.low ≡ v.hand.high + 1) where
  abbrev hands : List SeatView
  hands = map hand_of views

  abbrev both : View
  both = glued v w

  abbrev B : SeatView
  B = both.hand

  abbrev role' : ℕ → Role
  role' n = rejoin id other (role n)

  abbrev keeper' : ℕ → ℕ
  keeper' x = if keeper x == other then id else keeper x

  abbrev hands' : List SeatView
  hands' = set (set hands id B) other spent_view.hand

  ne' : id ≢ other
  ne' e = ne (sym e)

  at_hand : get_elem? hands id ≡ maybe.some v.hand
  at_hand = hand_at b next role keeper journal holder views parts id v at live id v at

  at_other : get_elem? hands other ≡ maybe.some w.hand
  at_other = hand_at b next role keeper journal holder views parts id v at live other w w-at

  mine : SeatFits b role keeper id v.hand
  mine = parts.passes.each id v.hand at_hand live

  theirs : SeatFits b role keeper other w.hand
  theirs = parts.passes.each other w.hand at_other w-live

  keeps_here : (x : ℕ) → keeper x ≡ other → keeper' x ≡ id
  keeps_here x is = ap (λ (t : Bool). if t then id else keeper x) (eq-eqb (keeper x) other is)

  keeps_else : (x : ℕ) → keeper x ≢ other → keeper' x ≡ keeper x
  keeps_else x no-e = ap (λ (t : Bool). if t then id else keeper x) (ne_eqb (keeper x) other no-e)

  -- the ended seats of the joined pass
  ended_cases : (P : Ended → Type 0) → ((k : ℕ) (e : Ended) → get_elem? v.hand.ended k ≡ maybe.some e → P e)
      → ((k : ℕ) (e : Ended) → get_elem? w.hand.ended k ≡ maybe.some e → P e) → P (ended_seat w)
      → (k : ℕ) (e : Ended) → get_elem? B.ended k ≡ maybe.some e → P e
  ended_cases P left right last k e there = ⊎_elim
      (λ (old : get_elem? (v.hand.ended ++ w.hand.ended) k ≡ maybe.some e). ⊎_elim (λ (l : get_elem? v.hand.ended k ≡ maybe.some e). left k e l)
      (λ (r : (i : ℕ) × (get_elem? w.hand.ended i ≡ maybe.some e)). right r.0 e r.1) (at_both v.hand.ended w.hand.ended e k old))
      (λ (new : (i : ℕ) × (get_elem? (ended_seat w ∷ []) i ≡ maybe.some e)). one new.0 new.1)
      (at_both (v.hand.ended ++ w.hand.ended) (ended_seat w ∷ []) e k there)
    where
      one : (i : ℕ) → get_elem? (ended_seat w ∷ []) i ≡ maybe.some e → P e
      one zero is = subst P (maybe.some-injective (ended_seat w) e is) last
      one (suc i) is = absurd (maybe.some-ne-none e (sym is))

  both_fits : SeatFits b role' keeper' id B
  both_fits =
      let l : v.hand.low ≤ v.hand.high = mine.some_share in
      let r : w.hand.low ≤ w.hand.high = theirs.some_share in record {
        origin_is = mine.origin_is;
        number_is = rejoin_else id other id (role v.hand.number) ne' (ap place_of mine.number_is) ∙ mine.number_is;
        drawn_is = λ n is. rejoin_else id other id (role n) ne' (ap place_of (mine.drawn_is n is)) ∙ mine.drawn_is n is;
        ended_are = ended_cases (λ e. role' e.number ≡ kept id)
            (λ k e there. rejoin_else id other id (role e.number) ne' (ap place_of (mine.ended_are k e there)) ∙ mine.ended_are k e there)
            (λ k e there. rejoin_here id other (role e.number) (ap owner_of (theirs.ended_are k e there)))
            (rejoin_here id other (role w.hand.number) (ap owner_of theirs.number_is));
        some_share = omega arith;
        within = theirs.within;
        share = λ x low high. ⊎_elim
            (λ (near : x < w.hand.low). keeps_else x (λ e. ne' (sym (mine.share x low (omega arith)) ∙ e)) ∙ mine.share x low (omega arith))
            (λ (far : w.hand.low ≤ x). keeps_here x (theirs.share x far high)) (cases_lt x w.hand.low);
      }

  -- the numbers of both are the joined pass's
  seat_left : (n : ℕ) → IsSeatOf v.hand n → IsSeatOf B n
  seat_left n s =
      ⊎_elim (λ same. inl same)
      (λ e. inr (e.0, e.1, at_longer (v.hand.ended ++ w.hand.ended) (ended_seat w ∷ []) e.0 e.1 (at_longer v.hand.ended w.hand.ended e.0 e.1 e.2), e.3)) s

  seat_right : (n : ℕ) → IsSeatOf w.hand n → IsSeatOf B n
  seat_right n s = ⊎_elim
      (λ same. let r = at_right (v.hand.ended ++ w.hand.ended) (ended_seat w ∷ []) (ended_seat w) 0 refl in inr (r.0, ended_seat w, r.1, sym same))
      (λ e. let r = at_right v.hand.ended w.hand.ended e.1 e.0 e.2 in
      inr (r.0, e.1, at_longer (v.hand.ended ++ w.hand.ended) (ended_seat w ∷ []) r.0 e.1 r.1, e.3)) s

  there_both : get_elem? hands' id ≡ maybe.some B
  there_both = set_else (set hands id B) other id spent_view.hand ne' ∙ set_there hands id v.hand B at_hand

  join_passes : PassesPart b next role' keeper' hands'
  join_passes = record {
    undrawn = λ n le. ap (rejoin id other) (parts.passes.undrawn n le);
    each = λ j h e h-live. ⊎_elim
        (λ (gone : (j ≡ other) × (spent_view.hand ≡ h)). absurd (apart (ap (λ (g : SeatView). g.spent) gone.1 ∙ h-live)))
        (λ (still : (j ≢ other) × (get_elem? (set hands id B) j ≡ maybe.some h)). ⊎_elim
        (λ (t : (j ≡ id) × (B ≡ h)). subst (λ (x : ℕ × SeatView). SeatFits b role' keeper' x.0 x.1) (λ i. (sym t.0 i, t.1 i)) both_fits)
        (λ (t : (j ≢ id) × (get_elem? hands j ≡ maybe.some h)). fits_on b role role' keeper keeper' j h (λ n is. rejoin_else id other j (role n) still.0 is)
        (λ x is. keeps_else x (λ same. still.0 (sym is ∙ same)) ∙ is) (parts.passes.each j h t.1 h-live))
        (at_set hands id j B h still.1))
        (at_set (set hands id B) other j spent_view.hand h e);
    owner = λ n i is. ⊎_elim
        (λ (taken : (owner_of (role n) ≡ maybe.some other) × (id ≡ i)). let was = parts.passes.owner n other taken.0 in
        let same : was.0 ≡ w.hand = maybe.some-injective was.0 w.hand (sym was.1 ∙ at_other) in
        (B, subst (λ (x : ℕ). get_elem? hands' x ≡ maybe.some B) taken.1 there_both, live, seat_right n (subst (λ (g : SeatView). IsSeatOf g n) same was.3)))
        (λ (still : (i ≢ other) × (owner_of (role n) ≡ maybe.some i)). stays n i still.0 still.1)
        (owned_before id other i (role n) is);
  }
    where
      stays : (n i : ℕ) → i ≢ other → owner_of (role n) ≡ maybe.some i → (h : SeatView) × (get_elem? hands' i ≡ maybe.some h) × (h.spent ≡ false) × IsSeatOf h n
      stays n i i-ne is = let was = parts.passes.owner n i is in dite (ℕ_discrete i id)
          (λ (e : i ≡ id). let same : was.0 ≡ v.hand = maybe.some-injective was.0 v.hand (sym was.1 ∙ (ap (get_elem? hands) e ∙ at_hand)) in
          (B, subst (λ (x : ℕ). get_elem? hands' x ≡ maybe.some B) (sym e) there_both, live, seat_left n (subst (λ (g : SeatView). IsSeatOf g n) same was.3)))
          (λ (n-e : i ≢ id). (was.0, set_else (set hands id B) other i spent_view.hand i-ne ∙ (set_else hands id i B n-e ∙ was.1), was.2, was.3))

  pub joins : Parts b journal holder next role' keeper' (set (set views id both) other spent_view)
  joins =
      let l = parts.turn.each id v at live in
      let r = parts.turn.each other w w-at w-live in
      let ended = ended_cases (λ e. e.own ≡ own_posts journal e.number) l.ended_are r.ended_are r.own_is in
      let turn = turn_moved b next role keeper journal holder views parts id v at live journal holder both live
      record { front = l.front; told_is = r.front; own_is = l.own_is; holding_is = l.holding_is; base_is = l.base_is; ended_are = ended }
      (λ j u ne e u_live k. k) (λ j is. inr is) in record {
        turn = record {
          each = λ j u e u-live. ⊎_elim (λ (gone : (j ≡ other) × (spent_view ≡ u)). absurd (apart (ap (λ (x : View). x.hand.spent) gone.1 ∙ u-live)))
              (λ (still : (j ≢ other) × (get_elem? (set views id both) j ≡ maybe.some u)). turn.each j u still.1 u-live)
              (at_set (set views id both) other j spent_view u e);
          held = λ j is.
              let free : j ≢ other =
              (λ e. apart (sym (eq-eqb j other e) ∙ (sym (ap (λ (h : maybe.Option ℕ). is_holder h other) is) ∙ (sym r.holding_is ∙ w-free)))) in
              let u = turn.held j is in (u.0, set_else (set views id both) other j spent_view free ∙ u.1, u.2);
        };
        passes = subst (PassesPart b next role' keeper')
            (sym (map-set hand_of (set views id both) other spent_view
            ∙ ap (λ (hs : List SeatView). set hs other spent_view.hand) (map-set hand_of views id both))) join_passes;
        posted = posted-by role role' journal (λ n may. rejoin_posts id other (role n) may) parts.posted;
        whole = λ j u e u-live u-whole u-free n is. ⊎_elim
            (λ (gone : (j ≡ other) × (spent_view ≡ u)). absurd (apart (ap (λ (x : View). x.hand.spent) gone.1 ∙ u-live)))
            (λ (still : (j ≢ other) × (get_elem? (set views id both) j ≡ maybe.some u)). ⊎_elim
            (λ (t : (j ≡ id) × (both ≡ u)). absurd (none-some n (ap (λ (x : View). x.sight.last) t.1 ∙ is)))
            (λ (t : (j ≢ id) × (get_elem? views j ≡ maybe.some u)). parts.whole j u t.1 u-live u-whole u-free n is) (at_set views id j both u still.1))
            (at_set (set views id both) other j spent_view u e);
      }
