-- Steps that change a hand: a draw, a split and a join keep the parts of the rule.
use Rattle.std.proofs.Common.{◌≡◌, ◌≢◌, inr, ⊎_elim, ℕ, ◌+◌, Bool, true, false, List, map, ◌==◌, if◌then◌else◌, refl, sym, ap, ◌∙◌, subst, arith, set, eq-eqb, ne_eqb}
use mathlib.Core.Option as maybe
use mathlib.Core.Logic.{dite}
use native.Mathlib.Decide.{ℕ_discrete}
use lib.ListN.{get_elem?}
use lib.Seq.{map-set}
use Rattle.atomic_table.proofs.Lists.{at_set, set_else}
use Rattle.svc_record.specs.Journal.{PostData}
use Rattle.svc_shared.specs.BookData.{BookData}
use Rattle.svc_shared.specs.declared.view.SeatView.{SeatView}
use Rattle.svc_shared.specs.declared.view.View.{View}
use Rattle.svc_shared.specs.Views.{hand_of, drew}
use Rattle.svc_shared.specs.Rule.{Role, fresh, drawn, seated, kept, may_post, owner_of, IsSeatOf, SeatFits, PassesPart, Parts}
use Rattle.svc_shared.proofs.OwnLemmas.{set_there, posted-by}
use Rattle.svc_shared.proofs.PartsLemmas.{hand_at, turn_moved}
use Rattle.svc_base.proofs.Logic.{some-inj, none-some}

-- which seat has to do with a number
abbrev pub place_of : Role → maybe.Option ℕ
place_of fresh = maybe.none
place_of (drawn id) = maybe.some id
place_of (seated id) = maybe.some id
place_of (kept id) = maybe.some id

-- a hand fits on where no number of its seat changes its role, and no number of its share its keeper
pub fits_on : (b : BookData) (role role' : ℕ → Role) (keeper keeper' : ℕ → ℕ) (j : ℕ) (h : SeatView)
    → ((n : ℕ) → place_of (role n) ≡ maybe.some j → role' n ≡ role n) → ((x : ℕ) → keeper x ≡ j → keeper' x ≡ j)
    → SeatFits b role keeper j h → SeatFits b role' keeper' j h
fits_on b role role' keeper keeper' j h same stays f = record {
  origin_is = f.origin_is;
  number_is = same h.number (ap place_of f.number_is) ∙ f.number_is;
  drawn_is = λ n is. same n (ap place_of (f.drawn_is n is)) ∙ f.drawn_is n is;
  ended_are = λ k e at. same e.number (ap place_of (f.ended_are k e at)) ∙ f.ended_are k e at;
  some_share = f.some_share;
  within = f.within;
  share = λ x low high. stays x (f.share x low high);
}

-- THE DRAW

abbrev pub drawn_role : (ℕ → Role) → ℕ → ℕ → ℕ → Role
drawn_role role id k n = if n == k then drawn id else role n

module _ (role : ℕ → Role) (id k : ℕ) where
  drawn_here : drawn_role role id k k ≡ drawn id
  drawn_here = ap (λ (t : Bool). if t then drawn id else role k) (eq-eqb k k refl)

  drawn_else : (n : ℕ) → n ≢ k → drawn_role role id k n ≡ role n
  drawn_else n ne = ap (λ (t : Bool). if t then drawn id else role n) (ne_eqb n k ne)

module _ (b : BookData) (next : ℕ) (role : ℕ → Role) (keeper : ℕ → ℕ) (journal : List PostData) (holder : maybe.Option ℕ) (views : List View)
    (parts : Parts b journal holder next role keeper views) (id : ℕ) (v : View) (at : get_elem? views id ≡ maybe.some v) (live : v.hand.spent ≡ false) where
  abbrev hands : List SeatView
  hands = map hand_of views

  at_hand : get_elem? hands id ≡ maybe.some v.hand
  at_hand = hand_at b next role keeper journal holder views parts id v at live id v at

  mine : SeatFits b role keeper id v.hand
  mine = parts.passes.each id v.hand at_hand live

  is_fresh : role next ≡ fresh
  is_fresh = parts.passes.undrawn next (omega arith)

  not-fresh : (n j : ℕ) → place_of (role n) ≡ maybe.some j → n ≢ next
  not-fresh n j is e = maybe.some-ne-none j (sym is ∙ (ap (λ (m : ℕ). place_of (role m)) e ∙ ap place_of is_fresh))

  draw_passes : PassesPart b (next + 1) (drawn_role role id next) keeper (set hands id (drew v next).hand)
  draw_passes = record {
    undrawn = λ n le. drawn_else role id next n (λ e. omega arith) ∙ parts.passes.undrawn n (omega arith);
    each = λ j h e h-live. ⊎_elim
        (λ (t : (j ≡ id) × ((drew v next).hand ≡ h)). subst (λ (x : ℕ × SeatView). SeatFits b (drawn_role role id next) keeper x.0 x.1)
        (λ i. (sym t.0 i, t.1 i)) record {
          origin_is = mine.origin_is;
          number_is = drawn_else role id next v.hand.number (not-fresh v.hand.number id (ap place_of mine.number_is)) ∙ mine.number_is;
          drawn_is = λ n is. subst (λ (m : ℕ). drawn_role role id next m ≡ drawn id) (some-inj next n is) (drawn_here role id next);
          ended_are = λ k e there. drawn_else role id next e.number (not-fresh e.number id (ap place_of (mine.ended_are k e there))) ∙ mine.ended_are k e there;
          some_share = mine.some_share;
          within = mine.within;
          share = mine.share;
        })
        (λ (t : (j ≢ id) × (get_elem? hands j ≡ maybe.some h)). fits_on b role (drawn_role role id next) keeper keeper j h
        (λ n is. drawn_else role id next n (not-fresh n j is)) (λ x is. is) (parts.passes.each j h t.1 h-live))
        (at_set hands id j (drew v next).hand h e);
    owner = λ n i is. dite (ℕ_discrete n next)
        (λ (e : n ≡ next). absurd (maybe.some-ne-none i (sym is ∙ ap owner_of (ap (λ (m : ℕ). drawn_role role id next m) e ∙ drawn_here role id next))))
        (λ (ne : n ≢ next). let was = parts.passes.owner n i (ap owner_of (sym (drawn_else role id next n ne)) ∙ is) in dite (ℕ_discrete i id)
        (λ (e : i ≡ id). let same : was.0 ≡ v.hand = maybe.some-injective was.0 v.hand (sym was.1 ∙ (ap (get_elem? hands) e ∙ at_hand)) in (
          (drew v next).hand,
          subst (λ (m : ℕ). get_elem? (set hands id (drew v next).hand) m ≡ maybe.some (drew v next).hand) (sym e)
              (set_there hands id v.hand (drew v next).hand at_hand),
          live,
          subst (λ (g : SeatView). IsSeatOf g n) same was.3,
        ))
        (λ (ne' : i ≢ id). (was.0, set_else hands id i (drew v next).hand ne' ∙ was.1, was.2, was.3)));
  }

  pub draws : Parts b journal holder (next + 1) (drawn_role role id next) keeper (set views id (drew v next))
  draws =
      let was = parts.turn.each id v at live in record {
        turn = turn_moved b next role keeper journal holder views parts id v at live journal holder (drew v next) live
            record {
              front = was.front;
              told_is = was.told_is;
              own_is = was.own_is;
              holding_is = was.holding_is;
              base_is = was.base_is;
              ended_are = was.ended_are;
            }
            (λ j u ne e u_live k. k) (λ j is. inr is);
        passes = subst (PassesPart b (next + 1) (drawn_role role id next) keeper) (sym (map-set hand_of views id (drew v next))) draw_passes;
        posted = posted-by role (drawn_role role id next) journal
            (λ n may. let ne : n ≢ next = (λ e. absurd (may-fresh (role n) may (ap role e ∙ is_fresh))) in ap may_post (drawn_else role id next n ne) ∙ may)
            parts.posted;
        whole = λ j u e u-live u-whole u-free n is. ⊎_elim
            (λ (t : (j ≡ id) × (drew v next ≡ u)). absurd (none-some n (ap (λ (x : View). x.sight.last) t.1 ∙ is)))
            (λ (t : (j ≢ id) × (get_elem? views j ≡ maybe.some u)). parts.whole j u t.1 u-live u-whole u-free n is) (at_set views id j (drew v next) u e);
      }
    where
      may-fresh : (r : Role) → may_post r ≡ true → r ≡ fresh → ⊥
      may-fresh r may is = false-true (sym (ap may_post is) ∙ may)
        where
          false-true : false ≡ true → ⊥
          false-true e = cc
