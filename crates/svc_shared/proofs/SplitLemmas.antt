-- A split keeps the parts of the rule.
use Rattle.std.proofs.Common.{◌≡◌, ◌≢◌, inl, inr, ⊎_elim, ℕ, ◌≤◌, ◌<◌, Bool, true, false, List, [], ◌∷◌, ◌++◌, map, length, ◌==◌, ltb, if◌then◌else◌, refl, sym, ap, ◌∙◌, subst, arith, set, eq-eqb, ne_eqb, length-set, Option, Some}
use mathlib.Core.Option as maybe
use mathlib.Core.List.{map-append}
use mathlib.Core.Logic.{dite}
use native.Mathlib.Decide.{ℕ_discrete}
use lib.ListN.{get_elem?}
use lib.Seq.{map-set}
use Rattle.std.proofs.lemmas.Bool.{lt-ltb, le-ltb}
use Rattle.std.proofs.lemmas.List.{length-map}
use Rattle.atomic_table.proofs.Lists.{at_set, set_else, at_longer, at_last}
use Rattle.svc_record.specs.Journal.{PostData, own_posts}
use Rattle.svc_shared.specs.BookData.{BookData}
use Rattle.svc_shared.specs.declared.view.SeatView.{SeatView}
use Rattle.svc_shared.specs.declared.view.View.{View}
use Rattle.svc_shared.specs.Views.{hand_of, lower, upper, middle, drawn_or}
use Rattle.svc_shared.specs.Rule.{Role, fresh, drawn, seated, kept, may_post, owner_of, IsSeatOf, is_holder, Knows, SeatFits, PassesPart, Parts}
use Rattle.svc_shared.proofs.OwnLemmas.{set_there, own-none, posted-by, at_below, at_more}
use Rattle.svc_shared.proofs.PartsLemmas.{hand_at, turn_moved}
use Rattle.svc_shared.proofs.HandLemmas.{place_of, fits_on}
use Rattle.svc_base.proofs.Logic.{none-some}

module _ (role : ℕ → Role) (m k : ℕ) where
  abbrev pub split_role : ℕ → Role
  split_role n = if n == k then seated m else role n

  split_here : split_role k ≡ seated m
  split_here = ap (λ (t : Bool). if t then seated m else role k) (eq-eqb k k refl)

  split_else : (n : ℕ) → n ≢ k → split_role n ≡ role n
  split_else n ne = ap (λ (t : Bool). if t then seated m else role n) (ne_eqb n k ne)

module _ (keeper : ℕ → ℕ) (id m mid : ℕ) where
  abbrev pub split_keeper : ℕ → ℕ
  split_keeper x = if keeper x == id then (if ltb mid x then m else id) else keeper x

  keeps_low : (x : ℕ) → keeper x ≡ id → x ≤ mid → split_keeper x ≡ id
  keeps_low x is le =
      ap (λ (t : Bool). if t then (if ltb mid x then m else id) else keeper x) (eq-eqb (keeper x) id is)
      ∙ ap (λ (t : Bool). if t then m else id) (le-ltb mid x le)

  keeps_high : (x : ℕ) → keeper x ≡ id → mid < x → split_keeper x ≡ m
  keeps_high x is lt =
      ap (λ (t : Bool). if t then (if ltb mid x then m else id) else keeper x) (eq-eqb (keeper x) id is)
      ∙ ap (λ (t : Bool). if t then m else id) (lt-ltb mid x lt)

  keeps_else : (x : ℕ) → keeper x ≢ id → split_keeper x ≡ keeper x
  keeps_else x ne = ap (λ (t : Bool). if t then (if ltb mid x then m else id) else keeper x) (ne_eqb (keeper x) id ne)

module _ (b : BookData) (next : ℕ) (role : ℕ → Role) (keeper : ℕ → ℕ) (journal : List PostData) (holder : maybe.Option ℕ) (views : List View)
    (parts : Parts b journal holder next role keeper views) (id : ℕ) (v : View) (at : get_elem? views id ≡ maybe.some v) (live : v.hand.spent ≡ false) (k : ℕ)
    (has : v.hand.drawn ≡ Some k) (two : v.hand.low < v.hand.high) where
  abbrev hands : List SeatView
  hands = map hand_of views

  abbrev m : ℕ
  m = length views

  abbrev L : SeatView
  L = (lower v).hand

  abbrev U : SeatView
  U = (upper v).hand

  abbrev role' : ℕ → Role
  role' = split_role role m k

  abbrev keeper' : ℕ → ℕ
  keeper' = split_keeper keeper id m (middle v.hand)

  at_hand : get_elem? hands id ≡ maybe.some v.hand
  at_hand = hand_at b next role keeper journal holder views parts id v at live id v at

  mine : SeatFits b role keeper id v.hand
  mine = parts.passes.each id v.hand at_hand live

  was_drawn : role k ≡ drawn id
  was_drawn = mine.drawn_is k has

  long : length (set hands id L) ≡ m
  long = length-set hands id L ∙ length-map views hand_of

  number_of : U.number ≡ k
  number_of = ap (λ (d : Option ℕ). drawn_or d 0) has

  -- a role other than drawn is no role of k
  not-k : (n : ℕ) (r : Role) → role n ≡ r → (drawn id ≡ r → ⊥) → n ≢ k
  not-k n r is other e = other (sym was_drawn ∙ (ap role (sym e) ∙ is))

  drawn-seated : (i j : ℕ) → drawn i ≡ seated j → ⊥
  drawn-seated i j e = cc

  drawn-kept : (i j : ℕ) → drawn i ≡ kept j → ⊥
  drawn-kept i j e = cc

  drawn-fresh : (i : ℕ) → drawn i ≡ fresh → ⊥
  drawn-fresh i e = cc

  lower_fits : SeatFits b role' keeper' id L
  lower_fits = record {
    origin_is = mine.origin_is;
    number_is = split_else role m k v.hand.number (not-k v.hand.number (seated id) mine.number_is (drawn-seated id id)) ∙ mine.number_is;
    drawn_is = λ n is. absurd (none-some n is);
    ended_are = λ i e there. split_else role m k e.number (not-k e.number (kept id) (mine.ended_are i e there) (drawn-kept id id)) ∙ mine.ended_are i e there;
    some_share = omega arith;
    within = let w = mine.within in omega arith;
    share = λ x low high. keeps_low keeper id m (middle v.hand) x (mine.share x low (omega arith)) high;
  }

  upper_fits : SeatFits b role' keeper' m U
  upper_fits = record {
    origin_is = mine.origin_is;
    number_is = ap role' number_of ∙ split_here role m k;
    drawn_is = λ n is. absurd (none-some n is);
    ended_are = λ i e there. absurd (maybe.some-ne-none e (sym there));
    some_share = omega arith;
    within = mine.within;
    share = λ x low high. keeps_high keeper id m (middle v.hand) x (mine.share x (omega arith) high) (omega arith);
  }

  split_passes : PassesPart b next role' keeper' (set hands id L ++ U ∷ [])
  split_passes = record {
    undrawn = λ n le. let f = parts.passes.undrawn n le in split_else role m k n (not-k n fresh f (drawn-fresh id)) ∙ f;
    each = λ j h e h-live. ⊎_elim
        (λ (old : get_elem? (set hands id L) j ≡ maybe.some h). ⊎_elim
        (λ (t : (j ≡ id) × (L ≡ h)). subst (λ (x : ℕ × SeatView). SeatFits b role' keeper' x.0 x.1) (λ i. (sym t.0 i, t.1 i)) lower_fits)
        (λ (t : (j ≢ id) × (get_elem? hands j ≡ maybe.some h)). fits_on b role role' keeper keeper' j h
        (λ n is. split_else role m k n (λ same. t.0 (maybe.some-injective j id (sym is ∙ (ap (λ (x : ℕ). place_of (role x)) same ∙ ap place_of was_drawn)))))
        (λ x is. keeps_else keeper id m (middle v.hand) x (λ same. t.0 (sym is ∙ same)) ∙ is) (parts.passes.each j h t.1 h-live))
        (at_set hands id j L h old))
        (λ (new : (j ≡ length (set hands id L)) × (U ≡ h)). subst (λ (x : ℕ × SeatView). SeatFits b role' keeper' x.0 x.1)
        (λ i. (sym (new.0 ∙ long) i, new.1 i)) upper_fits)
        (at_more (set hands id L) U h j e);
    owner = λ n i is. dite (ℕ_discrete n k)
        (λ (e : n ≡ k). let who : m ≡ i = maybe.some-injective m i (sym (ap owner_of (ap role' e ∙ split_here role m k)) ∙ is) in
        (U, subst (λ (x : ℕ). get_elem? (set hands id L ++ U ∷ []) x ≡ maybe.some U) who (at_last (set hands id L) U m long), live, inl (e ∙ sym number_of)))
        (λ (ne : n ≢ k). let was = parts.passes.owner n i (ap owner_of (sym (split_else role m k n ne)) ∙ is) in dite (ℕ_discrete i id)
        (λ (e : i ≡ id). let same : was.0 ≡ v.hand = maybe.some-injective was.0 v.hand (sym was.1 ∙ (ap (get_elem? hands) e ∙ at_hand)) in (
          L,
          subst (λ (x : ℕ). get_elem? (set hands id L ++ U ∷ []) x ≡ maybe.some L) (sym e)
              (at_longer (set hands id L) (U ∷ []) id L (set_there hands id v.hand L at_hand)),
          live,
          subst (λ (g : SeatView). IsSeatOf g n) same was.3,
        ))
        (λ (ne' : i ≢ id). (was.0, at_longer (set hands id L) (U ∷ []) i was.0 (set_else hands id i L ne' ∙ was.1), was.2, was.3)));
  }

  not-holder : (h : maybe.Option ℕ) → ((j : ℕ) → h ≡ maybe.some j → j < m) → is_holder h m ≡ false
  not-holder maybe.none small = refl
  not-holder (maybe.some j) small = let lt = small j refl in ne_eqb j m (λ e. omega arith)

  pub splits : Parts b journal holder next role' keeper' (set views id (lower v) ++ upper v ∷ [])
  splits =
      let was = parts.turn.each id v at live in
      let turn = turn_moved b next role keeper journal holder views parts id v at live journal holder (lower v) live
      record { front = was.front; told_is = was.told_is; own_is = was.own_is; holding_is = was.holding_is; base_is = was.base_is; ended_are = was.ended_are }
      (λ j u ne e u_live k. k) (λ j is. inr is) in
      let vlong : length (set views id (lower v)) ≡ m = length-set views id (lower v) in
      let free : is_holder holder m ≡ false = not-holder holder (λ j is. let u = parts.turn.held j is in at_below views j u.0 u.1) in
      let none : own_posts journal U.number ≡ [] = ap (own_posts journal) number_of ∙ own-none role k journal (ap may_post was_drawn) parts.posted in
      let knows : Knows journal holder m (upper v) =
      record {
        front = was.front;
        told_is = (journal, refl);
        own_is = sym none;
        holding_is = sym free;
        base_is = λ f. absurd (apart f);
        ended_are = λ i e there. absurd (maybe.some-ne-none e (sym there));
      } in record {
        turn = record {
          each = λ j u e u-live. ⊎_elim (λ (old : get_elem? (set views id (lower v)) j ≡ maybe.some u). turn.each j u old u-live)
              (λ (new : (j ≡ length (set views id (lower v))) × (upper v ≡ u)). subst (λ (x : ℕ × View). Knows journal holder x.0 x.1)
              (λ i. (sym (new.0 ∙ vlong) i, new.1 i)) knows) (at_more (set views id (lower v)) (upper v) u j e);
          held = λ j is. let u = turn.held j is in (u.0, at_longer (set views id (lower v)) (upper v ∷ []) j u.0 u.1, u.2);
        };
        passes = subst (PassesPart b next role' keeper')
            (sym (map-append hand_of (set views id (lower v)) (upper v ∷ []) ∙ ap (λ (hs : List SeatView). hs ++ U ∷ []) (map-set hand_of views id (lower v))))
            split_passes;
        posted = posted-by role role' journal
            (λ n may. ap may_post (split_else role m k n (λ e. apart' (sym (ap may_post (ap role e ∙ was_drawn)) ∙ may))) ∙ may) parts.posted;
        whole = λ j u e u-live u-whole u-free n is. ⊎_elim (λ (old : get_elem? (set views id (lower v)) j ≡ maybe.some u). ⊎_elim
            (λ (t : (j ≡ id) × (lower v ≡ u)). absurd (none-some n (ap (λ (x : View). x.sight.last) t.1 ∙ is)))
            (λ (t : (j ≢ id) × (get_elem? views j ≡ maybe.some u)). parts.whole j u t.1 u-live u-whole u-free n is) (at_set views id j (lower v) u old))
            (λ (new : (j ≡ length (set views id (lower v))) × (upper v ≡ u)). absurd (none-some n (ap (λ (x : View). x.sight.last) new.1 ∙ is)))
            (at_more (set views id (lower v)) (upper v) u j e);
      }
    where
      apart : false ≡ true → ⊥
      apart e = cc

      apart' : false ≡ true → ⊥
      apart' e = cc
