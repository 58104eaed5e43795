-- The rule at the start, and what it says at the end.
use Rattle.std.proofs.Common.{◌≡◌, inl, ℕ, zero, suc, ◌≤◌, true, false, List, [], ◌∷◌, map, refl, sym, ap, ◌∙◌, subst, arith, Some, None}
use mathlib.Core.Option as maybe
use lib.ListN.{get_elem?}
use Rattle.atomic_table.specs.Table.{State, opening, Final, Seen}
use Rattle.svc_record.specs.Journal.{PostData, own_posts}
use Rattle.svc_shared.specs.BookData.{BookData}
use Rattle.svc_shared.specs.declared.view.SeatView.{SeatView}
use Rattle.svc_shared.specs.declared.view.Ended.{Ended}
use Rattle.svc_shared.specs.declared.view.View.{View}
use Rattle.svc_shared.specs.Views.{Slot, Begins, book_of, hand_of, IsWhole, first_hand, first_view}
use Rattle.svc_shared.specs.Rule.{Role, fresh, drawn, seated, kept, may_post, owner_of, IsSeatOf, home, Knows, SeatFits, PassesPart, Posted, Kept}
use Rattle.svc_shared.specs.Posting.{OfSeats}
use Rattle.svc_shared.proofs.PartsLemmas.{alone, whole_free, hand_at}
use Rattle.svc_base.proofs.Logic.{some-inj, none-some}

abbrev first_role : ℕ → Role
first_role zero = seated 0
first_role (suc zero) = drawn 0
first_role (suc (suc n)) = fresh

one-of : {A : Type 0} (a b : A) (id : ℕ) → get_elem? (a ∷ []) id ≡ maybe.some b → (id ≡ 0) × (a ≡ b)
one-of a b zero e = (refl, maybe.some-injective a b e)
one-of a b (suc id) e = absurd (maybe.some-ne-none b (sym e))

none-of : {A : Type 0} (b : A) (k : ℕ) → get_elem? {A = A} [] k ≡ maybe.some b → ⊥
none-of b k e = maybe.some-ne-none b (sym e)

undrawn : (n : ℕ) → 2 ≤ n → first_role n ≡ fresh
undrawn zero h = absurd (omega arith)
undrawn (suc zero) h = absurd (omega arith)
undrawn (suc (suc n)) h = refl

first_owner : (n id : ℕ) → owner_of (first_role n) ≡ maybe.some id → (0 ≡ id) × (n ≡ 0)
first_owner zero id e = (maybe.some-injective 0 id e, refl)
first_owner (suc zero) id e = absurd (maybe.some-ne-none id (sym e))
first_owner (suc (suc n)) id e = absurd (maybe.some-ne-none id (sym e))

first_fits : (b : BookData) → SeatFits b first_role (λ _. 0) 0 (first_hand b)
first_fits b = record {
  origin_is = refl;
  number_is = refl;
  drawn_is = λ n is. subst (λ (k : ℕ). first_role k ≡ drawn 0) (some-inj 1 n is) refl;
  ended_are = λ k e at. absurd (none-of e k at);
  some_share = omega arith;
  within = omega arith;
  share = λ x _ _. refl;
}

-- the table at the start
pub opens : (b : BookData) (items : List Slot) → b.posts ≡ [] → items ≡ Some b ∷ [] → Kept b (opening (0 ∷ 2 ∷ []) items (first_view b))
opens b items none is =
    let v : View = first_view b in
    let same : b ≡ book_of b [] = λ i. record { plan = b.plan; opening = b.opening; limit = b.limit; posts = none i } in record {
      journal = [];
      holder = maybe.none;
      next = 2;
      role = first_role;
      keeper = λ _. 0;
      words_are = refl;
      homes_are = ap (λ (xs : List Slot). map maybe.some xs) is ∙ ap (λ (x : BookData). maybe.some (Some x) ∷ []) same;
      parts = record {
        turn = record {
          each = λ id u at live. subst (λ (x : ℕ × View). Knows [] maybe.none x.0 x.1) (λ i. (sym ((one-of v u id at).0) i, (one-of v u id at).1 i))
              record {
                front = ([], refl);
                told_is = ([], refl);
                own_is = refl;
                holding_is = refl;
                base_is = λ _. refl;
                ended_are = λ k e there. absurd (none-of e k there);
              };
          held = λ id never. absurd (maybe.some-ne-none id (sym never));
        };
        passes = record {
          undrawn = undrawn;
          each = λ id h at live. subst (λ (x : ℕ × SeatView). SeatFits b first_role (λ _. 0) x.0 x.1)
              (λ i. (sym ((one-of (first_hand b) h id at).0) i, (one-of (first_hand b) h id at).1 i)) (first_fits b);
          owner = λ n id is. let z = first_owner n id is in
              (first_hand b, subst (λ (k : ℕ). get_elem? (first_hand b ∷ []) k ≡ maybe.some (first_hand b)) z.0 refl, refl, inl z.1);
        };
        posted = tt;
        whole = λ id u at live whole free n is. absurd (none-some n (ap (λ (x : View). x.sight.last) (one-of v u id at).1 ∙ is));
      };
    }

-- THE END

-- the seat of each post is the pass's own or an ended one of it, as there is no other pass
module _ (b : BookData) (next : ℕ) (role : ℕ → Role) (keeper : ℕ → ℕ) (hands : List SeatView) (passes : PassesPart b next role keeper hands) (id : ℕ)
    (h : SeatView) (at : get_elem? hands id ≡ maybe.some h) (live : h.spent ≡ false) (whole : IsWhole h) where
  same_hand : (j : ℕ) (g : SeatView) → get_elem? hands j ≡ maybe.some g → g.spent ≡ false → h ≡ g
  same_hand j g at-g live-g = let e = alone b next role keeper hands passes id j h g at live whole at-g live-g in
      maybe.some-injective h g (sym at ∙ (ap (get_elem? hands) (sym e) ∙ at-g))

  seat_of : (n : ℕ) (r : Role) → role n ≡ r → may_post r ≡ true → IsSeatOf h n
  seat_of n fresh is may = absurd (cc)
  seat_of n (drawn j) is may = absurd (cc)
  seat_of n (seated j) is may = let s = passes.owner n j (ap owner_of is) in subst (λ (g : SeatView). IsSeatOf g n) (sym (same_hand j s.0 s.1 s.2)) s.3
  seat_of n (kept j) is may = let s = passes.owner n j (ap owner_of is) in subst (λ (g : SeatView). IsSeatOf g n) (sym (same_hand j s.0 s.1 s.2)) s.3

  seats_of : (journal : List PostData) → Posted role journal → OfSeats h journal
  seats_of [] posted = tt
  seats_of (p ∷ ps) posted = (seat_of p.seat (role p.seat) refl posted.0, seats_of ps posted.1)

-- what is known at the end of the slot and of the pass that closed the table
pub record IsEnd (b : BookData) (v : View) (slot : Slot) : Type 0 where
  pub journal : List PostData
  pub slot_is : slot ≡ Some (book_of b journal)
  pub front : Begins journal v.sight.seen
  pub own_is : own_posts journal v.hand.number ≡ v.sight.own
  pub ended_are : (k : ℕ) (e : Ended) → get_elem? v.hand.ended k ≡ maybe.some e → own_posts journal e.number ≡ e.own
  pub seats : OfSeats v.hand journal

pub closes : (b : BookData) (id : ℕ) (v : View) (ws : List ℕ) (xs : List Slot) (slot : Slot) → v.hand.spent ≡ false → v.sight.holding ≡ false → IsWhole v.hand
    → Final (Seen (Kept b) id v) ws xs → get_elem? xs 0 ≡ maybe.some slot → IsEnd b v slot
closes b id v ws xs slot live free whole end there =
    let s : State Slot View = end.0 in
    let rule = end.1.0 in
    let at = end.1.1 in
    let parts = rule.parts in
    let none = whole_free b rule.next rule.role rule.keeper rule.journal rule.holder s.views parts id v at live whole free in
    let homes : s.homes ≡ maybe.some (Some (book_of b rule.journal)) ∷ [] = rule.homes_are ∙ ap (λ (h : maybe.Option ℕ). home b rule.journal h ∷ []) none in
    let gives = end.4 0 (Some (book_of b rule.journal)) (ap (λ (hs : List (maybe.Option Slot)). get_elem? hs 0) homes) in
    let knows = parts.turn.each id v at live in record {
      journal = rule.journal;
      slot_is = maybe.some-injective slot (Some (book_of b rule.journal)) (sym there ∙ gives);
      front = knows.front;
      own_is = sym knows.own_is;
      ended_are = λ k e e-at. sym (knows.ended_are k e e-at);
      seats = seats_of b rule.next rule.role rule.keeper (map hand_of s.views) parts.passes id v.hand
          (hand_at b rule.next rule.role rule.keeper rule.journal rule.holder s.views parts id v at live id v at) live whole rule.journal parts.posted;
    }

pub in-slot : (x y : BookData) (s : Slot) → s ≡ Some x → s ≡ Some y → x ≡ y
in-slot x y s e f = cc

pub not-empty : (x : BookData) (s : Slot) → s ≡ Some x → s ≡ None → ⊥
not-empty x s e f = cc
