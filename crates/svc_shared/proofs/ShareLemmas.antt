-- From what the steps of a split and a join tell to what the calls tell.
use Rattle.std.proofs.Common.{◌≡◌, ℕ, List, [], ◌∷◌, sym, ap, ◌∙◌, subst, Option, Some}
use Rattle.svc_record.specs.Journal.{PostData, own_posts}
use Rattle.svc_shared.specs.declared.view.SeatView.{SeatView}
use Rattle.svc_shared.specs.declared.view.View.{View}
use Rattle.svc_shared.specs.declared.pass.Pass.{Pass}
use Rattle.svc_shared.specs.declared.pass.SharedServer.{SharedServer}
use Rattle.svc_shared.specs.Views.{Mine, Begins, noted, lower, upper, upper_hand, drawn_or, glued, settled, longer}
use Rattle.svc_shared.specs.Rule.{IsSeatOf}
use Rattle.svc_shared.specs.Posting.{IsOf, hand_in, seen_of}
use Rattle.svc_shared.specs.Sharing.{IsCut, IsJoined}

pub cut_by : (m n l r : Mine) (k found : ℕ) → m.0.hand.drawn ≡ Some k → n ≡ (noted m.0 0 found (Some found), m.1)
    → (own_posts m.0.sight.seen k ≡ []) × (IsSeatOf m.0.hand k → ⊥)
    → l ≡ (lower n.0, n.1) → r ≡ (upper n.0, []) → IsCut k m l r
cut_by m n l r k found has is free l-is r-is =
    let left : l.0 ≡ lower (noted m.0 0 found (Some found)) = ap (λ (x : Mine). x.0) l-is ∙ ap (λ (x : Mine). lower x.0) is in
    let right : r.0 ≡ upper (noted m.0 0 found (Some found)) = ap (λ (x : Mine). x.0) r-is ∙ ap (λ (x : Mine). upper x.0) is in record {
      left_hand = ap (λ (v : View). v.hand) left;
      left_seen = ap (λ (v : View). v.sight.seen) left;
      left_own = ap (λ (v : View). v.sight.own) left;
      right_hand = ap (λ (v : View). v.hand) right ∙ ap (λ (d : Option ℕ). upper_hand m.0.hand (drawn_or d 0)) has;
      right_seen = ap (λ (v : View). v.sight.seen) right;
      right_own = ap (λ (v : View). v.sight.own) right;
      no_post = free.0;
      no_seat = free.1;
    }

pub joined_by : (s : SharedServer) (l r q : Pass) (n : Mine) (found : ℕ) → IsOf s l → q.place.table_id ≡ l.place.table_id
    → n ≡ (glued l.place.me.0 r.place.me.0, l.place.me.1)
    → q.place.me ≡ (settled n.0 found, n.1) → Begins (longer n.0.sight.seen n.0.sight.told) n.0.sight.seen
    → Begins (longer n.0.sight.seen n.0.sight.told) n.0.sight.told → IsJoined s l r q
joined_by s l r q n found of table is now one two =
    let G : View = glued l.place.me.0 r.place.me.0 in
    let n-is : n.0 ≡ G = ap (λ (x : Mine). x.0) is in
    let view : q.place.me.0 ≡ settled G found = ap (λ (x : Mine). x.0) now ∙ ap (λ (v : View). settled v found) n-is in
    let sees : seen_of q ≡ longer (seen_of l) (seen_of r) = ap (λ (v : View). v.sight.seen) view in
    let hand : hand_in q ≡ G.hand = ap (λ (v : View). v.hand) view in record {
      of = (table ∙ of.0, ap (λ (h : SeatView). h.origin) hand ∙ of.1);
      hand_is = hand;
      front_left =
          subst (λ (xs : List PostData). Begins xs (seen_of l)) (sym sees)
          (subst (λ (v : View). Begins (longer v.sight.seen v.sight.told) v.sight.seen) n-is one);
      front_right =
          subst (λ (xs : List PostData). Begins xs (seen_of r)) (sym sees)
          (subst (λ (v : View). Begins (longer v.sight.seen v.sight.told) v.sight.told) n-is two);
      own_is = ap (λ (v : View). v.sight.own) view;
    }
