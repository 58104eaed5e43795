-- What a draw, a split and a join tell.
use Rattle.std.specs.Prelude.{◌≡◌, ℕ, ◌<◌, List, [], ◌∷◌, ◌++◌, Some, None}
use Rattle.svc_record.specs.Journal.{own_posts}
use Rattle.svc_shared.specs.declared.view.Note.{Note}
use Rattle.svc_shared.specs.declared.pass.Pass.{Pass}
use Rattle.svc_shared.specs.declared.refusals.SplitReason.{SplitReason}
use Rattle.svc_shared.specs.declared.refusals.SplitReason.TheVariants.{Thin, NoNumber, NoMemory}
use Rattle.svc_shared.specs.declared.refusals.SplitRefused.{SplitRefused}
use Rattle.svc_shared.specs.declared.pass.SharedServer.{SharedServer}
use Rattle.svc_shared.specs.Views.{Mine, Begins, note, most, with_drawn, lower_hand, upper_hand, glued_hand}
use Rattle.svc_shared.specs.Rule.{IsSeatOf}
use Rattle.svc_shared.specs.Turn.{IsIdle}
use Rattle.svc_shared.specs.Posting.{IsOf, hand_in, seen_of, own_of, notes_of}

-- the pass has the drawn number k
pub record Drawn (k : ℕ) (m w : Mine) : Type 0 where
  pub idle : IsIdle w
  pub hand_is : w.0.hand ≡ with_drawn m.0.hand k
  pub seen_is : w.0.sight.seen ≡ m.0.sight.seen
  pub own_is : w.0.sight.own ≡ m.0.sight.own
  pub had : (n : ℕ) → m.0.hand.drawn ≡ Some n → k ≡ n
  pub below : m.0.hand.drawn ≡ None → k < most

-- no number is left
pub record Undrawn (m w : Mine) : Type 0 where
  pub idle : IsIdle w
  pub none : m.0.hand.drawn ≡ None
  pub hand_is : w.0.hand ≡ m.0.hand
  pub seen_is : w.0.sight.seen ≡ m.0.sight.seen
  pub own_is : w.0.sight.own ≡ m.0.sight.own
  pub last : (added : List Note) × (w.0.sight.notes ≡ (m.0.sight.notes ++ added) ++ note 1 most ∷ [])

-- the views of both passes after a cut
pub record IsCut (k : ℕ) (m l r : Mine) : Type 0 where
  pub left_hand : l.0.hand ≡ lower_hand m.0.hand
  pub left_seen : l.0.sight.seen ≡ m.0.sight.seen
  pub left_own : l.0.sight.own ≡ m.0.sight.own
  pub right_hand : r.0.hand ≡ upper_hand m.0.hand k
  pub right_seen : r.0.sight.seen ≡ m.0.sight.seen
  pub right_own : r.0.sight.own ≡ []
  pub no_post : own_posts m.0.sight.seen k ≡ []
  pub no_seat : IsSeatOf m.0.hand k → ⊥

-- both passes after a split
pub record IsSplit (s : SharedServer) (p l r : Pass) : Type 0 where
  pub of_left : IsOf s l
  pub of_right : IsOf s r
  pub left_hand : hand_in l ≡ lower_hand (hand_in p)
  pub left_seen : seen_of l ≡ seen_of p
  pub left_own : own_of l ≡ own_of p
  pub right_hand : hand_in r ≡ upper_hand (hand_in p) (hand_in r).number
  pub right_seen : seen_of r ≡ seen_of p
  pub right_own : own_of r ≡ []
  pub thick : (hand_in p).low < (hand_in p).high
  pub had : (n : ℕ) → (hand_in p).drawn ≡ Some n → (hand_in r).number ≡ n
  pub below : (hand_in p).drawn ≡ None → (hand_in r).number < most
  pub no_post : own_posts (seen_of p) (hand_in r).number ≡ []
  pub no_seat : IsSeatOf (hand_in p) (hand_in r).number → ⊥

-- the cause of a refusal
abbrev pub SplitCause : Pass → SplitReason → Pass → Type 0
SplitCause p Thin q = (hand_in p).low ≡ (hand_in p).high
SplitCause p NoNumber q = ((hand_in p).low < (hand_in p).high) × ((hand_in p).drawn ≡ None)
    × ((added : List Note) × (notes_of q ≡ (notes_of p ++ added) ++ note 1 most ∷ []))
SplitCause p NoMemory q = ⊥

-- the pass after a refused split
pub record IsUnsplit (s : SharedServer) (p : Pass) (r : SplitRefused) : Type 0 where
  pub of : IsOf s r.pass
  pub hand_is : hand_in r.pass ≡ hand_in p
  pub seen_is : seen_of r.pass ≡ seen_of p
  pub own_is : own_of r.pass ≡ own_of p
  pub cause : SplitCause p r.reason r.pass

-- the pass of two
pub record IsJoined (s : SharedServer) (l r q : Pass) : Type 0 where
  pub of : IsOf s q
  pub hand_is : hand_in q ≡ glued_hand (hand_in l) (hand_in r) (own_of r)
  pub front_left : Begins (seen_of q) (seen_of l)
  pub front_right : Begins (seen_of q) (seen_of r)
  pub own_is : own_of q ≡ own_of l
