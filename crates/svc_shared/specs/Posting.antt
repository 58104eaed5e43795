-- What an answer of a post tells of the pass that comes back.
use Rattle.std.specs.Prelude.{Some, ◌≡◌, ◌≢◌, ◌⊎◌, ℕ, ◌*◌, ◌%◌, ◌≤◌, Bool, List, [], ◌∷◌, ◌++◌, length}
use mathlib.Core.Option as maybe
use lib.ListN.{get_elem?}
use Rattle.svc_base.specs.Items.{list_of}
use Rattle.svc_record.specs.declared.event.Event.{Event}
use Rattle.svc_shared.specs.declared.book.Refusal.{Refusal}
use Rattle.svc_shared.specs.declared.book.Refusal.TheVariants as Refusals
use Rattle.svc_record.specs.Journal.{PostData, post, own_posts}
use Rattle.svc_shared.specs.BookData.{BookData}
use Rattle.svc_shared.specs.Journals.{FitsAfter, IsLegal, end_after}
use Rattle.svc_shared.specs.declared.view.Note.{Note}
use Rattle.svc_shared.specs.declared.view.SeatView.{SeatView}
use Rattle.svc_shared.specs.declared.view.Ended.{Ended}
use Rattle.svc_shared.specs.declared.view.View.{View}
use Rattle.svc_shared.specs.declared.pass.Pass.{Pass}
use Rattle.svc_shared.specs.declared.pass.Posted.{Posted}
use Rattle.svc_shared.specs.declared.refusals.PostRefused.{PostRefused}
use Rattle.svc_shared.specs.declared.refusals.CloseRefused.{CloseRefused}
use Rattle.svc_shared.specs.declared.refusals.PostReason.{PostReason}
use Rattle.svc_shared.specs.declared.refusals.PostReason.TheVariants.{Busy, Full, Stray, NoMemory}
use Rattle.svc_shared.specs.declared.pass.SharedServer.{SharedServer}
use Rattle.svc_shared.specs.Rule.{IsSeatOf}
use Rattle.svc_shared.specs.Turn.{LeftWithout}
use Rattle.svc_shared.specs.Views.{Mine, Begins, IsWhole, note}

-- what a pass knows
abbrev pub view_of : Pass → View
view_of p = p.place.me.0

-- its number, its share, a drawn number and its ended seats
abbrev pub hand_in : Pass → SeatView
hand_in p = p.place.me.0.hand

-- the front of the journal that it has seen
abbrev pub seen_of : Pass → List PostData
seen_of p = p.place.me.0.sight.seen

-- the posts of its seat there, with their places
abbrev pub own_of : Pass → List (ℕ × PostData)
own_of p = p.place.me.0.sight.own

-- what it read from which word
abbrev pub notes_of : Pass → List Note
notes_of p = p.place.me.0.sight.notes

-- where the server began, and its limit
abbrev pub origin_of : SharedServer → BookData
origin_of s = s.board.shared.key.value

-- the pass is this server's
abbrev pub IsOf : SharedServer → Pass → Type 0
IsOf s p = (p.place.table_id ≡ s.board.shared.table_id) × ((hand_in p).origin ≡ Some (origin_of s))

-- the pass after an answer: it has seen a front of the journal, whose last post is this one
pub record IsPosted (s : SharedServer) (p : Pass) (event : Event) (said : Bool) (r : Posted) : Type 0 where
  pub of : IsOf s r.pass
  pub hand_is : hand_in r.pass ≡ hand_in p
  pub long : r.place ≡ length (seen_of r.pass)
  pub last : (before : List PostData) × (seen_of r.pass ≡ before ++ post (hand_in p).number event said (list_of r.actions) ∷ []) × Begins before (seen_of p)
  pub own_is : own_of r.pass ≡ own_of p ++ (r.place, post (hand_in p).number event said (list_of r.actions)) ∷ []
  pub own_stands : own_of r.pass ≡ own_posts (seen_of r.pass) (hand_in p).number
  pub legal : IsLegal (origin_of s) (seen_of r.pass)
  pub within : r.place ≤ (origin_of s).limit
  pub notes : Begins (notes_of r.pass) (notes_of p)
  pub end_is : r.end ≡ end_after (origin_of s) (seen_of r.pass)

-- the last note of the call is of the turn's word, and is n
abbrev pub LastNote : Pass → Pass → ℕ → Type 0
LastNote p q n = (added : List Note) × (notes_of q ≡ (notes_of p ++ added) ++ note 0 n ∷ [])

-- the pass hasn't the whole share; the last word that this call saw is `word`, and it is odd or differs from the one that this call saw before
abbrev pub IsBusy : Pass → Pass → ℕ → Type 0
IsBusy p q word = (IsWhole (hand_in p) → ⊥)
    × (((notes_of q ≡ notes_of p ++ note 0 word ∷ []) × (word % 2 ≡ 1))
    ⊎ ((first : ℕ) × (first ≢ word) × (notes_of q ≡ (notes_of p ++ note 0 first ∷ []) ++ note 0 word ∷ [])))

-- the cause of a refusal, where `busy` is that of a turn that isn't free
abbrev pub HasCause : (ℕ → Type 0) → SharedServer → Pass → Event → PostReason → Pass → Type 0
HasCause busy s p event (Busy word) q = busy word
HasCause busy s p event Full q = (length (seen_of q) ≡ (origin_of s).limit) × LastNote p q (2 * (origin_of s).limit)
HasCause busy s p event (Stray seen) q = (length (seen_of q) ≡ seen) × (FitsAfter (origin_of s) (seen_of q) event → ⊥) × LastNote p q (2 * seen)
HasCause busy s p event NoMemory q = Unit {0}

-- the pass after a refusal
pub record IsRefused (busy : ℕ → Type 0) (s : SharedServer) (p : Pass) (event : Event) (r : PostRefused) : Type 0 where
  pub of : IsOf s r.pass
  pub hand_is : hand_in r.pass ≡ hand_in p
  pub own_is : own_of r.pass ≡ own_of p
  pub front : Begins (seen_of r.pass) (seen_of p)
  pub notes : Begins (notes_of r.pass) (notes_of p)
  pub event_is : r.event ≡ event
  pub cause : HasCause busy s p event r.reason r.pass

-- what a post answers where the book refuses it so
abbrev pub reason_is : Refusal → PostReason
reason_is Refusals.Full = Full
reason_is (Refusals.Stray seen) = Stray seen
reason_is Refusals.NoMemory = NoMemory

-- the turn was left for this reason, with the journal as it was
abbrev pub LeftFor : BookData → Event → PostReason → Mine → Mine → Type 0
LeftFor b event reason m w = (why : Refusal) × (reason ≡ reason_is why) × LeftWithout b event why m w

-- the turn is always had in the end
abbrev pub never : ℕ → Type 0
never word = ⊥

-- each post is of the pass's number or of one of its ended seats
abbrev pub OfSeats : SeatView → List PostData → Type 0
OfSeats h [] = Unit {0}
OfSeats h (p ∷ ps) = IsSeatOf h p.seat × OfSeats h ps

-- the whole journal: it begins with what the pass had seen, is legal, and its posts are those of the pass and of its ended seats
pub record IsClosed (s : SharedServer) (p : Pass) (journal : List PostData) : Type 0 where
  pub front : Begins journal (seen_of p)
  pub legal : IsLegal (origin_of s) journal
  pub own_is : own_posts journal (hand_in p).number ≡ own_of p
  pub ended_are : (k : ℕ) (e : Ended) → get_elem? (hand_in p).ended k ≡ maybe.some e → own_posts journal e.number ≡ e.own
  pub seats : OfSeats (hand_in p) journal

-- the server and the pass come back as they were
pub record IsUnclosed (s : SharedServer) (p : Pass) (r : CloseRefused) : Type 0 where
  pub server_is : r.server ≡ s
  pub pass_is : r.pass ≡ p
