-- What a worker's posts come to.
use Rattle.std.specs.Prelude.{◌≡◌, ℕ, ◌*◌, Bool, true, List, [], ◌∷◌, ◌++◌, map, length, Option, Some, None}
use Rattle.svc_record.specs.declared.event.Event.{Event}
use Rattle.svc_record.specs.Journal.{PostData}
use Rattle.svc_shared.specs.Journals.{FitsAfter}
use Rattle.svc_shared.specs.declared.pass.Pass.{Pass}
use Rattle.svc_shared.specs.declared.refusals.PostReason.{PostReason}
use Rattle.svc_shared.specs.declared.refusals.PostReason.TheVariants.{Busy, Full, Stray, NoMemory}
use Rattle.svc_shared.specs.declared.pass.SharedServer.{SharedServer}
use Rattle.svc_shared.specs.declared.work.Fed.{Fed}
use Rattle.svc_shared.specs.Views.{Begins}
use Rattle.svc_shared.specs.Posting.{IsOf, LastNote, hand_in, seen_of, own_of, notes_of, origin_of}

-- who posted what, and with which verdict
abbrev pub asked : ℕ × PostData → ℕ × Event × Bool
asked x = (x.1.seat, x.1.event, x.1.said)

-- the same of a worker's post, with said true
abbrev pub asks : ℕ → Event → ℕ × Event × Bool
asks n e = (n, e, true)

-- the own posts of the pass grew by these events, in order
pub record IsFedSo (s : SharedServer) (p : Pass) (done : List Event) (q : Pass) : Type 0 where
  pub of : IsOf s q
  pub hand_is : hand_in q ≡ hand_in p
  pub front : Begins (seen_of q) (seen_of p)
  pub notes : Begins (notes_of q) (notes_of p)
  pub more : List (ℕ × PostData)
  pub own_is : own_of q ≡ own_of p ++ more
  pub made : map asked more ≡ map (asks (hand_in p).number) done

-- why a worker stopped at this event
abbrev pub StopCause : SharedServer → Pass → PostReason → Pass → Event → Type 0
StopCause s p (Busy word) q event = ⊥
StopCause s p Full q event = (length (seen_of q) ≡ (origin_of s).limit) × LastNote p q (2 * (origin_of s).limit)
StopCause s p (Stray seen) q event = (length (seen_of q) ≡ seen) × (FitsAfter (origin_of s) (seen_of q) event → ⊥) × LastNote p q (2 * seen)
StopCause s p NoMemory q event = Unit {0}

-- the pass after a worker's post that was refused
pub record IsStopped (s : SharedServer) (p : Pass) (event : Event) (reason : PostReason) (q : Pass) : Type 0 where
  pub of : IsOf s q
  pub hand_is : hand_in q ≡ hand_in p
  pub front : Begins (seen_of q) (seen_of p)
  pub own_is : own_of q ≡ own_of p
  pub notes : Begins (notes_of q) (notes_of p)
  pub cause : StopCause s p reason q event

-- nothing was refused where nothing is left; else the first event that is left was
abbrev pub EndsBy : SharedServer → Pass → Option PostReason → List Event → Pass → Type 0
EndsBy s p None rest q = rest ≡ []
EndsBy s p (Some reason) rest q = (event : Event) × (later : List Event) × (rest ≡ event ∷ later) × StopCause s p reason q event

-- the own posts of the pass grew by exactly the events that aren't in `rest`, in order
pub record IsFed (s : SharedServer) (p : Pass) (events : List Event) (r : Fed) : Type 0 where
  pub done : List Event
  pub all : events ≡ done ++ r.rest.items
  pub fed : IsFedSo s p done r.pass
  pub ends : EndsBy s p r.refused r.rest.items r.pass
