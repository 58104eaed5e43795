-- What a worker does, event after event, and what a desk shows of it against the journal.
use Rattle.std.specs.Prelude.{◌≡◌, ◌≢◌, ℕ, ◌+◌, ◌<◌, ◌≤◌, Bool, List, [], ◌∷◌, ◌++◌, length}
use Rattle.svc_base.specs.Streams.{Rose}
use Rattle.svc_base.specs.Calls.{Adds}
use Rattle.svc_record.specs.declared.event.Event.{Event}
use Rattle.svc_record.specs.declared.action.Action.{Action}
use Rattle.svc_record.specs.declared.action.StepEnd.TheVariants.{On}
use Rattle.svc_record.specs.Journal.{PostData}
use Rattle.svc_shared.specs.BookData.{BookData}
use Rattle.svc_shared.specs.Journals.{FitsAfter, end_after}
use Rattle.svc_shared.specs.Views.{Begins}
use Rattle.svc_desk.specs.declared.stray.Strayed.{Strayed}
use Rattle.svc_desk.specs.declared.worker.WorkEnd.{WorkEnd}
use Rattle.svc_desk.specs.declared.worker.WorkEnd.TheVariants.{Over, Closed, Full, TurnsSpent, Fault, NoMemory}
use Rattle.svc_desk.specs.Desks.{DeskData, DeskStays, Grew}

-- what became of an event that was taken: it was posted, at this place and so; or it strayed, as it didn't fit after so many posts
pub data Deed : Type 0 where
  posted : ℕ × PostData → Deed
  strayed : Event → ℕ → Deed

-- the events
abbrev pub events_of : List Deed → List Event
events_of [] = []
events_of (posted own ∷ ds) = own.1.event ∷ events_of ds
events_of (strayed e seen ∷ ds) = e ∷ events_of ds

-- the posts, each with its place
abbrev pub posts_of : List Deed → List (ℕ × PostData)
posts_of [] = []
posts_of (posted own ∷ ds) = own ∷ posts_of ds
posts_of (strayed e seen ∷ ds) = posts_of ds

-- the actions of the posts
abbrev pub actions_of : List Deed → List Action
actions_of [] = []
actions_of (posted own ∷ ds) = own.1.actions ++ actions_of ds
actions_of (strayed e seen ∷ ds) = actions_of ds

-- the events that strayed
abbrev pub stray_events : List Deed → List Event
stray_events [] = []
stray_events (posted own ∷ ds) = stray_events ds
stray_events (strayed e seen ∷ ds) = e ∷ stray_events ds

-- a stray's place among the events, and the length after which it didn't fit
abbrev pub stray : ℕ → ℕ → Strayed
stray k n = record { place = k; seen = n }

-- the strays, where the first event has this place
abbrev pub strays_from : ℕ → List Deed → List Strayed
strays_from k [] = []
strays_from k (posted own ∷ ds) = strays_from (k + 1) ds
strays_from k (strayed e seen ∷ ds) = stray k seen ∷ strays_from (k + 1) ds

-- what was posted with each event is what the desk says of it
abbrev pub SaidBy : (Event → Bool) → List Deed → Type 0
SaidBy says [] = Unit {0}
SaidBy says (posted own ∷ ds) = (own.1.said ≡ says own.1.event) × SaidBy says ds
SaidBy says (strayed e seen ∷ ds) = SaidBy says ds

-- this holds of the journal's first k posts
abbrev pub OfFront : List PostData → ℕ → (List PostData → Type 0) → Type 0
OfFront journal k P = (front : List PostData) × (length front ≡ k) × Begins journal front × P front

-- n posts had been seen. Each post has a place above all that was seen before it. Each stray doesn't fit a front that has at least all posts that
-- were seen before it
abbrev pub Follows : BookData → List PostData → ℕ → List Deed → Type 0
Follows b journal n [] = n ≤ length journal
Follows b journal n (posted own ∷ ds) = (n < own.0) × Follows b journal own.0 ds
Follows b journal n (strayed e seen ∷ ds) = (n ≤ seen) × OfFront journal seen (λ front. FitsAfter b front e → ⊥) × Follows b journal seen ds

-- each post left the run on
abbrev pub LeavesOn : BookData → List PostData → List Deed → Type 0
LeavesOn b journal [] = Unit {0}
LeavesOn b journal (posted own ∷ ds) = OfFront journal own.0 (λ front. end_after b front ≡ On) × LeavesOn b journal ds
LeavesOn b journal (strayed e seen ∷ ds) = LeavesOn b journal ds

-- the last event was posted, and its post is the one that didn't leave the run on
abbrev pub EndsRun : BookData → List PostData → List Deed → Type 0
EndsRun b journal log = (ds : List Deed) × (own : ℕ × PostData) × (log ≡ ds ++ posted own ∷ []) × LeavesOn b journal ds × OfFront journal own.0
    (λ front. end_after b front ≢ On)

-- why a worker stopped after these deeds, with the events in its hand that were neither posted nor strays
abbrev pub EndsBy : BookData → List PostData → ℕ → DeskData → DeskData → List Deed → List Event → WorkEnd → Type 0
EndsBy b journal turns before now log hand Over = (hand ≡ []) × EndsRun b journal log
EndsBy b journal turns before now log hand Closed = (hand ≡ []) × LeavesOn b journal log × Rose before.idles now.idles
EndsBy b journal turns before now log hand Full = (length hand ≡ 1) × LeavesOn b journal log × OfFront journal b.limit (λ front. Unit {0})
EndsBy b journal turns before now log hand TurnsSpent = (hand ≡ []) × LeavesOn b journal log × Grew before.takes now.takes turns
EndsBy b journal turns before now log hand Fault = (hand ≡ []) × LeavesOn b journal log × Rose before.faults now.faults
EndsBy b journal turns before now log hand NoMemory = (length hand ≤ 1) × LeavesOn b journal log

-- the takes grew by at most so many
abbrev pub GrewUpTo : DeskData → DeskData → ℕ → Type 0
GrewUpTo before now turns = (k : ℕ) × (k ≤ turns) × Grew before.takes now.takes k

-- how often the desk was called beside its takes: once for each action of the posts, each stray and each event in hand
abbrev pub call_count : List Deed → List Event → ℕ
call_count log hand = length (actions_of log) + length (stray_events log ++ hand)

-- what a desk shows of a worker's deeds, where n posts of the journal had been seen: the events that it gave, what it said of those that were posted,
-- the actions that it performed, first these and then those of the posts, and the events that it took back. Each of its calls took room for one at most
pub record Shows (b : BookData) (journal : List PostData) (n turns : ℕ) (first : List Action) (before now : DeskData) (log : List Deed) (hand : List Event)
    (strays : List Strayed) (end : WorkEnd) : Type 0 where
  pub taken : Adds before.taken now.taken (events_of log ++ hand)
  pub said : SaidBy before.says log
  pub performed : Adds before.performed now.performed (first ++ actions_of log)
  pub refused : Adds before.refused now.refused (stray_events log ++ hand)
  pub takes : GrewUpTo before now turns
  pub stays : DeskStays before now
  pub place : before.room ≤ now.room + (turns + (length first + call_count log hand))
  pub faults : before.faults ≤ now.faults
  pub idles : before.idles ≤ now.idles
  pub strays_are : strays ≡ strays_from 1 log
  pub follows : Follows b journal n log
  pub ends : EndsBy b journal turns before now log hand end
