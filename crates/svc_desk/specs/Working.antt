-- What a worker did with its pass and its desk, and the steps between.
use Rattle.std.specs.Prelude.{◌≡◌, ◌≢◌, ℕ, ◌+◌, ◌≤◌, List, [], ◌∷◌, ◌++◌, length, Option, Some, None}
use Rattle.svc_base.specs.Items.{list_of}
use Rattle.svc_base.specs.Calls.{Adds}
use Rattle.svc_record.specs.declared.event.Event.{Event}
use Rattle.svc_record.specs.declared.action.StepEnd.{StepEnd}
use Rattle.svc_record.specs.declared.action.StepEnd.TheVariants.{On}
use Rattle.svc_record.specs.Journal.{PostData}
use Rattle.svc_shared.specs.Journals.{end_after}
use Rattle.svc_shared.specs.declared.pass.Pass.{Pass}
use Rattle.svc_shared.specs.declared.pass.SharedServer.{SharedServer}
use Rattle.svc_shared.specs.declared.refusals.PostReason.{PostReason}
use Rattle.svc_shared.specs.declared.refusals.PostReason.TheVariants as reasons
use Rattle.svc_shared.specs.Views.{Begins}
use Rattle.svc_shared.specs.Posting.{IsOf, hand_in, seen_of, own_of, origin_of}
use Rattle.svc_desk.specs.declared.worker.WorkEnd.{WorkEnd}
use Rattle.svc_desk.specs.declared.worker.WorkEnd.TheVariants as ends
use Rattle.svc_desk.specs.declared.worker.Worked.{Worked}
use Rattle.svc_desk.specs.declared.worker.Fate.{Fate}
use Rattle.svc_desk.specs.declared.worker.Fate.TheVariants as fates
use Rattle.svc_desk.specs.declared.worker.Tally.{Tally}
use Rattle.svc_desk.specs.Desks.{DeskData, DeskStays, Grew}
use Rattle.svc_desk.specs.Deeds.{Deed, posted, strayed, events_of, posts_of, actions_of, stray_events, stray, strays_from, SaidBy, Follows, LeavesOn, EndsBy, GrewUpTo, call_count, Shows}

-- these deeds were done with the pass
pub record IsDone (s : SharedServer) (p : Pass) (log : List Deed) (q : Pass) : Type 0 where
  pub of : IsOf s q
  pub hand_is : hand_in q ≡ hand_in p
  pub front : Begins (seen_of q) (seen_of p)
  pub own_is : own_of q ≡ own_of p ++ posts_of log
  pub follows : Follows (origin_of s) (seen_of q) (length (seen_of p)) log

-- the worker's whole work: the pass keeps its number, share and ended seats, its own posts grew by those of the deeds, and the desk shows the deeds
-- against the front that the pass has seen
pub record IsWorked (s : SharedServer) (p : Pass) (turns : ℕ) (before now : DeskData) (r : Worked) : Type 0 where
  pub log : List Deed
  pub hand : List Event
  pub done : IsDone s p log r.pass
  pub shows : Shows (origin_of s) (seen_of r.pass) (length (seen_of p)) turns [] before now log hand (list_of r.strays) r.end

-- what becomes of an event whose post was refused
abbrev pub fate_by : PostReason → Fate
fate_by (reasons.Busy word) = fates.NoMemory
fate_by reasons.Full = fates.Full
fate_by (reasons.Stray seen) = fates.Strayed seen
fate_by reasons.NoMemory = fates.NoMemory

-- what became of the event: the deed, or the event in hand where there is none
abbrev pub FateIs : SharedServer → Event → Fate → List Deed → List Event → Pass → Type 0
FateIs s event (fates.Posted end) log hand q =
    (hand ≡ []) × ((own : ℕ × PostData) × (log ≡ posted own ∷ []) × (own.0 ≡ length (seen_of q)) × (end ≡ end_after (origin_of s) (seen_of q)))
FateIs s event (fates.Strayed seen) log hand q = (hand ≡ []) × (log ≡ strayed event seen ∷ [])
FateIs s event fates.Full log hand q = (hand ≡ event ∷ []) × (log ≡ []) × (length (seen_of q) ≡ (origin_of s).limit)
FateIs s event fates.NoMemory log hand q = (hand ≡ event ∷ []) × (log ≡ [])

-- the event was posted or refused
pub record IsHandled (s : SharedServer) (p : Pass) (before now : DeskData) (event : Event) (fate : Fate) (q : Pass) : Type 0 where
  pub log : List Deed
  pub hand : List Event
  pub done : IsDone s p log q
  pub all : events_of log ++ hand ≡ event ∷ []
  pub fate_is : FateIs s event fate log hand q
  pub said : SaidBy before.says log
  pub performed : Adds before.performed now.performed (actions_of log)
  pub refused : Adds before.refused now.refused (stray_events log ++ hand)
  pub taken : now.taken ≡ before.taken
  pub takes : now.takes ≡ before.takes
  pub stays : DeskStays before now
  pub place : before.room ≤ now.room + call_count log hand
  pub faults : now.faults ≡ before.faults
  pub idles : now.idles ≡ before.idles

-- how a worker stops after a post that leaves the run so
abbrev pub end_by : StepEnd → Option WorkEnd
end_by On = None
end_by _ = Some ends.Over

-- what is counted, and whether the worker stops
abbrev pub IsSettled : Fate → Tally → Tally → Option WorkEnd → Type 0
IsSettled (fates.Posted end) t u r = (list_of u.strays ≡ list_of t.strays) × (r ≡ end_by end)
IsSettled (fates.Strayed seen) t u r = (list_of u.strays ≡ list_of t.strays ++ stray (t.taken + 1) seen ∷ []) × (r ≡ None)
IsSettled fates.Full t u r = (list_of u.strays ≡ list_of t.strays) × (r ≡ Some ends.Full)
IsSettled fates.NoMemory t u r = (list_of u.strays ≡ list_of t.strays) × (r ≡ Some ends.NoMemory)

-- these deeds were done over the desk, and these events refused beside them
pub record IsAtDesk (before now : DeskData) (log : List Deed) (hand : List Event) : Type 0 where
  pub taken : Adds before.taken now.taken (events_of log ++ hand)
  pub said : SaidBy before.says log
  pub performed : Adds before.performed now.performed (actions_of log)
  pub refused : Adds before.refused now.refused (stray_events log ++ hand)
  pub stays : DeskStays before now
  pub faults : before.faults ≤ now.faults
  pub idles : before.idles ≤ now.idles

-- whether a turn was the last one, and why
abbrev pub TurnEnds : SharedServer → DeskData → DeskData → List Deed → List Event → Pass → Option WorkEnd → Type 0
TurnEnds s before now log hand q None = (hand ≡ []) × LeavesOn (origin_of s) (seen_of q) log × Grew before.takes now.takes 1
TurnEnds s before now log hand q (Some end) = EndsBy (origin_of s) (seen_of q) 0 before now log hand end × (end ≢ ends.TurnsSpent) × GrewUpTo before now 1

-- a turn: one take at most, and what became of its event
pub record IsTurned (s : SharedServer) (p : Pass) (before now : DeskData) (t u : Tally) (q : Pass) (end : Option WorkEnd) : Type 0 where
  pub log : List Deed
  pub hand : List Event
  pub done : IsDone s p log q
  pub at_desk : IsAtDesk before now log hand
  pub place : before.room ≤ now.room + (1 + call_count log hand)
  pub strays : list_of u.strays ≡ list_of t.strays ++ strays_from (t.taken + 1) log
  pub count : u.taken ≡ t.taken + (length log + length hand)
  pub ends : TurnEnds s before now log hand q end
