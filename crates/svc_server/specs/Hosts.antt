-- What a host tells of a run, and what its calls leave of that.
use Rattle.std.specs.Prelude.{ℕ, Bool, true, false, ◌≡◌, ◌≤◌, List, [], ◌∷◌, length, map, Option, Some, None, IfSome, MatchBool}
use Rattle.std.specs.Option.{option_map}
use Rattle.svc_base.specs.Streams.{Rose}
use Rattle.svc_record.specs.declared.action.Action.{Action}
use Rattle.svc_record.specs.declared.action.Action.TheVariants.{Start}
use Rattle.svc_record.specs.declared.event.Event.{Event}
use Rattle.svc_record.specs.declared.event.Event.TheVariants.{BindFailed, AdoptFailed, ReceiveFailed, ConnectFailed, SendFailed, AcceptFailed}
use Rattle.svc_record.specs.declared.entry.Entry.{Entry}
use Rattle.svc_record.specs.declared.entry.Entry.TheVariants.{Got, Told}
use Rattle.svc_record.specs.declared.item.Item.{Item}
use Rattle.svc_record.specs.declared.item.Item.TheVariants as items
use Rattle.svc_record.specs.Record.{Record}
use Rattle.svc_record.specs.Descriptors.{numbers_of}
use Rattle.svc_server.specs.declared.host.Next.{Next}
use Rattle.svc_server.specs.declared.host.Next.TheVariants as nexts

-- a service that was handed over: its number, and the name that it answers
pub record Handed : Type 0 where
  pub service : ℕ
  pub name : List ℕ

-- what a host tells of a run: what was got and told, and what was handed over, both with the newest first
pub record Account : Type 0 where
  pub entries : Record
  pub handed : List Handed

-- the account of a run that hasn't begun
abbrev pub no_account : Account
no_account = record { entries = []; handed = [] }

-- what a host was made of: the numbers that it goes by, the items that it gives, and what those that it tells numbers had been told before
pub record HostMake : Type 0 where
  pub numbers : List ℕ
  pub items : List Item
  pub told : List (Option (List ℕ))

-- the account with one more entry
abbrev pub with_entry : Entry → Account → Account
with_entry e a = record { entries = e ∷ a.entries; handed = a.handed }

-- the account with one more service handed over
abbrev pub with_handed : Handed → Account → Account
with_handed h a = record { entries = a.entries; handed = h ∷ a.handed }

-- how often a host failed, how often it had nothing more to give, and how many events that tell a failure it gave
pub record Counts : Type 0 where
  pub faults : ℕ
  pub idles : ℕ
  pub failures : ℕ

-- the event tells that an ask, or accepting, failed
abbrev pub tells_failure : Event → Bool
tells_failure (BindFailed s i) = true
tells_failure (AdoptFailed s i) = true
tells_failure ReceiveFailed = true
tells_failure ConnectFailed = true
tells_failure SendFailed = true
tells_failure (AcceptFailed s i n) = true
tells_failure _ = false

-- the event brings at most 32 descriptors
abbrev pub BringsFew : Event → Type 0
BringsFew e = length (numbers_of (Got e)) ≤ 32

-- an answer of `next` is an event only where one came, and it brings few descriptors
abbrev pub ComesWith : Next → Option Event → Type 0
ComesWith nexts.Event None = ⊥
ComesWith nexts.Event (Some e) = BringsFew e
ComesWith nexts.Failed e = Unit {0}
ComesWith nexts.None e = Unit {0}

-- exactly the count of what was answered has risen
abbrev pub CountsAfter : Next → Option Event → Counts → Counts → Type 0
CountsAfter nexts.Failed e before now = Rose before.faults now.faults × (now.idles ≡ before.idles) × (now.failures ≡ before.failures)
CountsAfter nexts.None e before now = (now.faults ≡ before.faults) × Rose before.idles now.idles × (now.failures ≡ before.failures)
CountsAfter nexts.Event e before now =
    (now.faults ≡ before.faults) × (now.idles ≡ before.idles)
    × IfSome e (λ x. MatchBool (tells_failure x) (Rose before.failures now.failures) (now.failures ≡ before.failures))

-- what an answer of `next` is, as an item
abbrev pub item_of : Next → Option Event → Option Item
item_of nexts.Event e = option_map items.Event e
item_of nexts.Failed e = Some items.Fault
item_of nexts.None e = None

-- the account after an answer of `next`: an event that came stands in it
abbrev pub account_after : Next → Option Event → Option Account → Option Account
account_after nexts.Event (Some e) a = option_map (with_entry (Got e)) a
account_after nexts.Event None a = a
account_after nexts.Failed e a = a
account_after nexts.None e a = a

-- what lies ahead of a host that knows it, before and after such an answer: the answer was the first of it; where there is none, nothing lay ahead
abbrev pub AheadAfter : Option Item → Option (List Item) → Option (List Item) → Type 0
AheadAfter (Some item) before now = before ≡ option_map (λ rest. item ∷ rest) now
AheadAfter None before now = (now ≡ before) × IfSome before (λ rest. rest ≡ [])

-- the services that were started, the newest first
abbrev pub starts_of : Record → List ℕ
starts_of [] = []
starts_of (Told (Start s) ∷ before) = s ∷ starts_of before
starts_of (e ∷ before) = starts_of before

-- an action may be told: before a start, the services that were started were handed over, in order, and then this one
abbrev pub MayTell : Action → Account → Type 0
MayTell (Start s) a = map (λ (h : Handed). h.service) a.handed ≡ s ∷ starts_of a.entries
MayTell _ a = Unit {0}
