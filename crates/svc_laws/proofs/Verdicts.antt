-- What a filter says, and records in which a connection isn't judged by it: each of these is refused.
use Rattle.std.proofs.Common.{ℕ, Bool, true, false, ◌==◌, [], ◌∷◌, length, Some, codes, ◌≡◌, refl}
use Rattle.svc_base.specs.declared.settings.Setting.TheVariants.{NoDelay}
use Rattle.svc_socket.specs.declared.peer.Peer.TheVariants.{Unknown, Unix, Inet}
use Rattle.svc_socket.specs.declared.peer.PeerAddr.{PeerAddr}
use Rattle.svc_socket.specs.declared.peer.PeerAddr.TheVariants.{V4}
use Rattle.svc_graph.specs.declared.plan.EndpointPlan.{EndpointPlan}
use Rattle.svc_record.specs.declared.plan.Plan.{Plan}
use Rattle.svc_record.specs.declared.entry.Entry.TheVariants.{Got, Told}
use Rattle.svc_record.specs.declared.event.Event.TheVariants.{Arrived}
use Rattle.svc_record.specs.declared.action.Action.TheVariants.{Judged, Refuse, Settings}
use Rattle.svc_record.specs.Record.{Record, each_entry}
use Rattle.svc_record.specs.Connections.{Verdict, said_right}
use Rattle.svc_record.specs.Right.{is_right}
use Rattle.svc_record.proofs.TwoServices.{plan_of, listening}
use Rattle.svc_record.proofs.OfferedSockets.{held}

-- one service whose endpoint has a filter
abbrev pub plan : Plan
plan = plan_of (record (listening [] (codes "127.0.0.1:80")) { endpoints = filtered ∷ [] } ∷ [])
  where
    filtered : EndpointPlan
    filtered = record { address = codes "127.0.0.1:80"; unix = false; options = []; filter = Some 0 }

-- the same without one
abbrev open_plan : Plan
open_plan = plan_of (listening [] (codes "127.0.0.1:80") ∷ [])

-- yes to the first that it is asked for, and no to all later ones
abbrev says_first : Verdict
says_first filter asked peer = length asked == 0

-- no to this address, and yes to each other peer
abbrev blocks : Verdict
blocks filter asked (Some (V4 address port)) = port == 81
blocks filter asked peer = true

abbrev from_port : ℕ → PeerAddr
from_port port = V4 3232235777 port

-- a first connection was let in
abbrev one : Record
one = Told (Settings 1 (NoDelay ∷ [])) ∷ Told (Judged 1 true) ∷ Got (Arrived 0 0 1 Unix) ∷ held

-- each judgement is the filter's
abbrev is_said : Verdict → Plan → Record → Bool
is_said verdict p q = each_entry (said_right verdict p) q

-- the second is refused: the filter was asked for one before it
abbrev both : Record
both = Told (Refuse 2) ∷ Told (Judged 2 false) ∷ Got (Arrived 0 0 2 (Inet (from_port 80))) ∷ one

both-right : is_right plan both ≡ true
both-right = refl

both-said : is_said says_first plan both ≡ true
both-said = refl

-- one from nowhere isn't asked for, so the next one is the first
unknown-said : is_said says_first plan
    (Told (Settings 2 (NoDelay ∷ [])) ∷ Told (Judged 2 true) ∷ Got (Arrived 0 0 2 Unix) ∷ Told (Settings 1 (NoDelay ∷ [])) ∷ Got
    (Arrived 0 0 1 Unknown) ∷ held) ≡ true
unknown-said = refl

-- an address is judged by its port
port-said : is_said blocks plan (Told (Settings 1 (NoDelay ∷ [])) ∷ Told (Judged 1 true) ∷ Got (Arrived 0 0 1 (Inet (from_port 81))) ∷ held) ≡ true
port-said = refl

-- the second is let in, as though the filter weren't asked for the first
forgets_the_first : is_said says_first plan (Told (Settings 2 (NoDelay ∷ [])) ∷ Told (Judged 2 true) ∷ Got (Arrived 0 0 2 (Inet (from_port 80))) ∷ one) ≡ false
forgets_the_first = refl

-- the first is refused
refuses_the_first : is_said says_first plan (Told (Refuse 1) ∷ Told (Judged 1 false) ∷ Got (Arrived 0 0 1 Unix) ∷ held) ≡ false
refuses_the_first = refl

-- an address is let in that the filter refuses
lets_in : is_said blocks plan (Told (Settings 1 (NoDelay ∷ [])) ∷ Told (Judged 1 true) ∷ Got (Arrived 0 0 1 (Inet (from_port 80))) ∷ held) ≡ false
lets_in = refl

-- one is refused where there is no filter
refuses_unasked : is_said says_first open_plan (Told (Refuse 1) ∷ Told (Judged 1 false) ∷ Got (Arrived 0 0 1 Unix) ∷ held) ≡ false
refuses_unasked = refl

-- one is judged that never arrived
judges_none : is_said says_first plan (Told (Judged 9 true) ∷ held) ≡ false
judges_none = refl
