-- What the filters of a server are asked in a run, and what they say.
use Rattle.std.specs.Prelude.{ℕ, Bool, true, ◌≡◌, ◌==◌, ◌++◌, ◌<◌, List, [], ◌∷◌, Option, Some, None, IfSome, if◌then◌else◌}
use Rattle.svc_socket.specs.declared.peer.PeerAddr.{PeerAddr}
use Rattle.svc_record.specs.declared.plan.Plan.{Plan}
use Rattle.svc_record.specs.declared.event.Event.{Event}
use Rattle.svc_record.specs.declared.event.Event.TheVariants.{Arrived}
use Rattle.svc_record.specs.Plans.{filter_of}
use Rattle.svc_record.specs.Record.{Record, EachEntry}
use Rattle.svc_record.specs.Connections.{Verdict, asked_peer, peers_asked, said_right}

-- the peer of the event, as a filter is asked for it
abbrev pub peer_at : Event → Option PeerAddr
peer_at (Arrived s i c peer) = asked_peer peer
peer_at _ = None

-- for whom filter f is asked, where the filter with this number is asked for the peer
abbrev pub asked_now : Option ℕ → Option PeerAddr → ℕ → List (Option PeerAddr)
asked_now (Some n) peer f = if n == f then peer ∷ [] else []
asked_now None peer f = []

-- the filter with this number, if there is a number, was asked for the peer and said so; from then on each filter answers as it did before after these peers
pub record Asks (before now : Verdict) (number : Option ℕ) (peer : Option PeerAddr) (said : Bool) : Type 0 where
  pub answer : IfSome number (λ f. said ≡ before f [] peer)
  pub later : (f : ℕ) (asked : List (Option PeerAddr)) (x : Option PeerAddr) → now f asked x ≡ before f (asked_now number peer f ++ asked) x

-- each judgement of the record is its filter's verdict
abbrev pub IsSaid : Verdict → Plan → Record → Type 0
IsSaid verdict p q = EachEntry (λ e before. said_right verdict p e before ≡ true) q

-- so it is, and the filters answer from then on as they did at first after the peers of the record
pub record Judges (verdict now : Verdict) (p : Plan) (q : Record) : Type 0 where
  pub said : IsSaid verdict p q
  pub later : (f : ℕ) (asked : List (Option PeerAddr)) (x : Option PeerAddr) → now f asked x ≡ verdict f (peers_asked p q f ++ asked) x

-- each filter that an endpoint of the plan names is one of the first n
abbrev pub NamesFilters : Plan → ℕ → Type 0
NamesFilters p n = (s i f : ℕ) → filter_of p s i ≡ Some f → f < n
