-- What a served service's filter refuses.
use Rattle.std.specs.Prelude.{Bool, true, List, Option, Some, None}
use Rattle.svc_socket.specs.declared.peer.PeerAddr.{PeerAddr}
use Rattle.svc_gate.specs.declared.gate.Gate.{Gate}
use Rattle.svc_gate.specs.Ranges.{accepts}
use Rattle.svc_socket.specs.declared.reading.IpNumber.{IpNumber}
use Rattle.svc_host.specs.declared.gated_filter.GatedFilter.{GatedFilter}

-- whom a gate takes, if there is one; without one all are taken
abbrev pub lets_in : Option Gate → Option PeerAddr → Bool
lets_in None peer = true
lets_in (Some gate) peer = accepts gate peer

-- the addresses that a filter refuses by its service's line
abbrev pub blocked_of : GatedFilter → List IpNumber
blocked_of filter = filter.blocked
