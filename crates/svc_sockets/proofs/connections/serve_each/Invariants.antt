use Rattle.std.proofs.Common.{◌≡◌}
use Rattle.svc_sockets.specs.Seen.{connection_numbers}
use Rattle.svc_sockets.proofs.connections.serve_each.Given as goal

abbrev pub invariant-loop-connection : goal.invariant-loop-connection
invariant-loop-connection l = connection_numbers l.connections ≡ connection_numbers l.fn.connections
