use Rattle.std.proofs.Common.{◌≡◌, take}
use Rattle.svc_sockets.specs.OpenSockets.{open_numbers}
use Rattle.svc_sockets.specs.Seen.{seen}
use Rattle.svc_sockets.specs.SocketsData.{without_all}
use Rattle.svc_sockets.proofs.sockets.Sockets.close_all.Given as goal

abbrev pub invariant-loop-fd : goal.invariant-loop-fd
invariant-loop-fd l = seen l.self ≡ record (seen l.fn.self) { listeners = without_all (take l.fd-index l.fds) (open_numbers l.fn.self.descriptors) }
