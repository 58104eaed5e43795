use Rattle.std.proofs.Common.{◌≡◌, map, take}
use Rattle.svc_system.specs.Letters.{handle_in, shown}
use Rattle.svc_system.proofs.handover.add_handles.Given as goal

abbrev pub invariant-loop-fd : goal.invariant-loop-fd
invariant-loop-fd l = map shown l.handed.items ≡ map (handle_in l.listeners) (take l.fd-index l.fds)
