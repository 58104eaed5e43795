use Rattle.std.proofs.Common.{◌≡◌, take}
use Rattle.svc_tests_server.proofs.servers.ListenerServiceWithDependents.listen_addresses.Given as goal

abbrev pub invariant-loop-address : goal.invariant-loop-address
invariant-loop-address l = l.texts.items ≡ take l.address-index l.address-items
