use Rattle.std.proofs.Common.{◌≡◌, fold}
use Rattle.svc_server.specs.Addresses.{with_missing}
use Rattle.svc_server.proofs.server.addresses.add_all_missing.Given as goal

abbrev pub invariant-loop-text : goal.invariant-loop-text
invariant-loop-text l = l.texts.items ≡ fold with_missing l.initial.texts.items l.yielded
