use Rattle.std.proofs.Common.{◌≡◌, ◌++◌}
use Rattle.svc_base.specs.Items.{list_of}
use Rattle.svc_system.specs.Letters.{numbers_in}
use Rattle.svc_system.proofs.system.System.open_all.Given as goal

abbrev pub invariant-loop-one : goal.invariant-loop-one
invariant-loop-one g l = numbers_in l.self.listeners ≡ numbers_in l.fn.self.listeners ++ list_of l.fds.items
