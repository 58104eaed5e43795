use Rattle.std.proofs.Common.{take}
use Rattle.svc_text.specs.BlockedNumbers.{AreNumbers4, AreNumbers6}
use Rattle.svc_text.proofs.blocked.in_order.Given as goal

abbrev pub invariant-loop-ip : goal.invariant-loop-ip
invariant-loop-ip l = record {
  numbers4 : AreNumbers4 (take l.ip-index l.blocked) l.v4.items;
  numbers6 : AreNumbers6 (take l.ip-index l.blocked) l.v6.items;
}
