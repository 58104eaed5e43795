use Rattle.std.proofs.Common.{◌≡◌, take, drop}
use Rattle.svc_conf.specs.Values.{behind, single}
use Rattle.svc_conf.proofs.server.configuration.values.whole_single.Given as goal

abbrev pub invariant-loop-i : goal.invariant-loop-i
invariant-loop-i l = behind (take l.i l.text) (single (drop l.i l.text)) ≡ single l.text
