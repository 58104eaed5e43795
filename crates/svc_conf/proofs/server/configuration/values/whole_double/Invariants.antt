use Rattle.std.proofs.Common.{◌≡◌, take, drop}
use Rattle.svc_conf.specs.Values.{behind, double}
use Rattle.svc_conf.proofs.server.configuration.values.whole_double.Given as goal

abbrev pub invariant-loop-i : goal.invariant-loop-i
invariant-loop-i l = behind (take l.i l.text) (double (drop l.i l.text)) ≡ double l.text
