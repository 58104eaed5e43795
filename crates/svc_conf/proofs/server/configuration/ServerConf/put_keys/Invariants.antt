use Rattle.std.proofs.Common.{◌≡◌, ◌++◌, take, All}
use Rattle.std.specs.Prelude.{flat_map}
use Rattle.svc_conf.specs.Printing.{key_lines, KeyFits}
use Rattle.svc_conf.proofs.server.configuration.ServerConf.put_keys.Given as goal

abbrev pub invariant-loop-key : goal.invariant-loop-key
invariant-loop-key l = (l.out.items ≡ l.fn.out.items ++ flat_map (key_lines l.self) (take l.key-index l.keys)) × All (KeyFits l.self) (take l.key-index l.keys)
