use Rattle.std.proofs.Common.{refl}
use Rattle.std.proofs.Math.Seq.{map-set_same}
use Rattle.svc_sockets.proofs.connections.set_options.Goals as goal

pub returns-in-Some : goal.returns-in-Some
returns-in-Some c = map-set_same (λ connection. connection.number) c.args.connections.now c.in-Some.at _ c.index-connections-at-in-Some.result refl
