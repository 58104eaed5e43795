use Rattle.std.proofs.Common.{◌∙◌}
use Rattle.std.proofs.Math.Seq.{map-set_same}
use Rattle.svc_sockets.proofs.connections.settle.Goals as goal

pub loop-connection-preserved : goal.loop-connection-preserved
loop-connection-preserved c =
    map-set_same (λ connection. connection.number) c.loop-connection.connections c.loop-connection.connection-index c.settle.new.self c.connection-item.result
    c.settle.ensures
    ∙ c.loop-connection.invariant
