use Rattle.std.proofs.Math.Seq.{map-set_same}
use Rattle.svc_sockets.proofs.connections.answer_at.Goals as goal

pub returns-clause-numbers : goal.returns-clause-numbers
returns-clause-numbers c =
    map-set_same (λ connection. connection.number) c.args.connections.now c.args.at c.next_answer.new.self c.index-connections-at.result
    c.next_answer.ensures.number
