use Rattle.std.proofs.Common.{ℕ, List, ap, subst, ◌∙◌}
use Rattle.svc_sockets.specs.Seen.{connection_numbers}
use Rattle.svc_sockets.specs.SocketsData.{SocketsData, TellsNext}
use Rattle.svc_sockets.proofs.connections.next_served.Goals as goal

pub returns-in-None : goal.returns-in-None
returns-in-None c rest =
    let same = c.serve_all.ensures ∙ ap (λ (now : SocketsData). now.connections) (c.in-None.ensures rest) in
    subst (λ (numbers : List ℕ). TellsNext c.next_answer-in-None.result (record rest { connections = numbers })
    (record rest { connections = connection_numbers c.next_answer-in-None.new.connections.items })) same (c.next_answer-in-None.ensures rest)
