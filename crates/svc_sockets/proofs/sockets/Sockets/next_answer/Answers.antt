use Rattle.svc_sockets.specs.Seen.{seen}
use Rattle.svc_sockets.proofs.sockets.Sockets.next_answer.Goals as goal

pub returns : goal.returns
returns c = c.next_served.ensures (seen c.args.self.now)
