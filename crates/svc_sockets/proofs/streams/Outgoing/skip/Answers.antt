use Rattle.svc_sockets.proofs.PendingLemmas.{skipped}
use Rattle.svc_sockets.proofs.streams.Outgoing.skip.Goals as goal

pub returns-clause-rest : goal.returns-clause-rest
returns-clause-rest c = skipped c.args.self.now.bytes c.args.self.now.from c.args.self.now.to c.args.count
