use Rattle.svc_core.proofs.CloseCounts.{few-left}
use Rattle.svc_core.proofs.machine.Core.close_brought.Goals as goal

pub returns-in-Received-clause-few : goal.returns-in-Received-clause-few
returns-in-Received-clause-few c = few-left c.args.self.now c.args.event.now
