use Rattle.std.proofs.Common.{rules}
use Rattle.svc_system.proofs.handover.send.Goals as goal

pub returns-in-Ok : goal.returns-in-Ok
returns-in-Ok c = (search rules, search rules, (c.with_control-letter.result, search rules, search rules))
