use Rattle.std.proofs.Common.{sym}
use Rattle.svc_text.proofs.BlockedLemmas.{found, not-found}
use Rattle.svc_text.proofs.blocked.is_among.Goals as goal

pub returns-in-Ok : goal.returns-in-Ok
returns-in-Ok c = sym (found c.args.numbers.now c.args.number c.requires c.in-Ok.field-0 c.in-Ok.ensures.position)

pub returns-in-Err : goal.returns-in-Err
returns-in-Err c = sym (not-found c.args.numbers.now c.args.number c.requires c.in-Err.field-0 c.in-Err.ensures.position)
