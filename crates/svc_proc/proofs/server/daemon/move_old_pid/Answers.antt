use Rattle.std.proofs.Common.{Some}
use Rattle.svc_proc.proofs.ProcessLemmas.{moved}
use Rattle.svc_proc.proofs.server.daemon.move_old_pid.Goals as goal

pub returns-then-exists : goal.returns-then-exists
returns-then-exists g c = (
  Some c.rename.result,
  moved _ _ _ c.args.path.now c.args.to.now c.exists.result c.rename.result c.if-exists.true c.requires c.exists.ensures
      c.rename.ensures,
)
