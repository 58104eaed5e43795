use Rattle.svc_base.specs.Items.{list_of}
use Rattle.svc_core.proofs.CopyLemmas.{rest-copied}
use Rattle.svc_core.proofs.machine.Core.step_twice.Goals as goal

pub append_copies-requires-clause-copied : goal.append_copies-requires-clause-copied
append_copies-requires-clause-copied c =
    rw c.as_slice.ensures
    (rest-copied c.in_ok-copy.copy (list_of c.args.actions.now) (list_of c.step.new.actions) c.len-from.result
    (rw (← c.in_ok-copy.ensures) at c.in_ok-end.ensures.copied) c.len-from.ensures)
