use Rattle.svc_services.proofs.AcceptedLemmas.{enough_filters}
use Rattle.svc_services.proofs.services.server_of_script.Goals as goal

pub linked-requires-clause-enough : goal.linked-requires-clause-enough
linked-requires-clause-enough c = enough_filters c.args.script.now.services.items _ (rw c.deref.ensures.value at c.in-Ok.ensures)
