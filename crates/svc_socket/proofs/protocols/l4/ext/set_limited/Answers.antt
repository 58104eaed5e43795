use Rattle.std.proofs.Common.{Ok}
use Rattle.svc_socket.proofs.CauseLemmas.{causes, one_named, ends_ok}
use Rattle.svc_socket.proofs.protocols.l4.ext.set_limited.Goals as goal

pub returns-clause-cause : goal.returns-clause-cause
returns-clause-cause g c = causes _ ⊥ _ (Ok tt) _ _ c.set_step.result (cc) (one_named c.args.option) (ends_ok ⊥) c.set_step.ensures
