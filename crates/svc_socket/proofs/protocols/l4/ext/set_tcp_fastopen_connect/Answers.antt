use Rattle.std.proofs.Common.{Ok, false, refl}
use Rattle.svc_socket.specs.declared.options.SockOption.TheVariants.{FastopenConnect}
use Rattle.svc_socket.proofs.CauseLemmas.{causes, one_named, ends_ok}
use Rattle.svc_socket.proofs.protocols.l4.ext.set_tcp_fastopen_connect.Goals as goal

pub returns-clause-cause : goal.returns-clause-cause
returns-clause-cause g c = causes false ⊥ _ (Ok tt) _ _ c.set_step.result refl (one_named FastopenConnect) (ends_ok ⊥) c.set_step.ensures
