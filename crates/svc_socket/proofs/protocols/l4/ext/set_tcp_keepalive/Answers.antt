use Rattle.std.proofs.Common.{Ok}
use Rattle.svc_socket.specs.OptionLists.{keepalive_steps}
use Rattle.svc_socket.proofs.CauseLemmas.{causes, keepalive_named, ends_ok}
use Rattle.svc_socket.proofs.protocols.l4.ext.set_tcp_keepalive.Goals as goal

pub returns-clause-cause : goal.returns-clause-cause
returns-clause-cause g c =
    causes _ ⊥ (keepalive_steps c.args.ka.now) (Ok tt) _ _ c.set_given.result (cc) (keepalive_named c.args.ka.now) (ends_ok ⊥) c.set_given.ensures
