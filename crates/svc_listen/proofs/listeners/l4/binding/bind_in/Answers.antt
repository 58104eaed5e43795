use Rattle.svc_listen.specs.Binding.{not_bound}
use Rattle.svc_listen.proofs.ReachLemmas.{reaches-bound}
use Rattle.svc_listen.proofs.listeners.l4.binding.bind_in.Goals as goal

pub returns-in-Ok-None : goal.returns-in-Ok-None
returns-in-Ok-None g c =
    reaches-bound _ c.args.addr.now _ _ _ _ c.args.bind c.in-Ok.fd c.number-number.result c.requires.free c.requires.text c.in-Ok.ensures
    c.in-Ok-None.ensures.added c.number-number.ensures

pub returns-in-Err : goal.returns-in-Err
returns-in-Err g c = not_bound c.in-Err.kind c.requires.free c.in-Err.ensures
