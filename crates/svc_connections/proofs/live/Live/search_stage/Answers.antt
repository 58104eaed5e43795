use Rattle.std.proofs.Common.{sym}
use Rattle.svc_base.specs.Items.{list_of}
use Rattle.svc_connections.proofs.LiveLemmas.{found-stage, none-stage}
use Rattle.svc_connections.proofs.live.Live.search_stage.Goals as goal

pub returns-in-Some : goal.returns-in-Some
returns-in-Some c =
    rw (← c.self.view_is)
    (sym (found-stage c.args.c (list_of c.self.inside.connections) c.self.invariant.rise c.in-Some.connection.now c.in-Some.ensures.found))

pub returns-in-None : goal.returns-in-None
returns-in-None c = rw (← c.self.view_is) (sym (none-stage c.args.c (list_of c.self.inside.connections) c.in-None.ensures.absent))
