use Rattle.svc_endpoints.proofs.EndedLemmas.{accept-fits}
use Rattle.svc_endpoints.proofs.endpoints.Endpoints.accepts.Goals as goal

pub returns-then-serves-clause-means : goal.returns-then-serves-clause-means
returns-then-serves-clause-means c =
    λ q begun stand. accept-fits c.args.plan.now c.args.self.now.parts q c.requires.sized c.args.s c.args.started c.requires.service begun stand c.args.i
    c.serves.result c.has_loop_left.result c.serves.ensures
    (λ e. c.has_loop_left.ensures) (λ e. absurd (let on = c.if-serves.true in cc))

pub returns-else-serves-clause-means : goal.returns-else-serves-clause-means
returns-else-serves-clause-means c =
    λ q begun stand. accept-fits c.args.plan.now c.args.self.now.parts q c.requires.sized c.args.s c.args.started c.requires.service begun stand c.args.i
    c.serves.result c.serves.result c.serves.ensures
    (λ e. absurd (let off = c.if-serves.false in cc)) (λ e. e)
