use Rattle.svc_endpoints.proofs.EndedLemmas.{loop-fits}
use Rattle.svc_endpoints.proofs.endpoints.Endpoints.loop_fits.Goals as goal

pub returns-then-serves-clause-means : goal.returns-then-serves-clause-means
returns-then-serves-clause-means c =
    λ q begun stand. loop-fits c.args.plan.now c.args.self.now.parts q c.requires.sized c.args.s c.args.i c.args.j c.args.started c.requires.service begun stand
    c.serves.result c.goes_on.result c.serves.ensures
    (λ e. c.goes_on.ensures) (λ e. absurd (let on = c.if-serves.true in cc))

pub returns-else-serves-clause-means : goal.returns-else-serves-clause-means
returns-else-serves-clause-means c =
    λ q begun stand. loop-fits c.args.plan.now c.args.self.now.parts q c.requires.sized c.args.s c.args.i c.args.j c.args.started c.requires.service begun stand
    c.serves.result c.serves.result c.serves.ensures
    (λ e. absurd (let off = c.if-serves.false in cc)) (λ e. e)
