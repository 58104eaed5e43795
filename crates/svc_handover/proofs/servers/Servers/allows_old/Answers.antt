use Rattle.std.proofs.Common.{ap, ◌∙◌}
use Rattle.svc_record.specs.Fits.{fits}
use Rattle.svc_handover.specs.Channel.{old_may}
use Rattle.svc_handover.proofs.RunLemmas.{fits-old, unfit, fit}
use Rattle.svc_handover.proofs.servers.Servers.allows_old.Goals as goal

pub returns-then-fits-clause-means : goal.returns-then-fits-clause-means
returns-then-fits-clause-means c p n before runs =
    fit c.fits.result (fits p runs.world.old c.args.event.now) c.old_may.result (old_may runs.world.channel c.args.event.now) c.if-fits.true
    (fits-old p n before c.args.self.now runs c.args.event.now c.fits.result c.fits.ensures.means)
    (c.old_may.ensures ∙ ap (λ x. old_may x c.args.event.now) runs.channel_is)

pub returns-else-fits-clause-means : goal.returns-else-fits-clause-means
returns-else-fits-clause-means c p n before runs =
    unfit c.fits.result (fits p runs.world.old c.args.event.now) (old_may runs.world.channel c.args.event.now) c.if-fits.false
    (fits-old p n before c.args.self.now runs c.args.event.now c.fits.result c.fits.ensures.means)
