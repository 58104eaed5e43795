use Rattle.std.proofs.Common.{false, refl, ap, ◌∙◌}
use Rattle.std.specs.Option.{option_copied, option_map}
use Rattle.svc_record.specs.Fits.{fits}
use Rattle.svc_handover.specs.Channel.{old_may}
use Rattle.svc_base.proofs.Logic.{clash}
use Rattle.svc_supervisor.specs.Chains.{before_may, channel_to}
use Rattle.svc_supervisor.specs.Generations.{history, data_of}
use Rattle.svc_supervisor.proofs.PlaceLemmas.{fits-here, come-unfit, come-held, come-next}
use Rattle.svc_supervisor.proofs.generation.may_come.Goals as goal

pub returns-then-not-fits-clause-may : goal.returns-then-not-fits-clause-may
returns-then-not-fits-clause-may c h = absurd (clash false h refl)

pub returns-then-not-fits-clause-means : goal.returns-then-not-fits-clause-means
returns-then-not-fits-clause-means c all = let g = c.args.generation.now in
    come-unfit c.fits.result (fits g.session.core.plan (history g) c.args.event.now) _ c.if-not-fits.true
    (fits-here g c.args.event.now c.fits.result c.fits.ensures.means all.here)

pub returns-then-not-before_may-clause-may : goal.returns-then-not-before_may-clause-may
returns-then-not-before_may-clause-may c h = absurd (clash false h refl)

pub returns-then-not-before_may-clause-means : goal.returns-then-not-before_may-clause-means
returns-then-not-before_may-clause-means c all =
    come-held c.before_may.result _
    (before_may (option_map data_of (option_copied c.args.before)) (data_of c.args.generation.now) c.args.event.now) _ c.if-not-before_may.true
    (c.before_may.ensures (record { earlier = all.earlier; here = all.here; later = tt }))

pub returns-clause-may : goal.returns-clause-may
returns-clause-may c h = c.fits.ensures.may.0 c.if-not-fits.false

pub returns-clause-means : goal.returns-clause-means
returns-clause-means c all = let g = c.args.generation.now in let e = c.args.event.now in
    come-next c.fits.result (fits g.session.core.plan (history g) e) c.before_may.result
    (before_may (option_map data_of (option_copied c.args.before)) (data_of g) e) c.old_may.result
    (old_may (channel_to (data_of g) (option_map data_of (option_copied c.args.next))) e)
    c.if-not-fits.false (fits-here g e c.fits.result c.fits.ensures.means all.here)
    c.if-not-before_may.false (c.before_may.ensures (record { earlier = all.earlier; here = all.here; later = tt }))
    (c.old_may.ensures ∙ ap (λ x. old_may x e) (c.channel_to.ensures (record { earlier = tt; here = all.here; later = all.later })))
