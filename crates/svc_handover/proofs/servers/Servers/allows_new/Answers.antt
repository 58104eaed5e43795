use Rattle.std.proofs.Common.{List, ap, ◌∙◌}
use Rattle.std.specs.Prelude.{reverse}
use Rattle.svc_record.specs.declared.entry.Entry.{Entry}
use Rattle.svc_record.specs.Record.{Record}
use Rattle.svc_record.specs.Fits.{fits}
use Rattle.svc_handover.specs.Channel.{new_may}
use Rattle.svc_handover.proofs.RunLemmas.{fits-new, unfit, fit}
use Rattle.svc_handover.proofs.servers.Servers.allows_new.Goals as goal

pub returns-then-fits-clause-means : goal.returns-then-fits-clause-means
returns-then-fits-clause-means c p n before runs = let e = c.args.event.now in
    fit c.fits.result (fits n runs.world.new e) c.new_may.result (new_may runs.world.channel runs.world.old e) c.if-fits.true
    (fits-new p n before c.args.self.now runs e c.fits.result c.fits.ensures.means)
    (c.new_may.ensures ∙ ap (λ x. new_may x (reverse c.as_slice.result.now) e) runs.channel_is
    ∙ ap (λ (q : Record). new_may runs.world.channel q e) (ap (λ (xs : List Entry). reverse xs) (c.as_slice.ensures ∙ c.entries.ensures) ∙ runs.old_is))

pub returns-else-fits-clause-means : goal.returns-else-fits-clause-means
returns-else-fits-clause-means c p n before runs =
    unfit c.fits.result (fits n runs.world.new c.args.event.now) (new_may runs.world.channel runs.world.old c.args.event.now) c.if-fits.false
    (fits-new p n before c.args.self.now runs c.args.event.now c.fits.result c.fits.ensures.means)
