use Rattle.std.proofs.Common.{◌&&◌, ap, sym, ◌∙◌, if◌then◌else◌}
use Rattle.svc_record.specs.Fits.{fits}
use Rattle.svc_handover.specs.Channel.{old_may, new_may}
use Rattle.svc_handover.proofs.servers.Servers.allows.Goals as goal

pub returns-then-step-clause-means : goal.returns-then-step-clause-means
returns-then-step-clause-means c p n before runs = let e = c.args.step.now.event in
    c.allows_old.ensures.means p n before runs
    ∙ sym (ap (λ b. if b then fits p runs.world.old e && old_may runs.world.channel e else fits n runs.world.new e
    && new_may runs.world.channel runs.world.old e) c.if-step.true)

pub returns-else-step-clause-means : goal.returns-else-step-clause-means
returns-else-step-clause-means c p n before runs = let e = c.args.step.now.event in
    c.allows_new.ensures.means p n before runs
    ∙ sym (ap (λ b. if b then fits p runs.world.old e && old_may runs.world.channel e else fits n runs.world.new e
    && new_may runs.world.channel runs.world.old e) c.if-step.false)
