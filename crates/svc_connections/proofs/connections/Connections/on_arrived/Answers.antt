use Rattle.std.proofs.Common.{ap, ◌∙◌}
use Rattle.svc_connections.specs.ConnectionsEffects.{taken_in}
use Rattle.svc_connections.proofs.Arrivals.{after-arrived}
use Rattle.svc_connections.proofs.connections.Connections.on_arrived.Goals as goal

pub returns-then-refused-clause-stands : goal.returns-then-refused-clause-stands
returns-then-refused-clause-stands c =
    λ p s i q is_list unfiltered w. after-arrived p c.args.self.now.parts _ q s i c.args.c c.args.peer.now c.args.said c.args.settings
    (c.take_in.ensures.after ∙ ap (λ b. taken_in c.args.c b c.args.self.now.parts) c.is_refused-refused.ensures) c.requires.new is_list unfiltered w

pub returns-else-refused-clause-stands : goal.returns-else-refused-clause-stands
returns-else-refused-clause-stands c =
    λ p s i q is_list unfiltered w. after-arrived p c.args.self.now.parts _ q s i c.args.c c.args.peer.now c.args.said c.args.settings
    (c.take_in.ensures.after ∙ ap (λ b. taken_in c.args.c b c.args.self.now.parts) c.is_refused-refused.ensures) c.requires.new is_list unfiltered w
