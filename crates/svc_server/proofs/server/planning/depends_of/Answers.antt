use Rattle.std.proofs.Common.{◌∙◌}
use Rattle.svc_server.proofs.PlanLemmas.{depends_of-listed}
use Rattle.svc_server.proofs.server.planning.depends_of.Goals as goal

pub returns : goal.returns
returns c =
    let numbers = c.in_ok-get_dependencies.field-0.items in
    let said = c.in_ok-get_dependencies.ensures in
    c.list_of.ensures ∙ depends_of-listed c.args.graph.now c.args.s numbers said.graph said.order said.edges
