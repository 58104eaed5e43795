use Rattle.svc_text.proofs.EdgeLemmas.{refused_some}
use Rattle.svc_text.specs.Filters.{filter_number}
use Rattle.svc_services.proofs.AcceptedLemmas.{enough_filters}
use Rattle.svc_services.proofs.ServerLemmas.{with_edges, has_lines}
use Rattle.svc_services.proofs.services.server_of_services.Goals as goal

pub server_of-requires-clause-enough : goal.server_of-requires-clause-enough
server_of-requires-clause-enough c = enough_filters c.args.lines.now _ c.in_ok-filters.ensures

pub unreachable-requires : goal.unreachable-requires
unreachable-requires c = refused_some _ _ (rw c.in-Ok-Some.field-0-is at c.in-Ok-Some.ensures.refused) c.requires.edges

pub returns-in-Ok-None-clause-lines : goal.returns-in-Ok-None-clause-lines
returns-in-Ok-None-clause-lines c =
    has_lines c.args.lines.now _ _ _ _ _
    (with_edges filter_number c.args.lines.now _ _ _ _ c.in_ok-server.ensures.services (rw c.in-Ok-None.field-0-is at c.in-Ok-None.ensures.added)
    c.add_dependencies.ensures.names)
    c.in_ok-server.ensures.filters c.in_ok-filters.ensures
