-- What adding a service to a server does.
use Rattle.std.specs.Prelude.{◌≡◌, [], ◌∷◌, ◌++◌, length, None, Result, IfOk, IfErr, OnOk, OnErr}
use Rattle.svc_graph.specs.Graphs.{node_count, with_node}
use Rattle.svc_graph.specs.HandleData.{HandleData}
use Rattle.svc_graph.specs.declared.services.ServiceWithDependents.{Ghosts}
use Rattle.svc_server.specs.declared.server.Server.{Server}
use Rattle.svc_server.specs.declared.server.refusals.AddRefused.{AddRefused}
use Rattle.svc_server.specs.Additions.{fault_of, IsReason}
use Rattle.svc_server.specs.Servers.{answer_of, answers_of, IsSound}

-- the service is taken exactly where no cause stands, want of memory aside; else the cause is told, the service comes back, and nothing changes
pub record AddsOne {B F : Type 0} (means : Ghosts B) (old new : Server B F) (service : B) (result : Result HandleData (AddRefused B)) : Type 0 where
  pub configuration : new.configuration ≡ old.configuration
  pub options : new.options ≡ old.options
  pub eager : new.eager ≡ old.eager
  pub filters : new.filters ≡ old.filters
  pub handle : IfOk result (λ handle. handle ≡ record { id = node_count old.dependencies; name = means.named service })
  pub added : OnOk result (new.services.items ≡ old.services.items ++ service ∷ [])
  pub node : OnOk result (new.dependencies ≡ with_node old.dependencies (means.named service))
  pub good : OnOk result (fault_of old.dependencies (length old.filters) (answer_of means service) ≡ None)
  pub cause : IfErr result (λ refused. IsReason (fault_of old.dependencies (length old.filters) (answer_of means service)) refused.reason)
  pub back : IfErr result (λ refused. refused.service ≡ service)
  pub same_services : OnErr result (new.services.items ≡ old.services.items)
  pub same_nodes : OnErr result (new.dependencies ≡ old.dependencies)
  pub sound : IsSound old.dependencies (length old.filters) (answers_of means old.services.items)
      → IsSound new.dependencies (length new.filters) (answers_of means new.services.items)
