-- What the services answer.
use Rattle.std.specs.Prelude.{ℕ, List, [], None, false}
use Rattle.svc_graph.specs.declared.plan.Kind.{Kind}
use Rattle.svc_graph.specs.declared.plan.Kind.TheVariants as kinds
use Rattle.svc_graph.specs.declared.plan.EndpointPlan.{EndpointPlan}
use Rattle.svc_hello.specs.declared.services.Work.{Work}
use Rattle.svc_hello.specs.declared.services.Work.TheVariants as works

-- how a service with this work becomes ready
abbrev pub kind_of : Work → Kind
kind_of (works.Cache loaded wanted) = kinds.Notifying
kind_of works.Web = kinds.Plain

-- a TCP endpoint at this address, without options and without a filter
abbrev pub endpoint_at : List ℕ → EndpointPlan
endpoint_at address = record { address = address; unix = false; options = []; filter = None }
