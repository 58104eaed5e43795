-- The server that a script's services are in.
use Rattle.std.specs.Prelude.{◌≡◌, ℕ, ◌+◌, Bool, List, [], ◌∷◌, length, map, take, Option, Some}
use Rattle.svc_conf.specs.declared.server.configuration.ServerConf.{ServerConf}
use Rattle.svc_conf.specs.declared.server.configuration.Opt.{Opt}
use Rattle.svc_conf.specs.ConfigurationText.{merged}
use Rattle.svc_text.specs.Script.{Parts}
use Rattle.svc_graph.specs.GraphData.{GraphData}
use Rattle.svc_graph.specs.declared.plan.EndpointPlan.{EndpointPlan}
use Rattle.svc_record.specs.declared.plan.Plan.{Plan}
use Rattle.svc_record.specs.declared.plan.ServicePlan.{ServicePlan}
use Rattle.svc_text.specs.declared.service.ServiceLine.{ServiceLine}
use Rattle.svc_text.specs.Filters.{filter_number, blocked_lists}
use Rattle.svc_text.specs.ScriptPlans as script
use Rattle.svc_text.specs.Dependencies.{edges_up_to}
use Rattle.svc_text.specs.Edges.{HasEdges}
use Rattle.svc_server.specs.Servers.{IsSound}
use Rattle.svc_services.specs.declared.script_filter.ScriptFilter.{ScriptFilter}
use Rattle.svc_services.specs.BlockedLists.{blocked_by}
use Rattle.svc_services.specs.Filtered.{own_number}

-- what a service with this filter answers, of its line
abbrev pub answered : Option ℕ → ServiceLine → ServicePlan
answered number x = record {
  name = x.name;
  kind = x.kind;
  depends = [];
  declared = script.declared_of x;
  endpoints = map (script.endpoint_of number) x.endpoints;
}

-- what the services of these lines answer, from number s on, where a service behind others has the filter with this number
abbrev pub answers_by : (List ServiceLine → ServiceLine → Option ℕ) → List ServiceLine → ℕ → List ServiceLine → List ServicePlan
answers_by number lines s [] = []
answers_by number lines s (x ∷ xs) = answered (number (take s lines) x) x ∷ answers_by number lines (s + 1) xs

-- the services of these lines are in the server, in order, with filters by these numbers; the graph has the dependencies of the first n
pub record HasServices (number : List ServiceLine → ServiceLine → Option ℕ) (lines : List ServiceLine) (n : ℕ) (graph : GraphData) (filters : ℕ)
    (answers : List ServicePlan) : Type 0 where
  pub answers_are : answers ≡ answers_by number lines 0 lines
  pub edges : HasEdges graph (length lines) (edges_up_to lines n)
  pub sound : IsSound graph filters answers

-- the same with the filters of those that block addresses
pub record HasLines (lines : List ServiceLine) (n : ℕ) (graph : GraphData) (filters : List ScriptFilter) (answers : List ServicePlan) : Type 0 where
  pub services : HasServices filter_number lines n graph (length filters) answers
  pub filters_are : map blocked_by filters ≡ blocked_lists lines

-- the server is that of a script's parts with these flags: it has the script's configuration with the flags, its services with their dependencies and
-- filters, and bootstraps first where the script says so
pub record IsServerOf (opt : Opt) (parts : Parts) (conf : ServerConf) (options : Option Opt) (eager : Bool) (graph : GraphData) (filters : List ScriptFilter)
    (answers : List ServicePlan) : Type 0 where
  pub configuration : conf ≡ merged opt parts.conf
  pub flags : options ≡ Some opt
  pub boots_first : eager ≡ parts.eager
  pub lines : HasLines parts.services (length parts.services) graph filters answers

-- the same of a server each of whose services has a filter of its own
pub record IsFilteredServerOf (opt : Opt) (parts : Parts) (conf : ServerConf) (options : Option Opt) (eager : Bool) (graph : GraphData) (filters : ℕ)
    (answers : List ServicePlan) : Type 0 where
  pub configuration : conf ≡ merged opt parts.conf
  pub flags : options ≡ Some opt
  pub boots_first : eager ≡ parts.eager
  pub services : HasServices own_number parts.services (length parts.services) graph filters answers

-- the service with the filter of this number at each endpoint
abbrev pub with_filter : ℕ → ServicePlan → ServicePlan
with_filter number x = record x { endpoints = map (λ (e : EndpointPlan). record e { filter = Some number }) x.endpoints }

-- these services, from number s on, each with the filter of its own number
abbrev pub each_filtered : ℕ → List ServicePlan → List ServicePlan
each_filtered s [] = []
each_filtered s (x ∷ xs) = with_filter s x ∷ each_filtered (s + 1) xs

-- the plan of a script's parts with flags, where each service has the filter of its own number
abbrev pub filtered_plan_of : Opt → Parts → Plan
filtered_plan_of opt parts = record (script.plan_of opt parts) { services = each_filtered 0 (script.plans_from parts.services 0 parts.services) }
