-- The plan that a script's services are run by.
use Rattle.std.specs.Prelude.{ℕ, Bool, ◌+◌, List, [], ◌∷◌, ◌++◌, length, map, take, filter, Option, Some, None, unwrap_or, if◌then◌else◌}
use Rattle.std.specs.List.{range_with_len}
use Rattle.svc_conf.specs.declared.server.configuration.ServerConf.{ServerConf}
use Rattle.svc_conf.specs.declared.server.configuration.Opt.{Opt}
use Rattle.svc_conf.specs.ConfigurationText.{merged}
use Rattle.svc_graph.specs.declared.plan.EndpointPlan.{EndpointPlan}
use Rattle.svc_record.specs.declared.plan.ServicePlan.{ServicePlan}
use Rattle.svc_record.specs.declared.plan.Plan.{Plan}
use Rattle.svc_text.specs.declared.service.EndpointLine.{EndpointLine}
use Rattle.svc_text.specs.declared.service.ServiceLine.{ServiceLine}
use Rattle.svc_text.specs.Dependencies.{edges_up_to}
use Rattle.svc_text.specs.Filters.{filter_number}
use Rattle.svc_text.specs.Script.{Parts}

-- the endpoint of a line, with the options of the line and its service's filter
abbrev pub endpoint_of : Option ℕ → EndpointLine → EndpointPlan
endpoint_of number e = record { address = e.address; unix = e.unix; options = e.options; filter = number }

-- the addresses of a line's endpoints, in order
abbrev pub addresses_of : ServiceLine → List (List ℕ)
addresses_of x = map (λ (e : EndpointLine). e.address) x.endpoints

-- the services that service s names as its dependencies, ascending
abbrev pub depends_of : List ServiceLine → ℕ → List ℕ
depends_of services s = filter (edges_up_to services (length services) s) (range_with_len 0 (length services))

-- what a line declares: its endpoints' addresses and its claims, unless it doesn't declare its addresses
abbrev pub declared_of : ServiceLine → Option (List (List ℕ))
declared_of x = if x.undeclared then None else Some (addresses_of x ++ x.claims)

-- service s, of its line
abbrev pub service_plan : List ServiceLine → ℕ → ServiceLine → ServicePlan
service_plan services s x = record {
  name = x.name;
  kind = x.kind;
  depends = depends_of services s;
  declared = declared_of x;
  endpoints = map (endpoint_of (filter_number (take s services) x)) x.endpoints;
}

-- the services from s on, of their lines
abbrev pub plans_from : List ServiceLine → ℕ → List ServiceLine → List ServicePlan
plans_from services s [] = []
plans_from services s (x ∷ xs) = service_plan services s x ∷ plans_from services (s + 1) xs

-- the plan of these services with a configuration and flags, with what stands for the settings that are unset
abbrev pub settled : ServerConf → Opt → Bool → List ServicePlan → Plan
settled conf opt eager services = record {
  services = services;
  grace = unwrap_or conf.grace_period_seconds 300;
  stop = unwrap_or conf.graceful_shutdown_timeout_seconds 5;
  tasks = conf.listener_tasks_per_fd;
  limit = unwrap_or conf.upgrade_sock_connect_accept_max_retries 5;
  upgrade = opt.upgrade;
  test = opt.test;
  eager = eager;
  daemon = conf.daemon;
  wait = conf.daemon_wait_for_ready;
  ready_timeout = unwrap_or conf.daemon_ready_timeout_seconds 600;
}

-- the plan of a script's parts with flags
abbrev pub plan_of : Opt → Parts → Plan
plan_of opt parts = settled (merged opt parts.conf) opt parts.eager (plans_from parts.services 0 parts.services)
