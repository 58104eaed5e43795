-- What a server's services answer, and the plan that a server is run by.
use Rattle.std.specs.Prelude.{ℕ, Bool, false, ◌≡◌, ◌<◌, ◌≤◌, ◌+◌, ◌||◌, List, [], ◌∷◌, length, map, filter, All, Option, Some, None, IfSome, unwrap_or, Result, Ok, Err}
use Rattle.std.specs.List.{range_with_len}
use Rattle.svc_conf.specs.declared.server.configuration.ServerConf.{ServerConf}
use Rattle.svc_conf.specs.declared.server.configuration.Opt.{Opt}
use Rattle.svc_graph.specs.GraphData.{GraphData}
use Rattle.svc_graph.specs.Graphs.{node_count, is_edge}
use Rattle.svc_graph.specs.declared.plan.EndpointPlan.{EndpointPlan}
use Rattle.svc_graph.specs.declared.services.ServiceWithDependents.{Ghosts}
use Rattle.svc_record.specs.declared.plan.Plan.{Plan}
use Rattle.svc_record.specs.declared.plan.ServicePlan.{ServicePlan}
use Rattle.svc_server.specs.declared.run.Outcome.{Outcome}
use Rattle.svc_server.specs.declared.run.Outcome.TheVariants.{Served, TestPassed, Parent}
use Rattle.svc_server.specs.declared.run.RunError.{RunError}
use Rattle.svc_record.specs.Validity.{IsAddress}

-- what a service answers, by the meanings of its calls; what it depends on isn't among it
abbrev pub answer_of : {B : Type 0} → Ghosts B → B → ServicePlan
answer_of means b = record { name = means.named b; kind = means.of_kind b; depends = []; declared = means.declares b; endpoints = means.configures b }

-- what each of the services answers
abbrev pub answers_of : {B : Type 0} → Ghosts B → List B → List ServicePlan
answers_of means services = map (answer_of means) services

-- the nodes that s depends on, ascending
abbrev pub depends_of : GraphData → ℕ → List ℕ
depends_of g s = filter (is_edge g s) (range_with_len 0 (node_count g))

-- the services, numbered from s on, with what the graph says that each depends on
abbrev pub with_depends : GraphData → ℕ → List ServicePlan → List ServicePlan
with_depends g s [] = []
with_depends g s (x ∷ xs) = record x { depends = depends_of g s } ∷ with_depends g (s + 1) xs

-- the flags ask that the server takes over the sockets of an older one
abbrev pub is_upgrade : Option Opt → Bool
is_upgrade (Some opt) = opt.upgrade
is_upgrade None = false

-- the flags ask that the server only tests that it can start
abbrev pub is_test : Option Opt → Bool
is_test (Some opt) = opt.test
is_test None = false

-- the plan of a server: its services as they answer, their dependencies from the graph, whether it bootstraps before them, and the settings, with
-- what stands for those that are unset
abbrev pub plan_of : ServerConf → Option Opt → Bool → GraphData → List ServicePlan → Plan
plan_of conf options eager g answers = record {
  services = with_depends g 0 answers;
  grace = unwrap_or conf.grace_period_seconds 300;
  stop = unwrap_or conf.graceful_shutdown_timeout_seconds 5;
  tasks = conf.listener_tasks_per_fd;
  limit = unwrap_or conf.upgrade_sock_connect_accept_max_retries 5;
  upgrade = is_upgrade options;
  test = is_test options;
  eager = eager;
  daemon = conf.daemon;
  wait = conf.daemon_wait_for_ready;
  ready_timeout = unwrap_or conf.daemon_ready_timeout_seconds 600;
}

-- each filter that an endpoint of the service names is one of the first n
abbrev pub HasFilters : ℕ → ServicePlan → Type 0
HasFilters n s = All (λ (e : EndpointPlan). IfSome e.filter (λ f. f < n)) s.endpoints

-- what a server's own calls keep: the graph's nodes are its services, by number and name; each service keeps the limits and names only filters of the
-- server, which has so many
pub record IsSound (g : GraphData) (filters : ℕ) (answers : List ServicePlan) : Type 0 where
  pub names : g.names ≡ map (λ (x : ServicePlan). x.name) answers
  pub limits : All (λ (s : ServicePlan). (length s.endpoints ≤ 64) × All IsAddress s.endpoints) answers
  pub filtered : All (HasFilters filters) answers

-- the configuration with what the flags set in it
abbrev pub merged : Option Opt → ServerConf → ServerConf
merged (Some opt) conf = record conf { daemon = conf.daemon || opt.daemon }
merged None conf = conf

-- the status to end with after such an answer: the parent's, and else 0
abbrev pub status_of : Result Outcome RunError → Result ℕ RunError
status_of (Ok Served) = Ok 0
status_of (Ok TestPassed) = Ok 0
status_of (Ok (Parent n)) = Ok n
status_of (Err error) = Err error
