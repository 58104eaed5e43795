-- The server that the jobs of a text are services of, and the plan that it is run by.
use Rattle.std.specs.Prelude.{ℕ, ◌≡◌, ◌+◌, Bool, false, List, [], ◌∷◌, length, map, Option, Some, None}
use Rattle.svc_conf.specs.declared.server.configuration.ServerConf.{ServerConf}
use Rattle.svc_conf.specs.declared.server.configuration.Opt.{Opt}
use Rattle.svc_graph.specs.GraphData.{GraphData}
use Rattle.svc_graph.specs.declared.plan.Kind.TheVariants.{Notifying}
use Rattle.svc_record.specs.declared.plan.Plan.{Plan}
use Rattle.svc_record.specs.declared.plan.ServicePlan.{ServicePlan}
use Rattle.svc_text.specs.declared.service.ServiceLine.{ServiceLine}
use Rattle.svc_text.specs.Dependencies.{edges_up_to}
use Rattle.svc_text.specs.Edges.{HasEdges}
use Rattle.svc_text.specs.Script.{Parts}
use Rattle.svc_text.specs.ScriptPlans.{depends_of, settled}
use Rattle.svc_server.specs.Servers.{IsSound}
use Rattle.svc_main.specs.Generator.{no_flags}

-- what the service of a job answers, of its line: it says by itself when it is ready, and listens nowhere
abbrev pub answered : ServiceLine → ServicePlan
answered x = record { name = x.name; kind = Notifying; depends = []; declared = Some []; endpoints = [] }

-- the service of job s, with the jobs that it depends on
abbrev pub job_service : List ServiceLine → ℕ → ServiceLine → ServicePlan
job_service jobs s x = record (answered x) { depends = depends_of jobs s }

-- the services of the jobs from s on, of their lines
abbrev pub services_from : List ServiceLine → ℕ → List ServiceLine → List ServicePlan
services_from jobs s [] = []
services_from jobs s (x ∷ xs) = job_service jobs s x ∷ services_from jobs (s + 1) xs

-- the plan of jobs, as the services of a script's parts, with the script's configuration and no flags
abbrev pub plan_of_jobs : Parts → Plan
plan_of_jobs parts = settled parts.conf no_flags false (services_from parts.services 0 parts.services)

-- the services of the jobs of these lines are in the server, in order; the graph has the dependencies of the first n
pub record HasJobs (lines : List ServiceLine) (n : ℕ) (graph : GraphData) (filters : ℕ) (answers : List ServicePlan) : Type 0 where
  pub answers_are : answers ≡ map answered lines
  pub edges : HasEdges graph (length lines) (edges_up_to lines n)
  pub sound : IsSound graph filters answers

-- the server is that of a text's jobs: it has the text's configuration and no flags, and its services with their dependencies
pub record IsJobServer (parts : Parts) (conf : ServerConf) (options : Option Opt) (eager : Bool) (graph : GraphData) (filters : ℕ)
    (answers : List ServicePlan) : Type 0 where
  pub configuration : conf ≡ parts.conf
  pub flags : options ≡ None
  pub begins_at_once : eager ≡ false
  pub jobs : HasJobs parts.services (length parts.services) graph filters answers
