-- The server that the jobs of a text are services of, and the plan that it is run by.
use Rattle.std.proofs.Common.{◌≡◌, ◌+◌, ◌<◌, ◌≤◌, inl, inr, ℕ, Bool, false, List, [], ◌∷◌, ◌++◌, length, map, take, filter, get_or, Option, Some, None, refl, ap, sym, ◌∙◌, arith}
use Rattle.std.specs.List.{range_with_len}
use Rattle.std.proofs.lemmas.List.{map-append, take_more, take_all}
use Rattle.std.proofs.lemmas.List.Elements.{filter_agree}
use Rattle.std.proofs.lemmas.Bool.{lt-leb}
use Rattle.svc_conf.specs.declared.server.configuration.ServerConf.{ServerConf}
use Rattle.svc_conf.specs.declared.server.configuration.Opt.{Opt}
use Rattle.svc_graph.specs.GraphData.{GraphData}
use Rattle.svc_graph.specs.Graphs.{is_edge, node_count, with_node}
use Rattle.svc_graph.specs.declared.plan.Kind.TheVariants.{Notifying}
use Rattle.svc_record.specs.declared.plan.ServicePlan.{ServicePlan}
use Rattle.svc_text.specs.declared.service.ServiceLine.{ServiceLine}
use Rattle.svc_text.specs.Dependencies.{edges_up_to}
use Rattle.svc_text.specs.Edges.{HasEdges}
use Rattle.svc_text.specs.Script.{Parts}
use Rattle.svc_text.specs.ScriptPlans as script
use Rattle.svc_text.proofs.EdgeLemmas.{HasNodes, nodes_more, nodes_start}
use Rattle.svc_server.specs.declared.server.refusals.AddError.{AddError}
use Rattle.svc_server.specs.declared.server.refusals.AddError.TheVariants.{NoMemory}
use Rattle.svc_server.specs.Additions.{fault_of, IsReason}
use Rattle.svc_server.specs.Servers.{depends_of, with_depends, plan_of, IsSound}
use Rattle.svc_jobs.specs.JobServices.{answered, job_service, services_from, plan_of_jobs, HasJobs, IsJobServer}

-- ---- the plan

-- a job depends on what the lines say
same_depends : (jobs : List ServiceLine) (g : GraphData) (s : ℕ) → HasEdges g (length jobs) (edges_up_to jobs (length jobs))
    → depends_of g s ≡ script.depends_of jobs s
same_depends jobs g s h =
    ap (λ (n : ℕ). filter (is_edge g s) (range_with_len 0 n)) h.count
    ∙ filter_agree (is_edge g s) (edges_up_to jobs (length jobs) s) (h.same s) (range_with_len 0 (length jobs))

same_services : (jobs : List ServiceLine) (g : GraphData) (s : ℕ) (xs : List ServiceLine) → HasEdges g (length jobs) (edges_up_to jobs (length jobs))
    → with_depends g s (map answered xs) ≡ services_from jobs s xs
same_services jobs g s [] h = refl
same_services jobs g s (x ∷ xs) h =
    ap (λ (ds : List ℕ). record (answered x) { depends = ds } ∷ with_depends g (s + 1) (map answered xs)) (same_depends jobs g s h)
    ∙ ap (λ (more : List ServicePlan). job_service jobs s x ∷ more) (same_services jobs g (s + 1) xs h)

-- the server of a text's jobs is run by the plan of the jobs
pub same_plan : (parts : Parts) (conf : ServerConf) (options : Option Opt) (eager : Bool) (g : GraphData) (filters : ℕ) (answers : List ServicePlan)
    → IsJobServer parts conf options eager g filters answers
    → plan_of conf options eager g answers ≡ plan_of_jobs parts
same_plan parts conf options eager g filters answers h =
    ap (λ (x : ServerConf). plan_of x options eager g answers) h.configuration
    ∙ ap (λ (x : Option Opt). plan_of parts.conf x eager g answers) h.flags
    ∙ ap (λ (x : Bool). plan_of parts.conf None x g answers) h.begins_at_once
    ∙ ap (plan_of parts.conf None false g) h.jobs.answers_are
    ∙ ap (λ (x : List ServicePlan). record (plan_of_jobs parts) { services = x }) (same_services parts.services g 0 parts.services h.jobs.edges)

-- ---- one job after the other

-- the services of the first k of the lines are in the server, without dependencies
pub record HasFirst (lines : List ServiceLine) (k : ℕ) (g : GraphData) (filters : ℕ) (answers : List ServicePlan) : Type 0 where
  pub answers_are : answers ≡ map answered (take k lines)
  pub nodes : HasNodes g k
  pub sound : IsSound g filters answers

pub first_more : {S : Type 0} (answer : S → ServicePlan) (lines : List ServiceLine) (k : ℕ) (line : ServiceLine) (g h : GraphData) (name : List ℕ)
    (filters others : ℕ) (services more : List S) (service : S) → HasFirst lines k g filters (map answer services)
    → k < length lines → line ≡ get_or lines k line → answer service ≡ answered line → h ≡ with_node g name → more ≡ services ++ service ∷ []
    → IsSound h others (map answer more) → HasFirst lines (k + 1) h others (map answer more)
first_more answer lines k line g h name filters others services more service old below read says made pushed sound = record {
  answers_are =
      ap (map answer) pushed
      ∙ map-append answer services (service ∷ [])
      ∙ ap (λ (xs : List ServicePlan). xs ++ answer service ∷ []) old.answers_are
      ∙ ap (λ (x : ServicePlan). map answered (take k lines) ++ x ∷ []) says
      ∙ sym (map-append answered (take k lines) (line ∷ []))
      ∙ ap (map answered) (sym (take_more lines k line below ∙ ap (λ (x : ServiceLine). take k lines ++ x ∷ []) (sym read)));
  nodes = nodes_more g h name k (k + 1) old.nodes refl made;
  sound = sound;
}

pub first_all : (lines : List ServiceLine) (k : ℕ) (g : GraphData) (filters : ℕ) (answers : List ServicePlan) → HasFirst lines k g filters answers
    → k ≡ length lines → HasJobs lines 0 g filters answers
first_all lines k g filters answers h all = record {
  answers_are = h.answers_are ∙ ap (map answered) (take_all k lines (omega arith));
  edges = nodes_start g lines k all h.nodes;
  sound = h.sound;
}

-- what a job's service of this name answers
abbrev pub named : List ℕ → ServicePlan
named name = record { name = name; kind = Notifying; depends = []; declared = Some []; endpoints = [] }

-- against a job's service no cause stands, where fewer than 1,024 services are there
no_cause : (name : List ℕ) (g : GraphData) (filters : ℕ) → node_count g < 1024 → fault_of g filters (named name) ≡ None
no_cause name g filters few = rw (lt-leb 1024 (node_count g) few) refl

-- so it is refused for want of memory alone
pub only_memory : (lines : List ServiceLine) (k : ℕ) (name : List ℕ) (g : GraphData) (filters : ℕ) (answers : List ServicePlan) (plan : ServicePlan)
    (reason : AddError) → length lines ≤ 1024 → HasFirst lines k g filters answers → k < length lines → plan ≡ named name
    → IsReason (fault_of g filters plan) reason → reason ≡ NoMemory
only_memory lines k name g filters answers plan reason all first lt says (inl memory) = memory
only_memory lines k name g filters answers plan reason all first lt says (inr stands) =
    absurd (let none = ap (fault_of g filters) says ∙ no_cause name g filters (omega (arith, first.nodes.count)) in cc)
