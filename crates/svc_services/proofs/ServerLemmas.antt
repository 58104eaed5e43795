-- The server that a script's services are in, and the plan that it is run by.
use Rattle.std.proofs.Common.{◌≡◌, ◌||◌, ℕ, Bool, false, List, [], ◌∷◌, ◌++◌, length, map, take, get_or, Option, Some, refl, ap, subst, sym, ◌∙◌, arith, ◌+◌, ◌<◌, ◌≤◌, filter, add-zero, zero-add}
use Rattle.std.specs.List.{range_with_len}
use Rattle.std.proofs.lemmas.List.{map-append, take_more, take_all, length-take-le}
use Rattle.std.proofs.lemmas.List.Elements.{filter_agree}
use Rattle.svc_conf.specs.declared.server.configuration.ServerConf.{ServerConf}
use Rattle.svc_conf.specs.declared.server.configuration.Opt.{Opt}
use Rattle.svc_conf.specs.ConfigurationText.{merged}
use Rattle.svc_text.specs.Script.{Parts}
use Rattle.svc_graph.specs.GraphData.{GraphData}
use Rattle.svc_graph.specs.Graphs.{is_edge, with_node}
use Rattle.svc_graph.specs.declared.plan.EndpointPlan.{EndpointPlan}
use Rattle.svc_record.specs.declared.plan.ServicePlan.{ServicePlan}
use Rattle.svc_text.specs.declared.service.EndpointLine.{EndpointLine}
use Rattle.svc_text.specs.declared.service.ServiceLine.{ServiceLine}
use Rattle.svc_text.specs.Dependencies.{edges_up_to}
use Rattle.svc_text.specs.Edges.{HasEdges}
use Rattle.svc_text.proofs.EdgeLemmas.{HasNodes, nodes_none, nodes_more, nodes_start}
use Rattle.svc_text.specs.Filters.{filter_number, blocked_lists}
use Rattle.svc_text.specs.ScriptPlans as script
use Rattle.svc_server.specs.Servers.{depends_of, with_depends, plan_of, IsSound}
use Rattle.svc_server.proofs.AddLemmas.{sound-filters}
use Rattle.svc_services.specs.declared.script_filter.ScriptFilter.{ScriptFilter}
use Rattle.svc_services.specs.BlockedLists.{blocked_by}
use Rattle.svc_services.specs.Filtered.{own_number}
use Rattle.svc_services.specs.Services.{answered, answers_by, HasServices, HasLines, IsServerOf, IsFilteredServerOf, with_filter, each_filtered, filtered_plan_of}

-- ---- the plan

-- a service depends on what the lines say
same_depends : (services : List ServiceLine) (g : GraphData) (s : ℕ) → HasEdges g (length services) (edges_up_to services (length services))
    → depends_of g s ≡ script.depends_of services s
same_depends services g s h =
    ap (λ (n : ℕ). filter (is_edge g s) (range_with_len 0 n)) h.count
    ∙ filter_agree (is_edge g s) (edges_up_to services (length services) s) (h.same s) (range_with_len 0 (length services))

-- the services' answers with their dependencies, each with the filter of this number
plans_by : (List ServiceLine → ServiceLine → Option ℕ) → List ServiceLine → ℕ → List ServiceLine → List ServicePlan
plans_by number services s [] = []
plans_by number services s (x ∷ xs) =
    record (answered (number (take s services) x) x) { depends = script.depends_of services s } ∷ plans_by number services (s + 1) xs

same_services : (number : List ServiceLine → ServiceLine → Option ℕ) (services : List ServiceLine) (g : GraphData) (s : ℕ) (xs : List ServiceLine)
    → HasEdges g (length services) (edges_up_to services (length services))
    → with_depends g s (answers_by number services s xs) ≡ plans_by number services s xs
unfolding plans_by
same_services number services g s [] h = refl
same_services number services g s (x ∷ xs) h =
    ap (λ (ds : List ℕ). record (answered (number (take s services) x) x) { depends = ds } ∷ with_depends g (s + 1) (answers_by number services (s + 1) xs))
    (same_depends services g s h)
    ∙ ap (λ (more : List ServicePlan). record (answered (number (take s services) x) x) { depends = script.depends_of services s } ∷ more)
    (same_services number services g (s + 1) xs h)

-- those of the services that block addresses are in the script's plan
script_plans : (services : List ServiceLine) (s : ℕ) (xs : List ServiceLine) → plans_by filter_number services s xs ≡ script.plans_from services s xs
unfolding plans_by
script_plans services s [] = refl
script_plans services s (x ∷ xs) = ap (λ (more : List ServicePlan). script.service_plan services s x ∷ more) (script_plans services (s + 1) xs)

-- an endpoint's filter is replaced
refiltered : (number : Option ℕ) (s : ℕ) (xs : List EndpointLine)
    → map (script.endpoint_of (Some s)) xs ≡ map (λ (e : EndpointPlan). record e { filter = Some s }) (map (script.endpoint_of number) xs)
refiltered number s [] = refl
refiltered number s (x ∷ xs) = ap (λ (more : List EndpointPlan). script.endpoint_of (Some s) x ∷ more) (refiltered number s xs)

-- those with a filter each
filtered_plans : (services : List ServiceLine) (s : ℕ) (xs : List ServiceLine) → s + length xs ≤ length services
    → plans_by own_number services s xs ≡ each_filtered s (script.plans_from services s xs)
unfolding plans_by
filtered_plans services s [] le = refl
filtered_plans services s (x ∷ xs) le =
    let count : length (take s services) ≡ s = length-take-le s services (omega arith) in
    ap (λ (n : ℕ). record (answered (Some n) x) { depends = script.depends_of services s } ∷ plans_by own_number services (s + 1) xs) count
    ∙ ap (λ (endpoints : List EndpointPlan). record (script.service_plan services s x) { endpoints = endpoints } ∷ plans_by own_number services (s + 1) xs)
    (refiltered (filter_number (take s services) x) s x.endpoints)
    ∙ ap (λ (more : List ServicePlan). with_filter s (script.service_plan services s x) ∷ more) (filtered_plans services (s + 1) xs (omega arith))

-- the server of a script is run by the plan of the script's parts with the flags
pub same_plan : (opt : Opt) (parts : Parts) (conf : ServerConf) (options : Option Opt) (eager : Bool) (g : GraphData) (filters : List ScriptFilter)
    (answers : List ServicePlan) → IsServerOf opt parts conf options eager g filters answers
    → plan_of conf options eager g answers ≡ script.plan_of opt parts
same_plan opt parts conf options eager g filters answers h =
    ap (λ (x : ServerConf). plan_of x options eager g answers) h.configuration
    ∙ ap (λ (x : Option Opt). plan_of (merged opt parts.conf) x eager g answers) h.flags
    ∙ ap (λ (x : Bool). plan_of (merged opt parts.conf) (Some opt) x g answers) h.boots_first
    ∙ ap (plan_of (merged opt parts.conf) (Some opt) parts.eager g) h.lines.services.answers_are
    ∙ ap (λ (x : List ServicePlan). record (script.plan_of opt parts) { services = x })
    (same_services filter_number parts.services g 0 parts.services h.lines.services.edges ∙ script_plans parts.services 0 parts.services)

-- that of a script each of whose services has a filter of its own is run by that plan with these filters
pub same_filtered_plan : (opt : Opt) (parts : Parts) (conf : ServerConf) (options : Option Opt) (eager : Bool) (g : GraphData) (filters : ℕ)
    (answers : List ServicePlan) → IsFilteredServerOf opt parts conf options eager g filters answers
    → plan_of conf options eager g answers ≡ filtered_plan_of opt parts
same_filtered_plan opt parts conf options eager g filters answers h =
    ap (λ (x : ServerConf). plan_of x options eager g answers) h.configuration
    ∙ ap (λ (x : Option Opt). plan_of (merged opt parts.conf) x eager g answers) h.flags
    ∙ ap (λ (x : Bool). plan_of (merged opt parts.conf) (Some opt) x g answers) h.boots_first
    ∙ ap (plan_of (merged opt parts.conf) (Some opt) parts.eager g) h.services.answers_are
    ∙ ap (λ (x : List ServicePlan). record (script.plan_of opt parts) { services = x })
    (same_services own_number parts.services g 0 parts.services h.services.edges ∙ filtered_plans parts.services 0 parts.services (omega arith))

-- a server with the script's services that was configured is the script's
pub server_is : (opt : Opt) (parts : Parts) (conf : ServerConf) (options : Option Opt) (before eager : Bool) (g h : GraphData)
    (filters others : List ScriptFilter) (answers more : List ServicePlan) → conf ≡ merged opt parts.conf → options ≡ Some opt
    → before ≡ false → eager ≡ (before || parts.eager) → h ≡ g → others ≡ filters → more ≡ answers
    → HasLines parts.services (length parts.services) g filters answers → IsServerOf opt parts conf options eager h others more
server_is opt parts conf options before eager g h filters others answers more c o b e same_graph same_filters same_answers lines = record {
  configuration = c;
  flags = o;
  boots_first = e ∙ ap (λ (x : Bool). x || parts.eager) b;
  lines = subst (λ (x : GraphData). HasLines parts.services (length parts.services) x others more) (sym same_graph)
      (subst (λ (fs : List ScriptFilter). HasLines parts.services (length parts.services) g fs more) (sym same_filters)
      (subst (HasLines parts.services (length parts.services) g filters) (sym same_answers) lines));
}

-- the same where each service has a filter of its own
pub filtered_server_is : (opt : Opt) (parts : Parts) (conf : ServerConf) (options : Option Opt) (before eager : Bool) (g h : GraphData)
    (filters others : ℕ) (answers more : List ServicePlan) → conf ≡ merged opt parts.conf → options ≡ Some opt
    → before ≡ false → eager ≡ (before || parts.eager) → h ≡ g → others ≡ filters → more ≡ answers
    → HasServices own_number parts.services (length parts.services) g filters answers → IsFilteredServerOf opt parts conf options eager h others more
filtered_server_is opt parts conf options before eager g h filters others answers more c o b e same_graph same_filters same_answers services = record {
  configuration = c;
  flags = o;
  boots_first = e ∙ ap (λ (x : Bool). x || parts.eager) b;
  services = subst (λ (x : GraphData). HasServices own_number parts.services (length parts.services) x others more) (sym same_graph)
      (subst (λ (n : ℕ). HasServices own_number parts.services (length parts.services) g n more) (sym same_filters)
      (subst (HasServices own_number parts.services (length parts.services) g filters) (sym same_answers) services));
}

-- ---- the graph and the services

-- only edges were added
pub with_edges : (number : List ServiceLine → ServiceLine → Option ℕ) (lines : List ServiceLine) (g h : GraphData) (filters : ℕ) (answers : List ServicePlan)
    → HasServices number lines 0 g filters answers → HasEdges h (length lines) (edges_up_to lines (length lines)) → h.names ≡ g.names
    → HasServices number lines (length lines) h filters answers
with_edges number lines g h filters answers old edges names = record {
  answers_are = old.answers_are;
  edges = edges;
  sound = record { names = names ∙ old.sound.names; limits = old.sound.limits; filtered = old.sound.filtered };
}

-- the services that block addresses have these filters
pub has_lines : (lines : List ServiceLine) (n : ℕ) (g : GraphData) (filters others : List ScriptFilter) (answers : List ServicePlan)
    → HasServices filter_number lines n g (length others) answers → others ≡ filters → map blocked_by filters ≡ blocked_lists lines
    → HasLines lines n g others answers
has_lines lines n g filters others answers services same blocked = record { services = services; filters_are = ap (map blocked_by) same ∙ blocked }

-- ---- one service after the other

-- the first k of the lines are in the server, without dependencies
pub record HasFirst (number : List ServiceLine → ServiceLine → Option ℕ) (lines : List ServiceLine) (k : ℕ) (g : GraphData) (filters : ℕ)
    (answers : List ServicePlan) : Type 0 where
  pub answers_are : answers ≡ answers_by number lines 0 (take k lines)
  pub nodes : HasNodes g k
  pub sound : IsSound g filters answers

-- one more line behind these
answers_push : (number : List ServiceLine → ServiceLine → Option ℕ) (lines : List ServiceLine) (s : ℕ) (xs : List ServiceLine) (x : ServiceLine)
    → answers_by number lines s (xs ++ x ∷ []) ≡ answers_by number lines s xs ++ answered (number (take (s + length xs) lines) x) x ∷ []
answers_push number lines s [] x = ap (λ (n : ℕ). answered (number (take n lines) x) x ∷ []) (sym (add-zero s))
answers_push number lines s (y ∷ ys) x =
    let e : (s + 1) + length ys ≡ s + length (y ∷ ys) = omega arith in
    ap (λ (more : List ServicePlan). answered (number (take s lines) y) y ∷ more)
    (answers_push number lines (s + 1) ys x
    ∙ ap (λ (n : ℕ). answers_by number lines (s + 1) ys ++ answered (number (take n lines) x) x ∷ []) e)

answers_more : (number : List ServiceLine → ServiceLine → Option ℕ) (lines : List ServiceLine) (k : ℕ) (line : ServiceLine) → k < length lines
    → line ≡ get_or lines k line
    → answers_by number lines 0 (take (k + 1) lines) ≡ answers_by number lines 0 (take k lines) ++ answered (number (take k lines) line) line ∷ []
answers_more number lines k line lt read =
    let cut : take (k + 1) lines ≡ take k lines ++ line ∷ [] = take_more lines k line lt ∙ ap (λ (x : ServiceLine). take k lines ++ x ∷ []) (sym read) in
    let count : 0 + length (take k lines) ≡ k = zero-add (length (take k lines)) ∙ length-take-le k lines (omega arith) in
    ap (answers_by number lines 0) cut ∙ answers_push number lines 0 (take k lines) line
    ∙ ap (λ (n : ℕ). answers_by number lines 0 (take k lines) ++ answered (number (take n lines) line) line ∷ []) count

pub first_none : {S : Type 0} (answer : S → ServicePlan) (number : List ServiceLine → ServiceLine → Option ℕ) (lines : List ServiceLine) (g : GraphData)
    (before filters : ℕ) (services : List S) → g ≡ record { names = []; depends = [] } → services ≡ [] → before ≡ 0 → IsSound g before (map answer services)
    → HasFirst number lines 0 g filters (map answer services)
first_none answer number lines g before filters services empty none bare sound = record {
  answers_are = ap (map answer) none;
  nodes = nodes_none g empty;
  sound = sound-filters g before filters (map answer services) (omega (arith, bare)) sound;
}

pub first_more : {S : Type 0} (answer : S → ServicePlan) (number : List ServiceLine → ServiceLine → Option ℕ) (lines : List ServiceLine) (k : ℕ)
    (line : ServiceLine) (g h : GraphData) (name : List ℕ) (filters others : ℕ) (services more : List S) (service : S)
    → HasFirst number lines k g filters (map answer services) → k < length lines → line ≡ get_or lines k line
    → answer service ≡ answered (number (take k lines) line) line → h ≡ with_node g name → more ≡ services ++ service ∷ []
    → IsSound h others (map answer more) → HasFirst number lines (k + 1) h others (map answer more)
first_more answer number lines k line g h name filters others services more service old below read says made pushed sound = record {
  answers_are =
      ap (map answer) pushed
      ∙ map-append answer services (service ∷ [])
      ∙ ap (λ (xs : List ServicePlan). xs ++ answer service ∷ []) old.answers_are
      ∙ ap (λ (x : ServicePlan). answers_by number lines 0 (take k lines) ++ x ∷ []) says
      ∙ sym (answers_more number lines k line below read);
  nodes = nodes_more g h name k (k + 1) old.nodes refl made;
  sound = sound;
}

pub first_all : (number : List ServiceLine → ServiceLine → Option ℕ) (lines : List ServiceLine) (k : ℕ) (g : GraphData) (filters : ℕ)
    (answers : List ServicePlan) → HasFirst number lines k g filters answers → k ≡ length lines → HasServices number lines 0 g filters answers
first_all number lines k g filters answers h all = record {
  answers_are = h.answers_are ∙ ap (answers_by number lines 0) (take_all k lines (omega arith));
  edges = nodes_start g lines k all h.nodes;
  sound = h.sound;
}
