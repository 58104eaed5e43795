-- The plan of a server: what it says of each service, and that a server can be run by it.
use Rattle.std.proofs.Common.{ℕ, zero, suc, Bool, true, false, ◌||◌, ◌&&◌, ◌==◌, List, [], ◌∷◌, ◌++◌, ◌≡◌, refl, sym, ◌∙◌, ap, subst, inl, inr, arith, ◌+◌, ◌<◌, ◌≤◌, nat_lt, length, map, filter, take, slice_index, get_or, All}
use Rattle.std.specs.Prelude.{Option, Some, None, IfSome, Result, Ok, Err, slice_get, unwrap_or, if◌then◌else◌}
use Rattle.std.specs.List.{range_with_len}
use Rattle.std.specs.List.Sorted.{IsStrictlyIncreasing}
use Rattle.std.proofs.lemmas.Bool.{eq-eqb, ne_eqb, cases_eq, lt-ltb}
use Rattle.std.proofs.lemmas.Option.{slice_get_cases, slice_get_within, get_or_from_slice_get, same_Some}
use Rattle.std.proofs.lemmas.List.{length-map, length-take-le, map_more, get_or_past}
use Rattle.std.proofs.lemmas.List.Elements.{filter_passes}
use Rattle.svc_graph.specs.GraphData.{GraphData}
use Rattle.svc_graph.specs.Graphs.{node_count, is_edge, is_listed, row_of, IsGraph}
use Rattle.svc_graph.proofs.Chains.{acyclic-within}
use Rattle.svc_graph.proofs.Lists.{All-listed}
use Rattle.svc_graph.specs.declared.plan.Kind.{Kind}
use Rattle.svc_graph.specs.declared.plan.EndpointPlan.{EndpointPlan}
use Rattle.svc_record.specs.declared.plan.Plan.{Plan}
use Rattle.svc_record.specs.declared.plan.ServicePlan.{ServicePlan}
use Rattle.svc_record.specs.Plans.{service_count, depends, filter_of}
use Rattle.svc_record.specs.Validity.{IsAddress, IsValid, depends_on}
use Rattle.svc_record.specs.Building.{DependsWell, IsGraphUpTo}
use Rattle.svc_record.proofs.ValidLemmas.{valid-plan}
use Rattle.svc_conf.specs.declared.server.configuration.ServerConf.{ServerConf}
use Rattle.svc_conf.specs.declared.server.configuration.Opt.{Opt}
use Rattle.svc_conf.specs.declared.server.configuration.key.Key.{Key}
use Rattle.svc_conf.specs.declared.server.configuration.key.Key.TheVariants.{ListenerTasksPerFd}
use Rattle.svc_conf.specs.Configuration.{judged, first_broken, rules_of}
use Rattle.svc_graph.specs.declared.services.ServiceWithDependents.{Ghosts}
use Rattle.svc_server.specs.Judges.{NamesFilters}
use Rattle.svc_server.specs.Runs.{names_of}
use Rattle.svc_server.specs.Servers.{answer_of, answers_of, depends_of, with_depends, is_upgrade, is_test, plan_of, HasFilters, IsSound}

abbrev some : ServicePlan → Option ServicePlan
some x = Some x

-- ---- the configuration

not_broken : (b : Bool) (k : Key) (rest : Result (Unit {0}) Key) → (if b then Err k else rest) ≡ Ok tt → (b ≡ false) × (rest ≡ Ok tt)
not_broken true k rest e = absurd (cc)
not_broken false k rest e = (refl, e)

-- a configuration is accepted only where each rule is kept
rule_kept : (rules : List (Bool × Key)) (k : ℕ) (rule : Bool × Key) → first_broken rules ≡ Ok tt → slice_get rules k ≡ Some rule → rule.0 ≡ false
rule_kept [] k rule accepted at = absurd (cc)
rule_kept ((broken, key) ∷ more) zero rule accepted at =
    ap (λ (r : Bool × Key). r.0) (sym (same_Some (broken, key) rule at)) ∙ (not_broken broken key (first_broken more) accepted).0
rule_kept ((broken, key) ∷ more) (suc k) rule accepted at = rule_kept more k rule (not_broken broken key (first_broken more) accepted).1 at

-- an accepted configuration has an accept loop for each descriptor
judged-tasks : (conf : ServerConf) → judged conf ≡ Ok tt → 0 < conf.listener_tasks_per_fd
judged-tasks conf accepted =
    some_tasks conf.listener_tasks_per_fd (rule_kept (rules_of conf) 4 (conf.listener_tasks_per_fd == 0, ListenerTasksPerFd) accepted refl)
  where
    some_tasks : (n : ℕ) → (n == 0) ≡ false → 0 < n
    some_tasks zero e = absurd (cc)
    some_tasks (suc n) e = omega arith

-- ---- a list in ascending order, by what is listed

-- the numbers rise, from at least lo on
abbrev Rises : ℕ → List ℕ → Type 0
Rises lo [] = Unit {0}
Rises lo (x ∷ xs) = (lo ≤ x) × Rises (suc x) xs

rises-from : (lo x : ℕ) (xs : List ℕ) → lo ≤ x → IsStrictlyIncreasing (x ∷ xs) → Rises lo (x ∷ xs)
rises-from lo x [] le up = (le, tt)
rises-from lo x (y ∷ ys) le up =
    let next : x < y = up 0 (omega arith) in (
      le,
      rises-from (suc x) y ys (omega arith) (λ k lt. (
          let same : suc k + 1 ≡ suc (k + 1) = omega arith in
          subst (λ n. slice_index (x ∷ y ∷ ys) (suc k) < slice_index (x ∷ y ∷ ys) n) same (up (suc k) (omega arith)))),
    )

rises : (xs : List ℕ) → IsStrictlyIncreasing xs → Rises 0 xs
rises [] up = tt
rises (x ∷ xs) up = rises-from 0 x xs (omega arith) up

-- what lies below isn't listed
unlisted_below : (lo : ℕ) (xs : List ℕ) (a : ℕ) → Rises lo xs → a < lo → is_listed xs a ≡ false
unlisted_below lo [] a up lt = refl
unlisted_below lo (x ∷ xs) a up lt =
    let apart : (x == a) ≡ false = ne_eqb x a (omega arith) in
    rw apart (unlisted_below (suc x) xs a up.1 (omega arith))

or_after : (b c : Bool) → b ≡ false → (b || c) ≡ c
or_after true c e = absurd (cc)
or_after false c e = refl

-- the numbers from lo on that pass are those that are listed
listed-filter : (p : ℕ → Bool) (n lo : ℕ) (xs : List ℕ) → Rises lo xs → ((a : ℕ) → lo ≤ a → is_listed xs a ≡ p a) → ((a : ℕ) → p a ≡ true → a < lo + n)
    → xs ≡ filter p (range_with_len lo n)
listed-filter p zero lo [] up same few = refl
listed-filter p zero lo (x ∷ xs) up same few =
    let here : p x ≡ true = sym (same x up.0) ∙ rw (eq-eqb x x refl) refl in
    absurd (omega (arith, few x here, up.0))
listed-filter p (suc n) lo [] up same few =
    let none : p lo ≡ false = sym (same lo (omega arith)) in
    rw none (listed-filter p n (lo + 1) [] tt (λ a le. same a (omega arith)) (λ a e. omega (arith, few a e)))
listed-filter p (suc n) lo (x ∷ xs) up same few =
    elim (cases_eq x lo) [
      | inl here ↦ (
          let first : p lo ≡ true = sym (same lo (omega arith)) ∙ rw (eq-eqb x lo here) refl in
          let rest : xs ≡ filter p (range_with_len (lo + 1) n) =
          listed-filter p n (lo + 1) xs (subst (λ k. Rises k xs) (omega arith) up.1)
          (λ a le. sym (or_after (x == a) (is_listed xs a) (ne_eqb x a (omega arith))) ∙ same a (omega arith))
          (λ a e. omega (arith, few a e)) in
          rw first (ap (λ k. k ∷ xs) here ∙ ap (λ ys. lo ∷ ys) rest))
      | inr past ↦ (
          let later : lo + 1 ≤ x = omega (arith, up.0) in
          let none : p lo ≡ false = sym (same lo (omega arith)) ∙ unlisted_below (lo + 1) (x ∷ xs) lo (later, up.1) (omega arith) in
          rw none (listed-filter p n (lo + 1) (x ∷ xs) (later, up.1) (λ a le. same a (omega arith)) (λ a e. omega (arith, few a e))))
    ]

edge_inside : (g : GraphData) (s a : ℕ) → IsGraph g → is_edge g s a ≡ true → a < node_count g
edge_inside g s a graph e = All-listed (λ b. b < node_count g) (row_of g.depends s) a (graph.inside s) e

edge_from : (g : GraphData) (a b : ℕ) → IsGraph g → is_edge g a b ≡ true → a < node_count g
edge_from g a b graph e =
    elim (slice_get_cases g.depends a).1 [
      | inl at ↦ omega (arith, at.1, graph.rows)
      | inr past ↦ absurd (let none : is_edge g a b ≡ false = ap (λ (row : List ℕ). is_listed row b) (get_or_past g.depends a [] past.0) in cc)
    ]

or_true : (b c : Bool) → c ≡ true → (b || c) ≡ true
or_true true c e = refl
or_true false c e = e

-- one is true exactly where both others are
same_where : (e x y : Bool) → (e ≡ true → (x ≡ true) × (y ≡ true)) → (x ≡ true → y ≡ true → e ≡ true) → e ≡ (x && y)
same_where true x y there back = let both = there refl in rw both.0 (sym both.1)
same_where false true true there back = absurd (let on : false ≡ true = back refl refl in cc)
same_where false true false there back = refl
same_where false false y there back = refl

-- the rising list of the nodes that s depends on is the one that the plan has
pub depends_of-listed : (g : GraphData) (s : ℕ) (xs : List ℕ) → IsGraph g → IsStrictlyIncreasing xs → ((a : ℕ) → is_listed xs a ≡ is_edge g s a)
    → xs ≡ depends_of g s
depends_of-listed g s xs graph up same =
    listed-filter (is_edge g s) (node_count g) 0 xs (rises xs up) (λ a le. same a) (λ a e. omega (arith, edge_inside g s a graph e))

-- ---- one service more

pub with_depends-push : (g : GraphData) (s : ℕ) (xs : List ServicePlan) (x : ServicePlan) (k : ℕ) → s + length xs ≡ k
    → with_depends g s (xs ++ x ∷ []) ≡ with_depends g s xs ++ (record x { depends = depends_of g k }) ∷ []
with_depends-push g s [] x k at = let same : s ≡ k = omega arith in ap (λ (n : ℕ). with_depends g n (x ∷ [])) same
with_depends-push g s (y ∷ ys) x k at = ap (λ rest. (record y { depends = depends_of g s }) ∷ rest) (with_depends-push g (s + 1) ys x k (omega arith))

pub same_plan : (n m : List ℕ) (k j : Kind) (ds es : List ℕ) (a b : Option (List (List ℕ))) (xs ys : List EndpointPlan) → n ≡ m → k ≡ j → ds ≡ es → a ≡ b
    → xs ≡ ys
    → ◌≡◌ {A = ServicePlan} (record { name = n; kind = k; depends = ds; declared = a; endpoints = xs })
    (record { name = m; kind = j; depends = es; declared = b; endpoints = ys })
same_plan n m k j ds es a b xs ys e f h i l = cc

-- a loop's step: the next service is planned
pub plans-more : {B : Type 0} (g : GraphData) (answer : B → ServicePlan) (services : List B) (s : ℕ) (b : B) (plans now : List ServicePlan) (plan : ServicePlan)
    → s < length services → b ≡ get_or services s b
    → plans ≡ with_depends g 0 (map answer (take s services)) → plan ≡ record (answer b) { depends = depends_of g s } → now ≡ plans ++ plan ∷ []
    → now ≡ with_depends g 0 (map answer (take (s + 1) services))
plans-more {B = B} g answer services s b plans now plan lt read before is pushed =
    pushed
    ∙ ap (λ (ps : List ServicePlan). ps ++ plan ∷ []) before
    ∙ ap (λ (x : ServicePlan). with_depends g 0 (map answer (take s services)) ++ x ∷ []) is
    ∙ sym (with_depends-push g 0 (map answer (take s services)) (answer b) s
    (omega (arith, length-map (take s services) answer, length-take-le s services (omega arith))))
    ∙ ap (λ (y : B). with_depends g 0 (map answer (take s services) ++ answer y ∷ [])) read
    ∙ ap (λ (xs : List ServicePlan). with_depends g 0 xs) (sym (map_more answer services s b lt))

-- ---- what the plan says of each service

length-with_depends : (g : GraphData) (s : ℕ) (xs : List ServicePlan) → length (with_depends g s xs) ≡ length xs
length-with_depends g s [] = refl
length-with_depends g s (x ∷ xs) = ap (λ n. suc n) (length-with_depends g (s + 1) xs)

-- what holds of each service whatever it depends on holds with its dependencies too
All-with_depends : (P : ServicePlan → Type 0) → ((x : ServicePlan) (ds : List ℕ) → P x → P (record x { depends = ds }))
    → (g : GraphData) (s : ℕ) (xs : List ServicePlan) → All P xs → All P (with_depends g s xs)
All-with_depends P kept g s [] all k d lt = absurd (omega arith)
All-with_depends P kept g s (x ∷ xs) all zero d lt = kept x (depends_of g s) (all zero d (omega arith))
All-with_depends P kept g s (x ∷ xs) all (suc k) d lt = All-with_depends P kept g (s + 1) xs (λ j e l. all (suc j) e (omega arith)) k d (omega arith)

pub names-with_depends : (g : GraphData) (s : ℕ) (xs : List ServicePlan)
    → map (λ (x : ServicePlan). x.name) (with_depends g s xs) ≡ map (λ (x : ServicePlan). x.name) xs
names-with_depends g s [] = refl
names-with_depends g s (x ∷ xs) = ap (λ names. x.name ∷ names) (names-with_depends g (s + 1) xs)

slice_get-with_depends : (g : GraphData) (s : ℕ) (xs : List ServicePlan) (k : ℕ) → k < length xs
    → (x : ServicePlan) × (slice_get (with_depends g s xs) k ≡ Some (record x { depends = depends_of g (s + k) }))
slice_get-with_depends g s [] k lt = absurd (omega arith)
slice_get-with_depends g s (x ∷ xs) zero lt = let same : s ≡ s + 0 = omega arith in (x, ap (λ (n : ℕ). some (record x { depends = depends_of g n })) same)
slice_get-with_depends g s (x ∷ xs) (suc k) lt =
    let rest = slice_get-with_depends g (s + 1) xs k (omega arith) in
    let same : s + 1 + k ≡ s + suc k = omega arith in
    (rest.0, rest.1 ∙ ap (λ (n : ℕ). some (record rest.0 { depends = depends_of g n })) same)

-- ---- the whole plan

module _ (conf : ServerConf) (options : Option Opt) (eager : Bool) (g : GraphData) (filters : ℕ) (answers : List ServicePlan) (graph : IsGraph g)
    (sound : IsSound g filters answers) where
  abbrev whole : Plan
  whole = plan_of conf options eager g answers

  size : service_count whole ≡ node_count g
  size = length-with_depends g 0 answers ∙ sym (length-map answers (λ (x : ServicePlan). x.name))
      ∙ sym (ap (λ (names : List (List ℕ)). length names) sound.names)

  few_answers : length answers ≡ node_count g
  few_answers = sym (length-map answers (λ (x : ServicePlan). x.name)) ∙ sym (ap (λ (names : List (List ℕ)). length names) sound.names)

  depends-whole : (s : ℕ) → s < node_count g → depends whole s ≡ depends_of g s
  depends-whole s lt =
      let at = slice_get-with_depends g 0 answers s (omega (arith, few_answers)) in
      let same : 0 + s ≡ s = omega arith in
      rw at.1 (ap (λ (n : ℕ). depends_of g n) same)

  -- what the plan's services depend on are the graph's edges
  depends_on-edge : (a b : ℕ) → depends_on whole a b ≡ true → is_edge g a b ≡ true
  depends_on-edge a b e =
      elim (slice_get_cases whole.services a).1 [
        | inl at ↦ passes (let lt : a < node_count g = omega (arith, at.1, size) in sym (ap (λ (xs : List ℕ). is_listed xs b) (depends-whole a lt)) ∙ e)
        | inr past ↦ absurd (let none : depends_on whole a b ≡ false = rw past.1 refl in cc)
      ]
    where
      passes : is_listed (depends_of g a) b ≡ true → is_edge g a b ≡ true
      passes h = All-listed (λ d. is_edge g a d ≡ true) (depends_of g a) b (filter_passes (is_edge g a) (range_with_len 0 (node_count g))) h

  inside : (s : ℕ) → s < service_count whole → All (λ d. d < service_count whole) (depends whole s)
  inside s lt =
      let there : s < node_count g = omega (arith, size) in
      subst (All (λ d. d < service_count whole)) (sym (depends-whole s there))
      (λ k d le. (
      let passes : is_edge g s (get_or (depends_of g s) k d) ≡ true = filter_passes (is_edge g s) (range_with_len 0 (node_count g)) k d le in
      omega (arith, edge_inside g s (get_or (depends_of g s) k d) graph passes, size)))

  depends-well : DependsWell whole
  depends-well = record { inside = inside; acyclic = acyclic-within (depends_on whole) (is_edge g) depends_on-edge graph.acyclic }

  -- and the other way round
  listed_in : (p : ℕ → Bool) (n lo b : ℕ) → lo ≤ b → b < lo + n → p b ≡ true → is_listed (filter p (range_with_len lo n)) b ≡ true
  listed_in p zero lo b from lt e = absurd (omega (arith, from, lt))
  listed_in p (suc n) lo b from lt e =
      elim (cases_eq lo b) [
        | inl here ↦ (let first : p lo ≡ true = subst (λ (k : ℕ). p k ≡ true) (sym here) e in rw first (rw (eq-eqb lo b here) refl))
        | inr apart ↦ later (p lo) refl (listed_in p n (lo + 1) b (omega (arith, from, apart)) (omega (arith, lt)) e)
      ]
    where
      later : (x : Bool) → p lo ≡ x → is_listed (filter p (range_with_len (lo + 1) n)) b ≡ true → is_listed (filter p (range_with_len lo (suc n))) b ≡ true
      later true is h = rw is (or_true (lo == b) (is_listed (filter p (range_with_len (lo + 1) n)) b) h)
      later false is h = rw is h

  edge-depends_on : (a b : ℕ) → is_edge g a b ≡ true → depends_on whole a b ≡ true
  edge-depends_on a b e =
      let lt : a < node_count g = edge_from g a b graph e in
      rw (depends-whole a lt) (listed_in (is_edge g a) (node_count g) 0 b (omega arith) (omega (arith, edge_inside g a b graph e)) e)

  -- the graph is that of the plan's dependencies
  pub whole-graph : IsGraphUpTo whole (service_count whole) g
  whole-graph = record {
    nodes = sym size;
    edges = λ a b. same_where (is_edge g a b) (nat_lt a (service_count whole)) (depends_on whole a b)
        (λ e. (lt-ltb a (service_count whole) (omega (arith, edge_from g a b graph e, size)), edge-depends_on a b e)) (λ e f. depends_on-edge a b f);
  }

  pub whole-valid : judged conf ≡ Ok tt → IsValid whole
  whole-valid accepted = valid-plan whole (record {
    few = omega (arith, size, graph.few);
    tasks = judged-tasks conf accepted;
    endpoints = All-with_depends (λ (s : ServicePlan). (length s.endpoints ≤ 64) × All IsAddress s.endpoints) (λ x ds h. h) g 0 answers sound.limits;
  }) depends-well

-- ---- the filters that a plan names

all-at : {X : Type 0} (P : X → Type 0) (xs : List X) (k : ℕ) (x : X) → All P xs → slice_get xs k ≡ Some x → P x
all-at P xs k x all at = subst P (get_or_from_slice_get xs k x x at) (all k x (slice_get_within xs k x at))

filter-at : (p : Plan) (s i : ℕ) (x : ServicePlan) (e : EndpointPlan) → slice_get p.services s ≡ Some x → slice_get x.endpoints i ≡ Some e
    → filter_of p s i ≡ e.filter
filter-at p s i x e at there = rw at (rw there refl)

filter-past : (p : Plan) (s i : ℕ) (x : ServicePlan) → slice_get p.services s ≡ Some x → slice_get x.endpoints i ≡ None → filter_of p s i ≡ None
filter-past p s i x at there = rw at (rw there refl)

filter-beyond : (p : Plan) (s i : ℕ) → slice_get p.services s ≡ None → filter_of p s i ≡ None
filter-beyond p s i at = rw at refl

-- where the services name only the first n filters, the plan does
names-each : (p : Plan) (n : ℕ) → All (HasFilters n) p.services → NamesFilters p n
names-each p n all s i f is =
    elim (slice_get_cases p.services s).1 [
      | inl at ↦ in_service at.0 at.2
      | inr past ↦ absurd (let none : filter_of p s i ≡ None = filter-beyond p s i past.1 in cc)
    ]
  where
    in_service : (x : ServicePlan) → slice_get p.services s ≡ Some x → f < n
    in_service x at =
        elim (slice_get_cases x.endpoints i).1 [
          | inl there ↦ (
              let known : IfSome there.0.filter (λ k. k < n) =
              all-at (λ (e : EndpointPlan). IfSome e.filter (λ k. k < n)) x.endpoints i there.0 (all-at (HasFilters n) p.services s x all at) there.2 in
              subst (λ (o : Option ℕ). IfSome o (λ k. k < n)) (sym (filter-at p s i x there.0 at there.2) ∙ is) known)
          | inr past ↦ absurd (let none : filter_of p s i ≡ None = filter-past p s i x at past.1 in cc)
        ]

-- each filter that a server's plan names is one of the server's
pub names-filters : (conf : ServerConf) (options : Option Opt) (eager : Bool) (g : GraphData) (n : ℕ) (answers : List ServicePlan) → IsSound g n answers
    → NamesFilters (plan_of conf options eager g answers) n
names-filters conf options eager g n answers sound =
    names-each (plan_of conf options eager g answers) n (All-with_depends (HasFilters n) (λ x ds h. h) g 0 answers sound.filtered)

-- there are as many services as nodes
pub count-sound : {B : Type 0} (means : Ghosts B) (services : List B) (g : GraphData) (n : ℕ) → IsSound g n (answers_of means services)
    → length services ≡ node_count g
count-sound means services g n sound =
    sym (length-map services (answer_of means))
    ∙ sym (length-map (answers_of means services) (λ (x : ServicePlan). x.name))
    ∙ sym (ap (λ (names : List (List ℕ)). length names) sound.names)

-- the names of the plan's services are those that the services answer
pub names-plan_of : {B : Type 0} (means : Ghosts B) (services : List B) (conf : ServerConf) (options : Option Opt) (eager : Bool) (g : GraphData)
    → map means.named services ≡ names_of (plan_of conf options eager g (answers_of means services))
names-plan_of {B = B} means services conf options eager g = names services ∙ sym (names-with_depends g 0 (answers_of means services))
  where
    names : (bs : List B) → map means.named bs ≡ map (λ (x : ServicePlan). x.name) (answers_of means bs)
    names [] = refl
    names (b ∷ bs) = ap (λ xs. means.named b ∷ xs) (names bs)

-- a plan with these settings is the server's
pub plan-is : (conf : ServerConf) (options : Option Opt) (eager : Bool) (g : GraphData) (answers services : List ServicePlan) (grace stop limit ready : ℕ)
    (upgrade test : Bool)
    → services ≡ with_depends g 0 answers → grace ≡ unwrap_or conf.grace_period_seconds 300 → stop ≡ unwrap_or conf.graceful_shutdown_timeout_seconds 5
    → limit ≡ unwrap_or conf.upgrade_sock_connect_accept_max_retries 5 → upgrade ≡ is_upgrade options → test ≡ is_test options
    → ready ≡ unwrap_or conf.daemon_ready_timeout_seconds 600
    → ◌≡◌ {A = Plan} (record {
      services = services;
      grace = grace;
      stop = stop;
      tasks = conf.listener_tasks_per_fd;
      limit = limit;
      upgrade = upgrade;
      test = test;
      eager = eager;
      daemon = conf.daemon;
      wait = conf.daemon_wait_for_ready;
      ready_timeout = ready;
    }) (plan_of conf options eager g answers)
plan-is conf options eager g answers services grace stop limit ready upgrade test e f h i j k l = cc
