-- What a run of jobs leaves, by what its host tells.
use Rattle.std.proofs.Common.{◌≡◌, ℕ, zero, suc, ◌+◌, Bool, true, false, List, [], ◌∷◌, ◌++◌, length, map, take, drop, Option, Some, None, Result, Ok, Err, refl, sym, ap, subst, ◌∙◌, arith, take-append-drop}
use Rattle.std.specs.Prelude.{slice_get}
use Rattle.std.proofs.lemmas.List.{drop_all}
use Rattle.svc_conf.specs.declared.server.configuration.ServerConf.{ServerConf}
use Rattle.svc_conf.specs.declared.server.configuration.Opt.{Opt}
use Rattle.svc_conf.specs.declared.server.configuration.key.Key.{Key}
use Rattle.svc_conf.specs.Configuration.{judged}
use Rattle.svc_graph.specs.GraphData.{GraphData}
use Rattle.svc_record.specs.declared.plan.Plan.{Plan}
use Rattle.svc_record.specs.declared.plan.ServicePlan.{ServicePlan}
use Rattle.svc_record.specs.declared.entry.Entry.TheVariants.{Got, Told}
use Rattle.svc_record.specs.declared.event.Event.{Event}
use Rattle.svc_record.specs.declared.event.Event.TheVariants.{Ready}
use Rattle.svc_record.specs.declared.action.Action.{Action}
use Rattle.svc_record.specs.declared.action.StepEnd.TheVariants as ends
use Rattle.svc_record.specs.declared.item.Item.{Item}
use Rattle.svc_record.specs.declared.item.Item.TheVariants as items
use Rattle.svc_record.specs.Record.{Record, tell, each_entry, EachEntry}
use Rattle.svc_record.specs.Drain.{waits_are_over}
use Rattle.svc_record.specs.Ends.{ends_tested, ends_parent_well, ends_parent_badly, ends_transfer, ends_no_sender, ends_bad_message}
use Rattle.svc_record.specs.Tail.{closing_actions}
use Rattle.svc_server.specs.declared.run.Outcome.{Outcome}
use Rattle.svc_server.specs.declared.run.Outcome.TheVariants as outcomes
use Rattle.svc_server.specs.declared.run.RunError.{RunError}
use Rattle.svc_server.specs.declared.run.RunError.TheVariants as errors
use Rattle.svc_server.specs.Servers.{is_test, plan_of}
use Rattle.svc_server.specs.Runs.{RunEnds, IsStray}
use Rattle.svc_job_host.specs.Readies.{readies_since, readies_right, are_told, items_of}
use Rattle.svc_job_host.specs.JobHostData.{JobHostData}
use Rattle.svc_job_host.specs.JobHosts.{is_job_entry, head_due}
use Rattle.svc_job_host.specs.JobRuns.{TellsJobs, KeepsWords, EndsTold, ComesNext, start_after_runs}
use Rattle.svc_job_host.specs.Timetables.{periods_of}
use Rattle.svc_job_host.proofs.EndLemmas.{AllNotify, calm, tested-by, untold-heads, untold-only, ready-fits}
use Rattle.svc_main.specs.declared.outcome.RunEnd.{RunEnd}
use Rattle.svc_main.specs.declared.outcome.RunEnd.TheVariants.{Served, Tested, Parent, Config, HostFault, Bootstrap, Stray, OutOfEvents}
use Rattle.svc_main.specs.Program.{answer_of, Judges}
use Rattle.svc_jobs.specs.JobEnds.{MayEnd}
use Rattle.svc_jobs.specs.JobTexts.{JobParts}
use Rattle.svc_jobs.specs.JobServices.{plan_of_jobs, IsJobServer}
use Rattle.svc_jobs.specs.JobPrograms.{turns_of, Leaves, LastIsItem, IsJobRun}
use Rattle.svc_jobs.proofs.CountLemmas.{not_spent}
use Rattle.svc_jobs.proofs.ServerLemmas.{same_plan}

-- ---- what a run of jobs may answer

-- it bootstraps nothing and has no parent, so it doesn't end so
never_ends : (p : Plan) (periods : List ℕ) (r finished : Record) → KeepsWords periods r → r ≡ tell finished (closing_actions p finished None)
    → each_entry (λ e before. is_job_entry e) finished ≡ true
never_ends p periods r finished keeps closed =
    sym (untold-only finished (closing_actions p finished None))
    ∙ subst (λ (q : Record). each_entry (λ e before. is_job_entry e) q ≡ true) closed keeps.only_jobs

pub may_end : (p : Plan) (turns given : ℕ) (answer : Result Outcome RunError) (periods : List ℕ) (all : List Item) (r : Record) → p.test ≡ false
    → KeepsWords periods r → map items.Event (items_of r) ≡ take given all
    → turns ≡ (length all + length periods) + 1 → RunEnds p turns answer r → MayEnd answer
may_end p turns given (Ok outcomes.Served) periods all r test keeps taken enough end = tt
may_end p turns given (Ok outcomes.TestPassed) periods all r test keeps taken enough (finished, end) =
    (let tests : ends_tested p finished ≡ true =
    tested-by (waits_are_over p finished) (ends_tested p finished) (ends_parent_well p finished) (ends_parent_badly p finished) (ends_transfer finished)
    (ends_no_sender p finished) (ends_bad_message finished) end.ended in
    let never = rw test at tests in cc)
may_end p turns given (Ok (outcomes.Parent n)) periods all r test keeps taken enough (finished, end) =
    calm p finished (ends.Parent n) (never_ends p periods r finished keeps end.closed) end.ended
may_end p turns given (Err (errors.Bootstrap error)) periods all r test keeps taken enough (finished, end) =
    calm p finished (ends.Ended error) (never_ends p periods r finished keeps end.closed) end.ended
may_end p turns given (Err errors.TurnsSpent) periods all r test keeps taken enough (finished, end) =
    not_spent p turns given periods all r finished keeps taken enough end
may_end p turns given (Err (errors.Config key)) periods all r test keeps taken enough end = tt
may_end p turns given (Err errors.HostFault) periods all r test keeps taken enough end = tt
may_end p turns given (Err (errors.Stray k)) periods all r test keeps taken enough end = tt
may_end p turns given (Err errors.OutOfEvents) periods all r test keeps taken enough end = tt
may_end p turns given (Err errors.NoMemory) periods all r test keeps taken enough end = tt

-- ---- what is left of the items

fault_next : {X : Type 0} (n : ℕ) (xs : List X) (x : X) → slice_get xs n ≡ Some x → (more : List X) × (drop n xs ≡ x ∷ more)
fault_next n [] x e = absurd (cc)
fault_next zero (y ∷ xs) x e = (xs, (let same : y ≡ x = cc in ap (λ z. z ∷ xs) same))
fault_next (suc n) (y ∷ xs) x e = fault_next n xs x e

leaves_of : {J : Type 0} (end : RunEnd) (host : JobHostData J) → ComesNext (answer_of end) host → Leaves end (drop host.given host.items)
leaves_of Served host next = tt
leaves_of Tested host next = tt
leaves_of (Parent n) host next = tt
leaves_of (Config key) host next = tt
leaves_of HostFault host next = fault_next host.given host.items items.Fault next
leaves_of (Bootstrap error) host next = tt
leaves_of (Stray k) host next = tt
leaves_of OutOfEvents host next = drop_all host.given host.items (omega (arith, next))

told_of : (end : RunEnd) (periods : List ℕ) (r : Record) → EndsTold (answer_of end) periods r → are_told periods r ≡ true
told_of Served periods r h = h
told_of Tested periods r h = h
told_of (Parent n) periods r h = h
told_of (Config key) periods r h = h
told_of HostFault periods r h = h
told_of (Bootstrap error) periods r h = h
told_of (Stray k) periods r h = h
told_of OutOfEvents periods r h = h

judges_of : (end : RunEnd) (conf : ServerConf) → ((key : Key) → answer_of end ≡ Err (errors.Config key) → judged conf ≡ Err key) → Judges end conf
judges_of Served conf h = tt
judges_of Tested conf h = tt
judges_of (Parent n) conf h = tt
judges_of (Config key) conf h = h key refl
judges_of HostFault conf h = tt
judges_of (Bootstrap error) conf h = tt
judges_of (Stray k) conf h = tt
judges_of OutOfEvents conf h = tt

-- ---- a job's word is never stray

pub since-tell : (q : Record) (told : List Action) → readies_since (tell q told) ≡ readies_since q
since-tell q [] = refl
since-tell q (a ∷ more) = since-tell (Told a ∷ q) more

misfit_item : (p : Plan) (periods : List ℕ) (k : ℕ) (r finished : Record) (e : Event) → AllNotify p → each_entry (head_due periods) (Got e ∷ finished) ≡ true
    → IsStray p k r finished e → readies_since (Got e ∷ finished) ≡ []
misfit_item p periods k r finished (Ready s) notify heads stray =
    absurd (stray.misfit (ready-fits p periods finished s notify heads stray.closed.right stray.closed.goes_on))
misfit_item p periods k r finished e notify heads stray = refl

last_item : (p : Plan) (turns : ℕ) (end : RunEnd) (periods : List ℕ) (r : Record) → AllNotify p → KeepsWords periods r → RunEnds p turns (answer_of end) r
    → LastIsItem end r
last_item p turns Served periods r notify keeps h = tt
last_item p turns Tested periods r notify keeps h = tt
last_item p turns (Parent n) periods r notify keeps h = tt
last_item p turns (Config key) periods r notify keeps h = tt
last_item p turns HostFault periods r notify keeps h = tt
last_item p turns (Bootstrap error) periods r notify keeps h = tt
last_item p turns (Stray k) periods r notify keeps (finished, (e, stray)) =
    let told = closing_actions p finished (Some e) in
    let heads = sym (untold-heads periods (Got e ∷ finished) told)
    ∙ subst (λ (q : Record). each_entry (head_due periods) q ≡ true) stray.closed.closed keeps.heads in
    ap readies_since stray.closed.closed ∙ since-tell (Got e ∷ finished) told ∙ misfit_item p periods k r finished e notify heads stray
last_item p turns OutOfEvents periods r notify keeps h = tt

-- ---- all of it

-- what the run of a server over a host of jobs ensures, and what the host keeps
pub record LeavesJobs {J : Type 0} (told : J → Option (List ℕ)) (p : Plan) (turns : ℕ) (answer : Result Outcome RunError) (conf : ServerConf)
    (host : JobHostData J) : Type 0 where
  pub jobs : TellsJobs told host
  pub words : EndsTold answer (periods_of host.plans) host.entries
  pub next : ComesNext answer host
  pub order : EachEntry (λ e before. start_after_runs p (periods_of host.plans) e before ≡ true) host.entries
  pub ends : RunEnds p turns answer host.entries
  pub config : (key : Key) → answer ≡ Err (errors.Config key) → judged conf ≡ Err key
  pub keeps : KeepsWords (periods_of host.plans) host.entries

-- of what the run ensures of these periods, which are the host's
pub leaves_jobs : {J : Type 0} (told : J → Option (List ℕ)) (p : Plan) (turns : ℕ) (answer : Result Outcome RunError) (conf : ServerConf) (host : JobHostData J)
    (periods : List ℕ) → periods_of host.plans ≡ periods → TellsJobs told host → EndsTold answer periods host.entries → ComesNext answer host
    → EachEntry (λ e before. start_after_runs p periods e before ≡ true) host.entries → RunEnds p turns answer host.entries
    → ((key : Key) → answer ≡ Err (errors.Config key) → judged conf ≡ Err key) → KeepsWords (periods_of host.plans) host.entries
    → LeavesJobs told p turns answer conf host
leaves_jobs told p turns answer conf host periods paced jobs words next order ends config keeps = record {
  jobs = jobs;
  words = subst (λ (ps : List ℕ). EndsTold answer ps host.entries) (sym paced) words;
  next = next;
  order = subst (λ (ps : List ℕ). EachEntry (λ e before. start_after_runs p ps e before ≡ true) host.entries) (sym paced) order;
  ends = ends;
  config = config;
  keeps = keeps;
}

pub may_answer : {J : Type 0} (told : J → Option (List ℕ)) (p : Plan) (turns : ℕ) (answer : Result Outcome RunError) (conf : ServerConf) (host : JobHostData J)
    (periods : List ℕ) (all : List Item) → p.test ≡ false
    → periods_of host.plans ≡ periods → host.items ≡ all → turns ≡ (length all + length periods) + 1 → LeavesJobs told p turns answer conf host → MayEnd answer
may_answer told p turns answer conf host periods all test paced given enough h =
    may_end p turns host.given answer periods all host.entries test (subst (λ (ps : List ℕ). KeepsWords ps host.entries) paced h.keeps)
    (h.jobs.given ∙ ap (take host.given) given) enough h.ends

pub job_run : {J : Type 0} (told : J → Option (List ℕ)) (parts : JobParts) (end : RunEnd) (turns : ℕ) (answer : Result Outcome RunError) (conf : ServerConf)
    (options : Option Opt) (eager : Bool) (g : GraphData) (filters : ℕ) (answers : List ServicePlan)
    (host : JobHostData J) → IsJobServer parts.script conf options eager g filters answers → AllNotify (plan_of conf options eager g answers)
    → answer ≡ answer_of end → periods_of host.plans ≡ parts.periods → host.items ≡ parts.script.items
    → turns ≡ turns_of parts → LeavesJobs told (plan_of conf options eager g answers) turns answer conf host → IsJobRun parts end host.entries
job_run told parts end turns answer conf options eager g filters answers host server notify is paced given enough h =
    let plan : plan_of conf options eager g answers ≡ plan_of_jobs parts.script = same_plan parts.script conf options eager g filters answers server in
    let r : Record = host.entries in
    let may = may_answer told (plan_of conf options eager g answers) turns answer conf host parts.periods parts.script.items
    (ap is_test server.flags) paced given enough h in
    let ends_so = subst (λ (a : Result Outcome RunError). RunEnds (plan_of conf options eager g answers) turns a r) is h.ends in
    let keeps = subst (λ (ps : List ℕ). KeepsWords ps r) paced h.keeps in
    let given_is : map items.Event (items_of r) ≡ take host.given parts.script.items = h.jobs.given ∙ ap (take host.given) given in
    let order = subst (λ (ps : List ℕ). EachEntry (λ e before. start_after_runs (plan_of conf options eager g answers) ps e before ≡ true) r) paced h.order in
    record {
      may = subst MayEnd is may;
      judged = subst (Judges end) server.configuration (judges_of end conf (λ key e. h.config key (is ∙ e)));
      ends = subst (λ (n : ℕ). RunEnds (plan_of_jobs parts.script) n (answer_of end) r) enough
          (subst (λ (p : Plan). RunEnds p turns (answer_of end) r) plan ends_so);
      in_turn = subst (λ (ps : List ℕ). readies_right ps r ≡ true) paced h.jobs.in_turn;
      told = told_of end parts.periods r
          (subst (λ (ps : List ℕ). EndsTold (answer_of end) ps r) paced
          (subst (λ (a : Result Outcome RunError). EndsTold a (periods_of host.plans) r) is h.words));
      order = subst (λ (p : Plan). EachEntry (λ e before. start_after_runs p parts.periods e before ≡ true) r) plan order;
      last = last_item (plan_of conf options eager g answers) turns end parts.periods r notify keeps ends_so;
      left = drop host.given parts.script.items;
      given = sym (take-append-drop host.given parts.script.items) ∙ ap (λ (xs : List Item). xs ++ drop host.given parts.script.items) (sym given_is);
      leaves = subst (λ (xs : List Item). Leaves end (drop host.given xs)) given
          (leaves_of end host (subst (λ (a : Result Outcome RunError). ComesNext a host) is h.next));
    }
