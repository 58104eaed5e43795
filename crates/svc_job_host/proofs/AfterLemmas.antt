-- A job starts after each job that it depends on has run.
use Rattle.std.proofs.Common.{ℕ, zero, suc, Bool, true, false, ◌≡◌, ◌+◌, ◌||◌, ◌&&◌, List, [], ◌∷◌, ◌++◌, map, Option, refl, sym, ap, subst, ◌∙◌, inl, inr}
use Rattle.std.specs.Prelude.{Some, None, Result, Ok, Err, slice_get}
use Rattle.std.specs.List.{list_all}
use Rattle.std.proofs.lemmas.Bool.{and_parts, and_from}
use Rattle.svc_conf.specs.declared.server.configuration.ServerConf.{ServerConf}
use Rattle.svc_conf.specs.declared.server.configuration.Opt.{Opt}
use Rattle.svc_graph.specs.GraphData.{GraphData}
use Rattle.svc_graph.specs.declared.plan.Kind.TheVariants.{Plain, Bootstrap as BootstrapKind}
use Rattle.svc_graph.specs.declared.services.ServiceWithDependents.{Ghosts}
use Rattle.svc_record.specs.declared.plan.Plan.{Plan}
use Rattle.svc_record.specs.declared.plan.ServicePlan.{ServicePlan}
use Rattle.svc_record.specs.declared.entry.Entry.TheVariants.{Got, Told}
use Rattle.svc_record.specs.declared.event.Event.{Event}
use Rattle.svc_record.specs.declared.action.Action.TheVariants.{Start, Cut, Close}
use Rattle.svc_record.specs.Plans.{depends, endpoints, has_kind}
use Rattle.svc_record.specs.Failed.{has_failed}
use Rattle.svc_record.specs.Record.{Record, has, tell, is_bootstrap_complete, each_entry, EachEntry}
use Rattle.svc_record.specs.Connections.{live_connections}
use Rattle.svc_record.specs.Drain.{live_numbers}
use Rattle.svc_base.specs.NumberSets.{ascending}
use Rattle.svc_record.specs.Starts.{is_started, is_ready, is_ready_event, is_ended_event, is_due, start_due}
use Rattle.svc_record.specs.Tail.{with_event, closing_actions, new_numbers}
use Rattle.svc_server.specs.Servers.{answers_of, with_depends, depends_of, plan_of}
use Rattle.svc_server.specs.declared.run.Outcome.{Outcome}
use Rattle.svc_server.specs.declared.run.Outcome.TheVariants.{Served, TestPassed, Parent}
use Rattle.svc_server.specs.declared.run.RunError.{RunError}
use Rattle.svc_server.specs.declared.run.RunError.TheVariants.{Config, HostFault, Bootstrap, Stray, TurnsSpent, OutOfEvents, NoMemory}
use Rattle.svc_server.specs.Runs.{RunEnds}
use Rattle.svc_job_host.specs.Dues.{has_run}
use Rattle.svc_job_host.specs.JobHosts.{is_job_entry, head_due}
use Rattle.svc_job_host.specs.JobRuns.{KeepsWords, start_after_runs}
use Rattle.svc_job_host.proofs.OwedLemmas.{ready-ran}
use Rattle.svc_job_host.proofs.EndLemmas.{AllNotify, only-lacks, no-kind, untold-heads, untold-only}

-- no service has an endpoint
abbrev pub AllBare : Plan → Type 0
AllBare p = (s : ℕ) (x : ServicePlan) → slice_get p.services s ≡ Some x → x.endpoints ≡ []

unfailed : (p : Plan) (q : Record) (s : ℕ) → AllBare p → has_failed p q s ≡ false
unfailed p q s bare = (let none : endpoints p s ≡ [] = by (slice_get p.services s) refl in rw none refl)
  where
    by : (o : Option ServicePlan) → slice_get p.services s ≡ o → endpoints p s ≡ []
    by None e = rw e refl
    by (Some x) e = rw e (bare s x e)

word-alone : (x e f st k b c : Bool) → e ≡ false → f ≡ false → k ≡ false → b ≡ false → (((x || e) || f) || (st && (k || (b && c)))) ≡ true → x ≡ true
word-alone true e f st k b c he hf hk hb h = refl
word-alone false e f true k b c he hf hk hb h = (let off : (((false || e) || f) || (true && (k || (b && c)))) ≡ false = rw (he, hf, hk, hb) refl in sym off ∙ h)
word-alone false e f false k b c he hf hk hb h = (let off : (((false || e) || f) || (false && (k || (b && c)))) ≡ false = rw (he, hf) refl in sym off ∙ h)

-- a job is ready only by its word
ready-word : (p : Plan) (q : Record) (d : ℕ) → AllNotify p → AllBare p → each_entry (λ e before. is_job_entry e) q ≡ true → is_ready p q d ≡ true
    → has (is_ready_event d) q ≡ true
ready-word p q d notify bare only ready =
    word-alone (has (is_ready_event d) q) (has (is_ended_event d) q) (has_failed p q d) (is_started q d) (has_kind p Plain d) (has_kind p BootstrapKind d)
    (has is_bootstrap_complete q)
    (only-lacks (is_ended_event d) (λ m. refl) (λ k. refl) (λ s. refl) (λ a. refl) q only) (unfailed p q d bare) (no-kind p Plain d notify refl)
    (no-kind p BootstrapKind d notify refl) ready

all-then : (f g : ℕ → Bool) (xs : List ℕ) → ((n : ℕ) → f n ≡ true → g n ≡ true) → list_all f xs ≡ true → list_all g xs ≡ true
all-then f g [] h all = refl
all-then f g (x ∷ xs) h all = (let parts = and_parts (f x) (list_all f xs) all in and_from (g x) (list_all g xs) (h x parts.0) (all-then f g xs h parts.1))

starts-after : (p : Plan) (periods : List ℕ) (q : Record) → AllNotify p → AllBare p → each_entry (head_due periods) q ≡ true
    → each_entry (λ e before. is_job_entry e) q ≡ true
    → EachEntry (λ e before. start_due p e before ≡ true) q → EachEntry (λ e before. start_after_runs p periods e before ≡ true) q
starts-after p periods [] notify bare heads only due = tt
starts-after p periods (Told (Start s) ∷ b) notify bare heads only due = (
  all-then (is_ready p b) (has_run periods b) (depends p s) (λ d ready. ready-ran periods b d heads (ready-word p b d notify bare only ready))
      (and_parts _ (is_due p b s) due.0).1,
  starts-after p periods b notify bare heads only due.1,
)
starts-after p periods (Told a ∷ b) notify bare heads only due = (refl, starts-after p periods b notify bare heads only due.1)
starts-after p periods (Got e ∷ b) notify bare heads only due = (
  refl,
  starts-after p periods b notify bare (and_parts (head_due periods (Got e) b) (each_entry (head_due periods) b) heads).1
      (and_parts (is_job_entry (Got e)) (each_entry (λ x before. is_job_entry x) b) only).1 due.1,
)

-- what is closed at the end starts nothing
module _ (p : Plan) (periods : List ℕ) where
  abbrev AreAfter : Record → Type 0
  AreAfter q = EachEntry (λ e before. start_after_runs p periods e before ≡ true) q

  after-closes : (fds : List ℕ) (q : Record) → AreAfter q → AreAfter (tell q (map Close fds))
  after-closes [] q after = after
  after-closes (fd ∷ fds) q after = after-closes fds (Told (Close fd) ∷ q) (refl, after)

  after-closed : (fds more : List ℕ) (q : Record) → AreAfter q → AreAfter (tell q (map Close fds ++ map Close more))
  after-closed [] more q after = after-closes more q after
  after-closed (fd ∷ fds) more q after = after-closed fds more (Told (Close fd) ∷ q) (refl, after)

  after-cuts : (cs fds more : List ℕ) (q : Record) → AreAfter q → AreAfter (tell q (map Cut cs ++ (map Close fds ++ map Close more)))
  after-cuts [] fds more q after = after-closed fds more q after
  after-cuts (c ∷ cs) fds more q after = after-cuts cs fds more (Told (Cut c) ∷ q) (refl, after)

  after-event : (also : Option Event) (q : Record) → AreAfter q → AreAfter (with_event also q)
  after-event None q after = after
  after-event (Some e) q after = (refl, after)

  after-ending : (q finished : Record) (also : Option Event) → AllNotify p → AllBare p → KeepsWords periods q
      → q ≡ tell (with_event also finished) (closing_actions p finished also)
      → EachEntry (λ e before. start_due p e before ≡ true) finished → AreAfter q
  after-ending q finished also notify bare keeps closed due =
      let heads = sym (untold-heads periods (with_event also finished) (closing_actions p finished also))
      ∙ subst (λ r. each_entry (head_due periods) r ≡ true) closed keeps.heads in
      let only = sym (untold-only (with_event also finished) (closing_actions p finished also))
      ∙ subst (λ r. each_entry (λ e before. is_job_entry e) r ≡ true) closed keeps.only_jobs in
      subst AreAfter (sym closed)
      (after-cuts (ascending (live_connections finished)) (ascending (live_numbers p finished)) (new_numbers finished also) (with_event also finished)
      (after-event also finished (starts-after p periods finished notify bare (heads-of also heads) (only-of also only) due)))
    where
      heads-of : (also : Option Event) → each_entry (head_due periods) (with_event also finished) ≡ true → each_entry (head_due periods) finished ≡ true
      heads-of None h = h
      heads-of (Some e) h = (and_parts (head_due periods (Got e) finished) (each_entry (head_due periods) finished) h).1

      only-of : (also : Option Event) → each_entry (λ e before. is_job_entry e) (with_event also finished) ≡ true
          → each_entry (λ e before. is_job_entry e) finished ≡ true
      only-of None h = h
      only-of (Some e) h = (and_parts (is_job_entry (Got e)) (each_entry (λ x before. is_job_entry x) finished) h).1

  pub after_run : (turns : ℕ) (answer : Result Outcome RunError) (q : Record) → AllNotify p → AllBare p → KeepsWords periods q → RunEnds p turns answer q
      → AreAfter q
  after_run turns (Ok Served) q notify bare keeps end = starts-after p periods q notify bare keeps.heads keeps.only_jobs end.right.starts
  after_run turns (Ok TestPassed) q notify bare keeps (finished, end) = after-ending q finished None notify bare keeps end.closed end.right.starts
  after_run turns (Ok (Parent n)) q notify bare keeps (finished, end) = after-ending q finished None notify bare keeps end.closed end.right.starts
  after_run turns (Err (Bootstrap error)) q notify bare keeps (finished, end) = after-ending q finished None notify bare keeps end.closed end.right.starts
  after_run turns (Err (Config key)) q notify bare keeps end = subst AreAfter (sym end) tt
  after_run turns (Err HostFault) q notify bare keeps (finished, end) = after-ending q finished None notify bare keeps end.closed end.right.starts
  after_run turns (Err OutOfEvents) q notify bare keeps (finished, end) = after-ending q finished None notify bare keeps end.closed end.right.starts
  after_run turns (Err (Stray k)) q notify bare keeps (finished, (e, end)) =
      after-ending q finished (Some e) notify bare keeps end.closed.closed end.closed.right.starts
  after_run turns (Err TurnsSpent) q notify bare keeps (finished, end) =
      after-ending q finished None notify bare keeps end.closed.closed end.closed.right.starts
  after_run turns (Err NoMemory) q notify bare keeps (inl none) = subst AreAfter (sym none) tt
  after_run turns (Err NoMemory) q notify bare keeps (inr (finished, (also, end))) = after-ending q finished also notify bare keeps end.closed end.right.starts

-- the services of jobs have none
pub all_bare : {B : Type 0} (means : Ghosts B) (conf : ServerConf) (options : Option Opt) (eager : Bool) (g : GraphData) (xs : List B)
    → ((b : B) → means.configures b ≡ [])
    → AllBare (plan_of conf options eager g (answers_of means xs))
all_bare {B} means conf options eager g xs bare s x at = by 0 xs s at
  where
    by : (k : ℕ) (xs : List B) (s : ℕ) → slice_get (with_depends g k (answers_of means xs)) s ≡ Some x → x.endpoints ≡ []
    by k [] s at = absurd (cc)
    by k (b ∷ xs) zero at =
        (let same : record {
          name = means.named b;
          kind = means.of_kind b;
          depends = depends_of g k;
          declared = means.declares b;
          endpoints = means.configures b;
        } ≡ x = cc in ap (λ (y : ServicePlan). y.endpoints) (sym same) ∙ bare b)
    by k (b ∷ xs) (suc s) at = by (k + 1) xs s at
