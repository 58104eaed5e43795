-- How the run of a server over a host of jobs ends: no job still owes its word, unless the turns were spent or memory ran out.
use Rattle.std.proofs.Common.{ℕ, zero, suc, Bool, true, false, ◌≡◌, ◌<◌, ◌+◌, ◌==◌, ◌||◌, ◌&&◌, List, [], ◌∷◌, ◌++◌, length, take, Option, refl, sym, ap, subst, ◌∙◌, inl, inr, arith}
use Rattle.std.specs.Prelude.{Some, None, Result, Ok, Err, slice_get, bytes_eq, nat_le, nat_lt, if◌then◌else◌}
use Rattle.std.specs.List.{list_any}
use Rattle.std.proofs.lemmas.Bool.{cases_Bool, or_cases, and_parts, eqb-true}
use Rattle.std.proofs.lemmas.List.{append-nil}
use Rattle.svc_graph.specs.declared.plan.Kind.{Kind}
use Rattle.svc_graph.specs.declared.plan.Kind.TheVariants.{Notifying, Bootstrap as BootstrapKind}
use Rattle.svc_record.specs.declared.plan.Plan.{Plan}
use Rattle.svc_record.specs.declared.plan.ServicePlan.{ServicePlan}
use Rattle.svc_record.specs.declared.entry.Entry.{Entry}
use Rattle.svc_record.specs.declared.entry.Entry.TheVariants.{Got, Told}
use Rattle.svc_record.specs.declared.event.Event.{Event}
use Rattle.svc_record.specs.declared.event.Event.TheVariants.{Moment, Ready, Signal}
use Rattle.svc_record.specs.declared.event.ShutdownSignal.{ShutdownSignal}
use Rattle.svc_record.specs.declared.action.Action.{Action}
use Rattle.svc_record.specs.declared.action.Action.TheVariants.{Start}
use Rattle.svc_record.specs.declared.action.StepEnd.{StepEnd}
use Rattle.svc_record.specs.declared.action.StepEnd.TheVariants as ends
use Rattle.svc_record.specs.declared.action.BootstrapError.TheVariants as boots
use Rattle.svc_record.specs.Plans.{services, service_count, is_kind, has_kind}
use Rattle.svc_record.specs.Record.{Record, has, times, tell, now, is_bootstrap, each_entry, EachEntry}
use Rattle.svc_record.specs.Starts.{is_started, start_known}
use Rattle.svc_record.specs.Boot.{is_side_parent, is_bad_message, may_begin}
use Rattle.svc_record.specs.Drain.{waits_are_over}
use Rattle.svc_record.proofs.CutLaws.{unsignalled-unpassed}
use Rattle.svc_record.specs.Ends.{step_end, has_ended, ends_tested, ends_parent_well, ends_parent_badly, ends_transfer, ends_no_sender, ends_bad_message, is_receive_failure, is_no_sender, TestedRight}
use Rattle.svc_record.specs.Fits.{Fits}
use Rattle.svc_record.specs.Right.{Right}
use Rattle.svc_record.specs.Tail.{closing_actions}
use Rattle.std.specs.Bool.{OnTrue}
use Rattle.svc_server.specs.declared.run.Outcome.{Outcome}
use Rattle.svc_server.specs.declared.run.Outcome.TheVariants.{Served, TestPassed, Parent}
use Rattle.svc_server.specs.declared.run.RunError.{RunError}
use Rattle.svc_server.specs.declared.run.RunError.TheVariants.{Config, HostFault, Bootstrap, Stray, TurnsSpent, OutOfEvents, NoMemory}
use Rattle.svc_conf.specs.declared.server.configuration.ServerConf.{ServerConf}
use Rattle.svc_conf.specs.declared.server.configuration.Opt.{Opt}
use Rattle.svc_base.specs.Streams.{Rose}
use Rattle.svc_graph.specs.GraphData.{GraphData}
use Rattle.svc_graph.specs.declared.services.ServiceWithDependents.{Ghosts}
use Rattle.svc_server.specs.Servers.{answers_of, with_depends, depends_of, plan_of}
use Rattle.svc_server.specs.Runs.{RunEnds, IsServed}
use Rattle.std.proofs.lemmas.Bool.Decides.{nat_tests}
use borrow.Author.Tests.{ltb-true}
use Rattle.svc_job_host.specs.Dues.{is_shutdown, due_at}
use Rattle.svc_job_host.specs.Readies.{first_runs, readies_since, are_told}
use Rattle.svc_job_host.specs.Rows.{owes, owing}
use Rattle.svc_job_host.specs.JobHosts.{is_job_entry, is_none, head_due}
use Rattle.svc_job_host.specs.JobRuns.{KeepsWords, EndsTold}
use Rattle.svc_job_host.proofs.RangeLemmas.{filter-none}
use Rattle.svc_job_host.proofs.HostLemmas.{same_bytes}
use Rattle.svc_job_host.proofs.OwedLemmas.{filter-head, none-is, word-owed, owes-started, owes-unready, owes-none, owed-unsignalled, tested-owes-none}

-- each service says by itself when it is ready
abbrev pub AllNotify : Plan → Type 0
AllNotify p = (s : ℕ) (x : ServicePlan) → slice_get p.services s ≡ Some x → x.kind ≡ Notifying

-- what is told changes nothing of the words
pub untold-heads : (periods : List ℕ) (q : Record) (told : List Action) → each_entry (head_due periods) (tell q told) ≡ each_entry (head_due periods) q
untold-heads periods q [] = refl
untold-heads periods q (a ∷ more) = untold-heads periods (Told a ∷ q) more

pub untold-only : (q : Record) (told : List Action) → each_entry (λ e before. is_job_entry e) (tell q told) ≡ each_entry (λ e before. is_job_entry e) q
untold-only q [] = refl
untold-only q (a ∷ more) = untold-only (Told a ∷ q) more

untold-owing : (periods : List ℕ) (q : Record) (told : List Action) → owing periods (tell q told) ≡ owing periods q
untold-owing periods q [] = refl
untold-owing periods q (a ∷ more) = untold-owing periods (Told a ∷ q) more

-- none owes its word, where each that did would be absurd
none-owes : (periods : List ℕ) (q : Record) → ((s : ℕ) → s < length periods → owes periods q s ≡ true → ⊥) → owing periods q ≡ []
none-owes periods q never = by (owing periods q) refl
  where
    by : (xs : List ℕ) → owing periods q ≡ xs → owing periods q ≡ []
    by [] e = e
    by (s ∷ more) e = (let here = filter-head (owes periods q) (length periods) 0 s more e in absurd (never s (let below = here.1 in omega arith) here.0))

-- a test that passes no entry of a run of jobs
pub only-lacks : (test : Entry → Bool) → ((m : ℕ) → test (Got (Moment m)) ≡ false) → ((kind : ShutdownSignal) → test (Got (Signal kind)) ≡ false)
    → ((s : ℕ) → test (Got (Ready s)) ≡ false) → ((a : Action) → test (Told a) ≡ false)
    → (q : Record) → each_entry (λ e before. is_job_entry e) q ≡ true → has test q ≡ false
only-lacks test m k r t [] only = refl
only-lacks test m k r t (Got (Moment ms) ∷ q) only = rw (m ms) (only-lacks test m k r t q only)
only-lacks test m k r t (Got (Signal kind) ∷ q) only = rw (k kind) (only-lacks test m k r t q only)
only-lacks test m k r t (Got (Ready s) ∷ q) only = rw (r s) (only-lacks test m k r t q only)
only-lacks test m k r t (Got e ∷ q) only = absurd (cc)
only-lacks test m k r t (Told a ∷ q) only = rw (t a) (only-lacks test m k r t q only)

none-times : (test : Entry → Bool) (q : Record) → has test q ≡ false → times test q ≡ 0
none-times test [] h = refl
none-times test (e ∷ q) h = elim (cases_Bool (test e)) [
  | inl there ↦ absurd (let on = rw there at h in cc)
  | inr other ↦ (let rest = rw other at h in rw other (none-times test q rest))
]

-- the ways in which a run ends, in their order
abbrev pub end_by : Bool → Bool → Bool → Bool → Bool → Bool → Bool → StepEnd
end_by a b c d e f g = if a then ends.Served else (if b then ends.Tested else (if c then ends.Parent 0 else (if d then ends.Parent 1
    else (if e then ends.Ended boots.Transfer else (if f then ends.Ended boots.NoSender else (if g then ends.Ended boots.BadMessage else ends.On))))))

-- a run of jobs doesn't end early
abbrev pub IsCalm : StepEnd → Type 0
IsCalm (ends.Parent n) = ⊥
IsCalm (ends.Ended error) = ⊥
IsCalm end = Unit {0}

calm-by : (a b : Bool) (end : StepEnd) → end ≡ end_by a b false false false false false → IsCalm end
calm-by true b end is = subst IsCalm (sym is) tt
calm-by false true end is = subst IsCalm (sym is) tt
calm-by false false end is = subst IsCalm (sym is) tt

and_off : (a b c : Bool) → b ≡ false → ((a && b) && c) ≡ false
and_off true b c h = rw h refl
and_off false b c h = refl

pub calm : (p : Plan) (q : Record) (end : StepEnd) → each_entry (λ e before. is_job_entry e) q ≡ true → end ≡ step_end p q → IsCalm end
calm p q end only is =
    let child : has is_side_parent q ≡ false = only-lacks is_side_parent (λ m. refl) (λ k. refl) (λ s. refl) (λ a. refl) q only in
    let well : ends_parent_well p q ≡ false = rw child refl in
    let badly : ends_parent_badly p q ≡ false = and_off p.wait (has is_side_parent q) _ child in
    let transfer : ends_transfer q ≡ false = only-lacks is_receive_failure (λ m. refl) (λ k. refl) (λ s. refl) (λ a. refl) q only in
    let sender : ends_no_sender p q ≡ false =
    ap (λ n. nat_lt p.limit n) (none-times is_no_sender q (only-lacks is_no_sender (λ m. refl) (λ k. refl) (λ s. refl) (λ a. refl) q only))
    ∙ above p.limit in
    let message : ends_bad_message q ≡ false = only-lacks is_bad_message (λ m. refl) (λ k. refl) (λ s. refl) (λ a. refl) q only in
    calm-by (waits_are_over p q) (ends_tested p q) end
    (is ∙ ap (λ x. end_by (waits_are_over p q) (ends_tested p q) x (ends_parent_badly p q) (ends_transfer q) (ends_no_sender p q) (ends_bad_message q)) well
    ∙ ap (λ x. end_by (waits_are_over p q) (ends_tested p q) false x (ends_transfer q) (ends_no_sender p q) (ends_bad_message q)) badly
    ∙ ap (λ x. end_by (waits_are_over p q) (ends_tested p q) false false x (ends_no_sender p q) (ends_bad_message q)) transfer
    ∙ ap (λ x. end_by (waits_are_over p q) (ends_tested p q) false false false x (ends_bad_message q)) sender
    ∙ ap (λ x. end_by (waits_are_over p q) (ends_tested p q) false false false false x) message)
  where
    above : (n : ℕ) → nat_lt n 0 ≡ false
    above n = grind (arith, nat_tests)

-- a run that was tested asked for it
pub tested-by : (a b c d e f g : Bool) → ends.Tested ≡ end_by a b c d e f g → b ≡ true
tested-by true b c d e f g h = absurd (cc)
tested-by false true c d e f g h = refl
tested-by false false true d e f g h = absurd (cc)
tested-by false false false true e f g h = absurd (cc)
tested-by false false false false true f g h = absurd (cc)
tested-by false false false false false true g h = absurd (cc)
tested-by false false false false false false true h = absurd (cc)
tested-by false false false false false false false h = absurd (cc)

pub no-kind : (p : Plan) (kind : Kind) (s : ℕ) → AllNotify p → is_kind kind Notifying ≡ false → has_kind p kind s ≡ false
no-kind p kind s notify other = by (slice_get p.services s) refl
  where
    by : (o : Option ServicePlan) → slice_get p.services s ≡ o → has_kind p kind s ≡ false
    by None e = rw e refl
    by (Some x) e = rw (e, notify s x e) other

notifies : (p : Plan) (s : ℕ) → AllNotify p → s < service_count p → has_kind p Notifying s ≡ true
notifies p s notify lt = by (slice_get p.services s) refl
  where
    there : (xs : List ServicePlan) (k : ℕ) → k < length xs → slice_get xs k ≡ None → ⊥
    there [] k below none = omega arith
    there (x ∷ xs) zero below none = cc
    there (x ∷ xs) (suc k) below none = there xs k (omega arith) none

    by : (o : Option ServicePlan) → slice_get p.services s ≡ o → has_kind p Notifying s ≡ true
    by None e = absurd (there p.services s lt e)
    by (Some x) e = rw (e, notify s x e) refl

none-boots : (p : Plan) (q : Record) (xs : List ℕ) → AllNotify p → list_any (λ s. has_kind p BootstrapKind s && is_started q s) xs ≡ false
none-boots p q [] notify = refl
none-boots p q (s ∷ xs) notify = rw (no-kind p BootstrapKind s notify refl) (none-boots p q xs notify)

left-only : (a b : Bool) → (a || b) ≡ true → b ≡ false → a ≡ true
left-only true b h e = refl
left-only false b h e = absurd (cc)

-- a started service is one of the plan
started-known : (p : Plan) (q : Record) (s : ℕ) → EachEntry (λ e before. start_known p e before ≡ true) q → is_started q s ≡ true → s < service_count p
started-known p [] s known started = absurd (cc)
started-known p (Told (Start t) ∷ q) s known started = elim (or_cases (t == s) (is_started q s) started) [
  | inl same ↦
      (let e : t ≡ s = eqb-true t s same in let below : t < service_count p = ltb-true t (service_count p) known.0 in subst (λ n. n < service_count p) e below)
  | inr before ↦ started-known p q s known.1 before
]
started-known p (Told a ∷ q) s known started = started-known p q s known.1 started
started-known p (Got e ∷ q) s known started = started-known p q s known.1 started

-- served
served-none : (p : Plan) (periods : List ℕ) (q : Record) → KeepsWords periods q → IsServed p q → owing periods q ≡ []
served-none p periods q keeps served = none-owes periods q (λ s lt owed.
    let none = owed-unsignalled p periods q s keeps.heads keeps.only_jobs served.right.fits served.right.settled.1 lt owed in
    let passes = served.served.drain.passes in let silent = unsignalled-unpassed p q none in cc)

-- tested
tested-none : (p : Plan) (periods : List ℕ) (q : Record) → AllNotify p → each_entry (head_due periods) q ≡ true → Right p q → ends.Tested ≡ step_end p q
    → owing periods q ≡ []
tested-none p periods q notify heads right end = none-owes periods q (λ s lt owed.
    let tests : ends_tested p q ≡ true =
    tested-by (waits_are_over p q) (ends_tested p q) (ends_parent_well p q) (ends_parent_badly p q) (ends_transfer q) (ends_no_sender p q)
    (ends_bad_message q) end in
    let test = (and_parts p.test (has is_bootstrap q) tests).0 in
    let tested : TestedRight p q = subst (λ b. OnTrue b (TestedRight p q)) tests right.stronger.tested in
    let eager = (and_parts p.eager (may_begin p q) (left-only (p.eager && may_begin p q) _ tested.begun (none-boots p q (services p) notify))).0 in
    tested-owes-none p periods q s test eager tested.in_turn heads right.fits right.settled.1 lt owed)

-- a job's word fits
pub ready-fits : (p : Plan) (periods : List ℕ) (q : Record) (s : ℕ) → AllNotify p → each_entry (head_due periods) (Got (Ready s) ∷ q) ≡ true → Right p q
    → has_ended p q ≡ false → Fits p q (Ready s)
ready-fits p periods q s notify heads right on =
    let parts = and_parts (bytes_eq (take 1 (owing periods q)) (s ∷ [])) (each_entry (head_due periods) q) heads in
    let owed = word-owed periods q s parts.0 in
    let started = owes-started periods q s parts.1 owed.1 owed.0 in
    let known = notifies p s notify (started-known p q s right.stronger.known_starts started) in
    let unready = owes-unready periods q s parts.1 owed.1 owed.0 in
    rw (on, known, started, unready) refl

-- an event that doesn't fit
stray-none : (p : Plan) (periods : List ℕ) (q : Record) (e : Event) → AllNotify p → each_entry (head_due periods) (Got e ∷ q) ≡ true → Right p q
    → has_ended p q ≡ false → (Fits p q e → ⊥) → owing periods (Got e ∷ q) ≡ []
stray-none p periods q (Moment m) notify heads right on misfit =
    let parts = and_parts (is_none (owing periods q)) (each_entry (head_due periods) q) heads in
    elim (cases_Bool (nat_le (now q) m)) [
      | inl forward ↦ absurd (misfit (rw (on, forward) refl))
      | inr back ↦ (
          let late : nat_lt m (now q) ≡ true = backward (now q) m back in
          filter-none (owes periods (Got (Moment m) ∷ q)) (length periods) 0 (λ s low high.
          let idle : due_at periods q m s ≡ 0 = off (has is_shutdown q) (nat_lt m (now q)) _ late in
          rw (owes-none periods q s (omega arith) parts.0, idle) refl))
    ]
  where
    backward : (a b : ℕ) → nat_le a b ≡ false → nat_lt b a ≡ true
    backward a b h = grind (arith, nat_tests)

    off : (x y : Bool) (n : ℕ) → y ≡ true → ◌≡◌ {A = ℕ} (if x || y then 0 else n) 0
    off true y n h = refl
    off false y n h = rw h refl
stray-none p periods q (Ready s) notify heads right on misfit = absurd (misfit (ready-fits p periods q s notify heads right on))
stray-none p periods q e notify heads right on misfit =
    none-is (owing periods q) (and_parts (is_none (owing periods q)) (each_entry (head_due periods) q) heads).0

-- where none owes its word, each has said it
told-all : (periods : List ℕ) (q : Record) → KeepsWords periods q → owing periods q ≡ [] → are_told periods q ≡ true
told-all periods q keeps none =
    same_bytes (readies_since q) (first_runs periods q) (sym (keeps.words ∙ ap (λ xs. readies_since q ++ xs) none ∙ append-nil (readies_since q)))

pub ends_told : (p : Plan) (turns : ℕ) (answer : Result Outcome RunError) (periods : List ℕ) (q : Record) → AllNotify p → KeepsWords periods q
    → RunEnds p turns answer q
    → (answer ≡ Err HostFault → owing periods q ≡ []) → (answer ≡ Err OutOfEvents → owing periods q ≡ []) → EndsTold answer periods q
ends_told p turns (Ok Served) periods q notify keeps end fault idle = told-all periods q keeps (served-none p periods q keeps end)
ends_told p turns (Ok TestPassed) periods q notify keeps (finished, end) fault idle =
    let heads = sym (untold-heads periods finished (closing_actions p finished None))
    ∙ subst (λ r. each_entry (head_due periods) r ≡ true) end.closed keeps.heads in
    told-all periods q keeps
    (ap (owing periods) end.closed ∙ untold-owing periods finished (closing_actions p finished None)
    ∙ tested-none p periods finished notify heads end.right end.ended)
ends_told p turns (Ok (Parent n)) periods q notify keeps (finished, end) fault idle =
    let only = sym (untold-only finished (closing_actions p finished None))
    ∙ subst (λ r. each_entry (λ e before. is_job_entry e) r ≡ true) end.closed keeps.only_jobs in
    absurd (calm p finished (ends.Parent n) only end.ended)
ends_told p turns (Err (Bootstrap error)) periods q notify keeps (finished, end) fault idle =
    let only = sym (untold-only finished (closing_actions p finished None))
    ∙ subst (λ r. each_entry (λ e before. is_job_entry e) r ≡ true) end.closed keeps.only_jobs in
    absurd (calm p finished (ends.Ended error) only end.ended)
ends_told p turns (Err (Config key)) periods q notify keeps end fault idle = rw end refl
ends_told p turns (Err HostFault) periods q notify keeps end fault idle = told-all periods q keeps (fault refl)
ends_told p turns (Err OutOfEvents) periods q notify keeps end fault idle = told-all periods q keeps (idle refl)
ends_told p turns (Err (Stray k)) periods q notify keeps (finished, (e, end)) fault idle =
    let actions = closing_actions p finished (Some e) in
    let closed = end.closed.closed in
    let words : owing periods q ≡ owing periods (Got e ∷ finished) = ap (owing periods) closed ∙ untold-owing periods (Got e ∷ finished) actions in
    let heads = sym (untold-heads periods (Got e ∷ finished) actions) ∙ subst (λ r. each_entry (head_due periods) r ≡ true) closed keeps.heads in
    told-all periods q keeps (words ∙ stray-none p periods finished e notify heads end.closed.right end.closed.goes_on end.misfit)
ends_told p turns (Err TurnsSpent) periods q notify keeps end fault idle = tt
ends_told p turns (Err NoMemory) periods q notify keeps end fault idle = tt

-- the services of jobs all do
pub all_notify : {B : Type 0} (means : Ghosts B) (conf : ServerConf) (options : Option Opt) (eager : Bool) (g : GraphData) (xs : List B)
    → ((b : B) → means.of_kind b ≡ Notifying)
    → AllNotify (plan_of conf options eager g (answers_of means xs))
all_notify {B} means conf options eager g xs notify s x at = by 0 xs s at
  where
    by : (k : ℕ) (xs : List B) (s : ℕ) → slice_get (with_depends g k (answers_of means xs)) s ≡ Some x → x.kind ≡ Notifying
    by k [] s at = absurd (cc)
    by k (b ∷ xs) zero at =
        (let same : record {
          name = means.named b;
          kind = means.of_kind b;
          depends = depends_of g k;
          declared = means.declares b;
          endpoints = means.configures b;
        } ≡ x = cc in ap (λ (y : ServicePlan). y.kind) (sym same) ∙ notify b)
    by k (b ∷ xs) (suc s) at = by (k + 1) xs s at

-- a count that rose isn't 0
pub risen : (before now : ℕ) → Rose before now → 0 < now
risen before now rose = omega arith
