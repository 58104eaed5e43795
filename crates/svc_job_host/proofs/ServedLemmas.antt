-- What the jobs of a service keep of the server's record as it grows.
use Rattle.std.proofs.Common.{ℕ, zero, suc, Bool, true, false, ◌≡◌, ◌+◌, ◌==◌, List, ◌∷◌, ◌++◌, length, Option, refl, sym, ap, subst, ◌∙◌, append_assoc, add-one}
use Rattle.std.specs.Prelude.{Some, if◌then◌else◌}
use Rattle.std.proofs.lemmas.List.{map-append}
use Rattle.svc_record.specs.declared.action.Action.{Action}
use Rattle.svc_record.specs.declared.action.Action.TheVariants.{Start, Broadcast, Phase}
use Rattle.svc_record.specs.declared.action.ExecutionPhase.TheVariants.{ShutdownRuntimes}
use Rattle.svc_record.specs.declared.entry.Entry.TheVariants.{Got, Told}
use Rattle.svc_record.specs.declared.event.Event.TheVariants.{Moment}
use Rattle.svc_record.specs.Record.{Record}
use Rattle.svc_record.specs.Starts.{is_started}
use Rattle.svc_job_host.specs.declared.plan.JobPlan.{JobPlan}
use Rattle.svc_job_host.specs.declared.plan.JobRun.{JobRun}
use Rattle.svc_job_host.specs.Dues.{due_runs, runs_at}
use Rattle.svc_job_host.specs.JobRecords.{may_start, with_start, with_starts, with_all, with_entry}
use Rattle.svc_job_host.specs.ServedJobs.{IsKnownOf, StartBy, TellsDue, record_of, runs_by}
use Rattle.svc_job_host.specs.ServedJobsData.{ServedJobsData}
use Rattle.svc_job_host.specs.Tellers.{name_of, named, TellsMore}
use Rattle.svc_job_host.specs.TimetableData.{TimetableData}
use Rattle.svc_job_host.specs.Timetables.{periods_of, noted}
use Rattle.svc_job_host.proofs.TableLemmas.{table_told}

-- a start by the record
pub known-start : (plans : List JobPlan) (t : TimetableData) (q : Record) (s : ℕ) → IsKnownOf (periods_of plans) t q
    → IsKnownOf (periods_of plans) (noted t (Start s)) (Told (Start s) ∷ q)
known-start plans t q s known = table_told (periods_of plans) (record t { runs = due_runs (periods_of plans) q }) q (Start s) known

-- the job starts where it is to start
pub known-started : (plans : List JobPlan) (t : TimetableData) (q : Record) (s : ℕ) → may_start plans q s ≡ true → IsKnownOf (periods_of plans) t q
    → IsKnownOf (periods_of plans) (noted t (Start s)) (with_start plans q s)
known-started plans t q s starts known = rw starts (known-start plans t q s known)

-- starts are no runs
no-runs : (plans : List JobPlan) (q : Record) (n : ℕ) → due_runs (periods_of plans) (with_starts plans q n) ≡ due_runs (periods_of plans) q
no-runs plans q zero = refl
no-runs plans q (suc n) = one plans (with_starts plans q n) n ∙ no-runs plans q n
  where
    one : (plans : List JobPlan) (q : Record) (s : ℕ) → due_runs (periods_of plans) (with_start plans q s) ≡ due_runs (periods_of plans) q
    one plans q s = elim (may_start plans q s) as
        (λ b. due_runs (periods_of plans) (if b then Told (Start s) ∷ q else q) ≡ due_runs (periods_of plans) q) [ true ↦ refl | false ↦ refl ]

runs-moment : (plans : List JobPlan) (service : ℕ) (started : Bool) (q : Record) (m : ℕ)
    → due_runs (periods_of plans) (with_entry plans service started (Got (Moment m)) q) ≡ due_runs (periods_of plans) q ++ runs_at (periods_of plans) q m
runs-moment plans service true q m = no-runs plans (Got (Moment m) ∷ q) (length plans)
runs-moment plans service false q m = refl

runs-start : (plans : List JobPlan) (service : ℕ) (started : Bool) (q : Record) (s : ℕ)
    → due_runs (periods_of plans) (with_entry plans service started (Told (Start s)) q) ≡ due_runs (periods_of plans) q
runs-start plans service started q s = elim (s == service) as
    (λ b. due_runs (periods_of plans) (if b then with_all plans q else q) ≡ due_runs (periods_of plans) q)
    [ true ↦ no-runs plans q (length plans) | false ↦ refl ]

runs-told : (plans : List JobPlan) (service : ℕ) (started : Bool) (q : Record) (a : Action)
    → due_runs (periods_of plans) (with_entry plans service started (Told a) q) ≡ due_runs (periods_of plans) q
runs-told plans service started q (Start k) = runs-start plans service started q k
runs-told plans service started q Broadcast = refl
runs-told plans service started q (Phase ShutdownRuntimes ms) = refl
runs-told plans service started q (Phase x ms) = refl
runs-told plans service started q a = refl

-- what is told at a moment
pub tells-moment : (old : ServedJobsData) (m : ℕ) (before after : Option (List (List ℕ × JobRun)))
    → ((q : Record) → IsKnownOf (periods_of old.plans) old.timetable q → TellsMore before after (named old.plans (runs_at (periods_of old.plans) q m)))
    → TellsDue old (Got (Moment m)) before after
tells-moment old m before after told q runs by is =
    let now : after ≡ Some ((runs ++ runs_by old q) ++ named old.plans (runs_at (periods_of old.plans) (record_of old q) m)) =
    told (record_of old q) by.known (runs ++ runs_by old q) is in
    let more : runs_by old (Got (Moment m) ∷ q) ≡ runs_by old q ++ named old.plans (runs_at (periods_of old.plans) (record_of old q) m) =
    ap (named old.plans) (runs-moment old.plans old.service (is_started q old.service) (record_of old q) m)
    ∙ map-append (λ (run : JobRun). (name_of old.plans run.job, run)) (due_runs (periods_of old.plans) (record_of old q))
    (runs_at (periods_of old.plans) (record_of old q) m) in
    now ∙ ap (λ (xs : List (List ℕ × JobRun)). Some xs)
    (append_assoc runs (runs_by old q) (named old.plans (runs_at (periods_of old.plans) (record_of old q) m))
    ∙ ap (λ (xs : List (List ℕ × JobRun)). runs ++ xs) (sym more))

-- nothing is told at an action
pub tells-action : (old : ServedJobsData) (a : Action) (before after : Option (List (List ℕ × JobRun))) → after ≡ before
    → TellsDue old (Told a) before after
tells-action old a before after same q runs by is =
    same ∙ is ∙ ap (λ (xs : List JobRun). Some (runs ++ named old.plans xs))
    (sym (runs-told old.plans old.service (is_started q old.service) (record_of old q) a))

-- one job more
pub starts-more : (old now new : ServedJobsData) (s : ℕ) → StartBy old now (λ q. with_starts old.plans q s)
    → StartBy now new (λ q. with_start now.plans q s) → StartBy old new (λ q. with_starts old.plans q (s + 1))
starts-more old now new s first second =
    rw (add-one s)
    (record {
      service_stays = second.service_stays ∙ first.service_stays;
      plans_stay = second.plans_stay ∙ first.plans_stay;
      started_stays = second.started_stays ∙ first.started_stays;
      known = λ q known. subst
          (λ (plans : List JobPlan). IsKnownOf (periods_of plans) new.timetable (with_start plans (with_starts old.plans q s) s)) first.plans_stay
          (second.known (with_starts old.plans q s)
          (subst (λ (plans : List JobPlan). IsKnownOf (periods_of plans) now.timetable (with_starts old.plans q s)) (sym first.plans_stay)
          (first.known q known)));
    })

-- one job starts, where it is to start
pub starts-one : (old : ServedJobsData) (s : ℕ) (starts : Bool) → starts ≡ true
    → ((q : Record) → IsKnownOf (periods_of old.plans) old.timetable q → starts ≡ may_start old.plans q s)
    → StartBy old (record old { timetable = noted old.timetable (Start s) }) (λ q. with_start old.plans q s)
starts-one old s starts on is = record {
  service_stays = refl;
  plans_stay = refl;
  started_stays = refl;
  known = λ q known. known-started old.plans old.timetable q s (sym (is q known) ∙ on) known;
}
