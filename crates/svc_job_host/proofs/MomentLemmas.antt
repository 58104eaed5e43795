-- A moment at which the runs are told and not kept.
use Rattle.std.proofs.Common.{ℕ, true, false, ◌≡◌, ◌+◌, ◌||◌, List, [], ◌∷◌, ◌++◌, length, Option, refl, sym, ap, subst, ◌∙◌, arith}
use Rattle.std.specs.Prelude.{slice_get, Some, nat_lt}
use Rattle.svc_record.specs.declared.entry.Entry.TheVariants.{Got}
use Rattle.svc_record.specs.declared.event.Event.TheVariants.{Moment}
use Rattle.svc_record.specs.Record.{Record, has, now}
use Rattle.svc_job_host.specs.declared.plan.JobPlan.{JobPlan}
use Rattle.svc_job_host.specs.declared.plan.JobRun.{JobRun}
use Rattle.svc_job_host.specs.declared.row.JobRow.{JobRow}
use Rattle.svc_job_host.specs.Dues.{is_shutdown, due_at, due_runs, run_of, runs_at}
use Rattle.svc_job_host.specs.Rows.{row_due, ran_row, due_in, runs_in}
use Rattle.svc_job_host.specs.ServedJobs.{IsKnownOf}
use Rattle.svc_job_host.specs.Tellers.{named, TellsMore}
use Rattle.svc_job_host.specs.TimetableData.{TimetableData}
use Rattle.svc_job_host.proofs.RangeLemmas.{flat_map-same, flat_map-none}
use Rattle.svc_job_host.proofs.TableLemmas.{table_ran, told_moment, due-off}
use Rattle.svc_job_host.proofs.TellLemmas.{tells-none}

-- the runs at it, by the rows
runs-same : (periods : List ℕ) (t : TimetableData) (q : Record) (m : ℕ) → IsKnownOf periods t q → t.shut ≡ false → nat_lt m t.last ≡ false
    → runs_in t.rows t.last m (length t.rows) ≡ runs_at periods q m
runs-same periods t q m known on forward =
    ap (λ n. runs_in t.rows t.last m n) known.sized
    ∙ flat_map-same (λ s. run_of s (due_in (slice_get t.rows s) t.last m) m) (λ s. run_of s (due_at periods q m s) m) (length periods) 0
    (λ s low high. ap (λ n. run_of s n m)
    (told_moment periods (record t { runs = due_runs periods q }) q m s known on forward
    (let sized : length t.rows ≡ length periods = known.sized in omega arith)))

-- jobs run
pub known-ran : (periods : List ℕ) (t : TimetableData) (q : Record) (m : ℕ) (new : TimetableData) → IsKnownOf periods t q
    → t.shut ≡ false → nat_lt m t.last ≡ false
    → ((s : ℕ) (row : JobRow) → slice_get t.rows s ≡ Some row → slice_get new.rows s ≡ Some (ran_row row (row_due row t.last m)))
    → length new.rows ≡ length t.rows → new.last ≡ m → new.shut ≡ t.shut → IsKnownOf periods new (Got (Moment m) ∷ q)
known-ran periods t q m new known on forward ran sized last shut =
    let table = table_ran periods (record t { runs = due_runs periods q }) q m new.rows
    (due_runs periods q ++ runs_in t.rows t.last m (length t.rows)) new.spare known on forward ran sized refl in
    record {
      rows_are = table.rows_are;
      sized = table.sized;
      last_is = last;
      shut_is = shut ∙ table.shut_is;
      runs_are = refl;
    }

-- what is told
pub told-ran : (periods : List ℕ) (t : TimetableData) (q : Record) (m : ℕ) (plans : List JobPlan) (before after : Option (List (List ℕ × JobRun)))
    → IsKnownOf periods t q → t.shut ≡ false → nat_lt m t.last ≡ false
    → TellsMore before after (named plans (runs_in t.rows t.last m (length t.rows))) → TellsMore before after (named plans (runs_at periods q m))
told-ran periods t q m plans before after known on forward told =
    subst (λ (runs : List JobRun). TellsMore before after (named plans runs)) (runs-same periods t q m known on forward) told

pub told-late : (periods : List ℕ) (t : TimetableData) (q : Record) (m : ℕ) (plans : List JobPlan) (before after : Option (List (List ℕ × JobRun)))
    → IsKnownOf periods t q → (t.shut || nat_lt m t.last) ≡ true → after ≡ before → TellsMore before after (named plans (runs_at periods q m))
told-late periods t q m plans before after known off same =
    let off' : (has is_shutdown q || nat_lt m (now q)) ≡ true = rw (← known.shut_is, ← known.last_is) off in
    let none : runs_at periods q m ≡ [] =
    flat_map-none (λ s. run_of s (due_at periods q m s) m) (length periods) 0 (λ s. ap (λ n. run_of s n m) (due-off periods q m s off')) in
    subst (λ (runs : List JobRun). TellsMore before after (named plans runs)) (sym none) (tells-none before after same)
