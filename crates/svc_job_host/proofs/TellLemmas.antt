-- What is told of runs, one after the other.
use Rattle.std.proofs.Common.{ℕ, ◌≡◌, ◌+◌, List, [], ◌++◌, Option, sym, ap, subst, ◌∙◌, append_assoc}
use Rattle.std.specs.Prelude.{slice_get, Some}
use Rattle.std.proofs.lemmas.List.{append-nil, map-append}
use Rattle.svc_job_host.specs.declared.plan.JobPlan.{JobPlan}
use Rattle.svc_job_host.specs.declared.plan.JobRun.{JobRun}
use Rattle.svc_job_host.specs.declared.row.JobRow.{JobRow}
use Rattle.svc_job_host.specs.Dues.{run_of}
use Rattle.svc_job_host.specs.Rows.{row_due, due_in, runs_in}
use Rattle.svc_job_host.specs.Tellers.{name_of, named, TellsMore}
use Rattle.svc_job_host.proofs.RangeLemmas.{flat_map-next}

-- nothing more
pub tells-none : (before after : Option (List (List ℕ × JobRun))) → after ≡ before → TellsMore before after []
tells-none before after same runs is = same ∙ is ∙ ap (λ (xs : List (List ℕ × JobRun)). Some xs) (sym (append-nil runs))

-- some, and then more
pub tells-both : (before now after : Option (List (List ℕ × JobRun))) (xs ys : List (List ℕ × JobRun)) → TellsMore before now xs → TellsMore now after ys
    → TellsMore before after (xs ++ ys)
tells-both before now after xs ys first second runs is =
    second (runs ++ xs) (first runs is) ∙ ap (λ (zs : List (List ℕ × JobRun)). Some zs) (append_assoc runs xs ys)

-- the runs of one job more
pub tells-next : (plans : List JobPlan) (rows : List JobRow) (last m s : ℕ) (before now after : Option (List (List ℕ × JobRun))) (row : JobRow)
    → slice_get rows s ≡ Some row → TellsMore before now (named plans (runs_in rows last m s))
    → TellsMore now after (named plans (run_of s (row_due row last m) m)) → TellsMore before after (named plans (runs_in rows last m (s + 1)))
tells-next plans rows last m s before now after row at first second =
    let due : due_in (slice_get rows s) last m ≡ row_due row last m = ap (λ (o : Option JobRow). due_in o last m) at in
    let both : named plans (runs_in rows last m (s + 1)) ≡ named plans (runs_in rows last m s) ++ named plans (run_of s (row_due row last m) m) =
    ap (named plans) (flat_map-next (λ k. run_of k (due_in (slice_get rows k) last m) m) s ∙ ap (λ n. runs_in rows last m s ++ run_of s n m) due)
    ∙ map-append (λ (run : JobRun). (name_of plans run.job, run)) (runs_in rows last m s) (run_of s (row_due row last m) m) in
    subst (TellsMore before after) (sym both)
    (tells-both before now after (named plans (runs_in rows last m s)) (named plans (run_of s (row_due row last m) m)) first second)
