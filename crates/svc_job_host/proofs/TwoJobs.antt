-- The runs and the words of two jobs, of which the second depends on the first, in a whole run.
use Rattle.std.proofs.Common.{ℕ, true, false, ◌≡◌, List, [], ◌∷◌, refl, reverse}
use Rattle.svc_record.specs.declared.entry.Entry.{Entry}
use Rattle.svc_record.specs.declared.entry.Entry.TheVariants.{Got, Told}
use Rattle.svc_record.specs.declared.event.Event.TheVariants.{Moment, Ready, Signal}
use Rattle.svc_record.specs.declared.event.ShutdownSignal.TheVariants.{GracefulTerminate as TerminateSignal}
use Rattle.svc_record.specs.declared.action.Action.TheVariants.{Start, Phase, Broadcast}
use Rattle.svc_record.specs.declared.action.ExecutionPhase.TheVariants.{Running}
use Rattle.svc_job_host.specs.declared.plan.JobRun.{JobRun}
use Rattle.svc_job_host.specs.Dues.{due_runs}
use Rattle.svc_job_host.specs.Readies.{readies_right}

-- job 0 runs every second and job 1 every half second, once job 0 has run
periods : List ℕ
periods = 1000 ∷ 500 ∷ []

-- the entries that matter, the oldest first
run : List Entry
run =
    Told (Phase Running 0) ∷ Told (Start 0) ∷ Got (Moment 999) ∷ Got (Moment 1000) ∷ Got (Ready 0) ∷ Told (Start 1) ∷ Got (Moment 1499) ∷ Got (Moment 2600)
    ∷ Got (Ready 1) ∷ Got (Signal TerminateSignal) ∷ Told Broadcast ∷ Got (Moment 9000) ∷ []

run_at : ℕ → ℕ → ℕ → JobRun
run_at s due m = record { job = s; due = due; moment = m }

runs : due_runs periods (reverse run) ≡ run_at 0 1 1000 ∷ run_at 0 1 2600 ∷ run_at 1 3 2600 ∷ []
unfolding periods run run_at
runs = refl

in_turn : readies_right periods (reverse run) ≡ true
unfolding periods run
in_turn = refl

-- a moment that comes between the first run of job 0 and its `Ready`
late : List Entry
late = Told (Start 0) ∷ Got (Moment 1000) ∷ Got (Moment 1001) ∷ Got (Ready 0) ∷ []

late-refused : readies_right periods (reverse late) ≡ false
unfolding periods late
late-refused = refl

-- a `Ready` that is told twice
twice : List Entry
twice = Told (Start 0) ∷ Got (Moment 1000) ∷ Got (Ready 0) ∷ Got (Ready 0) ∷ []

twice-refused : readies_right periods (reverse twice) ≡ false
unfolding periods twice
twice-refused = refl

-- a run far from the start, in one step
greatest : due_runs (18446744073709551615 ∷ []) (Got (Moment 18446744073709551615) ∷ Told (Start 0) ∷ []) ≡ run_at 0 1 18446744073709551615 ∷ []
unfolding run_at
greatest = refl
