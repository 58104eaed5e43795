-- When something is due of the end of a run.
use Rattle.std.specs.Prelude.{ℕ, Bool, not, ◌||◌, Option}
use Rattle.svc_record.specs.declared.plan.Plan.{Plan}
use Rattle.svc_drain.specs.DrainData.{DrainData}
use Rattle.svc_drain.specs.DrainState.{is_told_far, passes_at}

-- at the moment t something more is to be told of the shutdown, or its waits have passed
abbrev pub is_due_at : Plan → DrainData → Option ℕ → ℕ → Bool
is_due_at p d over t = not (is_told_far d.stage d.signal over t) || passes_at p d.stage t
