-- How the ends of loops are counted.
use Rattle.std.proofs.Common.{ℕ, ◌+◌, ◌∷◌, ◌≡◌, refl, if◌then◌else◌}
use Rattle.svc_record.specs.declared.plan.Plan.{Plan}
use Rattle.svc_record.specs.declared.entry.Entry.{Entry}
use Rattle.svc_record.specs.declared.entry.Entry.TheVariants.{Got}
use Rattle.svc_record.specs.declared.event.Event.TheVariants.{LoopEnded}
use Rattle.svc_record.specs.Record.{Record}
use Rattle.svc_record.specs.Closes.{ended_loops}
use Rattle.svc_judge.specs.Steps.{ends_loop}

pub ended_step : (p : Plan) (e : Entry) (q : Record) (s i : ℕ)
    → ended_loops p (e ∷ q) s i ≡ (if ends_loop p e q s i then ended_loops p q s i + 1 else ended_loops p q s i)
ended_step p (Got (LoopEnded t k j)) q s i = refl
ended_step p _ q s i = refl
