use Rattle.std.proofs.Common.{ℕ, true, length, ◌≡◌, ◌<◌}
use Rattle.svc_record.specs.Plans.{service_count}
use Rattle.svc_core.specs.StartsState.{is_flagged, ready_now}
use Rattle.svc_core.specs.WaitsState.{Opens, MarksOnly}
use Rattle.svc_core.proofs.waits.Waits.look_at_all.Given as goal

abbrev pub invariant-loop-s : goal.invariant-loop-s
invariant-loop-s l = record {
  count : length l.self.counts.marks ≡ service_count l.plan;
  opens : Opens l.order l.fn.self l.self;
  known : (t : ℕ) → t < l.s → ready_now l.plan l.starts l.failed l.complete t ≡ true → is_flagged l.self.counts.marks t ≡ true;
  only : MarksOnly (ready_now l.plan l.starts l.failed l.complete) l.fn.self l.self;
}
