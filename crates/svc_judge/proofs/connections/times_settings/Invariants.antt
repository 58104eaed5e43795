use Rattle.std.proofs.Common.{◌≡◌, ◌+◌, ◌≤◌, length}
use Rattle.svc_record.specs.Record.{times}
use Rattle.svc_record.specs.Connections.{is_settings_of, settings_list}
use Rattle.svc_judge.specs.Pasts.{plan_of, record_of}
use Rattle.svc_judge.proofs.connections.times_settings.Given as goal

abbrev pub invariant-entries : goal.invariant-entries
invariant-entries l =
    (times (is_settings_of (settings_list (plan_of l.past) l.s l.i) l.c) (record_of l.past)
    ≡ l.count + times (is_settings_of (settings_list (plan_of l.past) l.s l.i) l.c) l.rest)
    × (l.count + length l.rest ≤ length (record_of l.past))

abbrev pub decreases-entries : goal.decreases-entries
decreases-entries l = length l.rest
