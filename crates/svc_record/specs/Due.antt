-- After which events nothing is due.
use Rattle.std.specs.Prelude.{Bool, not, ◌&&◌}
use Rattle.svc_record.specs.declared.plan.Plan.{Plan}
use Rattle.svc_record.specs.Record.{Record}
use Rattle.svc_record.specs.AskRules.{fails_right}
use Rattle.svc_record.specs.Ends.{has_ended}
use Rattle.svc_record.specs.Right.{open_right}

-- the run goes on and nothing is due: the record is right as it is, so no rest and no wait is over of which the end wasn't told
abbrev pub is_calm : Plan → Record → Bool
is_calm p q = not (has_ended p q) && (open_right p q && fails_right p q)
