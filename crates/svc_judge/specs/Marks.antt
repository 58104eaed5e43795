-- The phases and the broadcast, taken from a record one by one.
use Rattle.std.specs.Prelude.{Bool, true, false, List, [], ◌∷◌, Option, Some, None, if◌then◌else◌}
use Rattle.std.specs.List.{list_any}
use Rattle.svc_record.specs.declared.plan.Plan.{Plan}
use Rattle.svc_record.specs.declared.entry.Entry.TheVariants.{Told}
use Rattle.svc_record.specs.declared.action.Action.TheVariants.{Phase, Broadcast}
use Rattle.svc_record.specs.declared.action.ExecutionPhase.{ExecutionPhase}
use Rattle.svc_record.specs.declared.action.ExecutionPhase.TheVariants.{ShutdownStarted}
use Rattle.svc_record.specs.declared.event.ShutdownSignal.{ShutdownSignal}
use Rattle.svc_record.specs.Record.{Record}
use Rattle.svc_record.specs.Drain.{Mark, phase, broadcast, is_boot_phase, same_mark, row_by}
use Rattle.svc_judge.specs.declared.marks.Sign.{Sign}
use Rattle.svc_judge.specs.declared.marks.Sign.TheVariants as signs

-- the mark that it stands for
abbrev pub mark_of : Sign → Mark
mark_of (signs.Phase x) = phase x
mark_of signs.Broadcast = broadcast

-- the mark of a phase
abbrev pub phase_mark : ExecutionPhase → Mark
phase_mark x = phase x

-- what stands before the newest mark, where that is this one; none where it isn't
abbrev pub before_mark : Mark → Record → Option Record
before_mark m [] = None
before_mark m (Told (Phase x ms) ∷ before) = if is_boot_phase x then before_mark m before else (if same_mark (phase x) m then Some before else None)
before_mark m (Told Broadcast ∷ before) = if same_mark broadcast m then Some before else None
before_mark m (e ∷ before) = before_mark m before

-- the same, where there is a record
abbrev pub after_mark : Mark → Option Record → Option Record
after_mark m None = None
after_mark m (Some q) = before_mark m q

-- what stands before these marks, the newest first
abbrev pub strip : List Mark → Option Record → Option Record
strip [] r = r
strip (m ∷ more) r = strip more (after_mark m r)

-- no mark is left
abbrev pub has_no_mark : Record → Bool
has_no_mark [] = true
has_no_mark (Told (Phase x ms) ∷ before) = if is_boot_phase x then has_no_mark before else false
has_no_mark (Told Broadcast ∷ before) = false
has_no_mark (e ∷ before) = has_no_mark before

-- there is a record, and no mark is left in it
abbrev pub is_spent : Option Record → Bool
is_spent None = false
is_spent (Some q) = has_no_mark q

-- the start of the shutdown is among those that are due after the kind of signal
abbrev pub has_start : Plan → Record → Option ShutdownSignal → Bool
has_start p q kind = list_any (same_mark (phase ShutdownStarted)) (row_by p q kind)
