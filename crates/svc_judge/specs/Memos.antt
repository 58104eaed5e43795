-- What is known of a record's prefix, and needn't be looked for again.
use Rattle.std.specs.Prelude.{Bool, true, false, ◌≡◌, Some, None}
use Rattle.svc_record.specs.declared.plan.Plan.{Plan}
use Rattle.svc_record.specs.declared.entry.Entry.{Entry}
use Rattle.svc_record.specs.declared.entry.Entry.TheVariants.{Got, Told}
use Rattle.svc_record.specs.declared.event.Event.TheVariants.{Ready, Ended, Bound, InUse, BindFailed, Adopted, AdoptFailed}
use Rattle.svc_record.specs.declared.action.Action.TheVariants.{Start, Fail, Bind, Adopt, Close}
use Rattle.svc_record.specs.Record.{Record}
use Rattle.svc_record.specs.Ends.{has_ended}
use Rattle.svc_record.specs.Fits.{accepts}
use Rattle.svc_judge.specs.Still.{is_still}
use Rattle.svc_judge.specs.Stirred.{is_in_run}
use Rattle.svc_judge.specs.declared.memo.Memo.{Memo}
use Rattle.svc_judge.specs.declared.memo.Accepting.{Accepting}

-- what it says is so
pub record IsMemo (m : Memo) (p : Plan) (q : Record) : Type 0 where
  pub ended : (b : Bool) → m.ended ≡ Some b → b ≡ has_ended p q
  pub still : (b : Bool) → m.still ≡ Some b → b ≡ is_still q
  pub in_run : (b : Bool) → m.in_run ≡ Some b → b ≡ is_in_run p q
  pub accepting : (a : Accepting) → m.accepting ≡ Some a → a.holds ≡ accepts p q a.service a.endpoint

-- the entry is of a service, of an endpoint, or a close, by none of which a run ends
abbrev pub is_of_service : Entry → Bool
is_of_service (Got (Ready s)) = true
is_of_service (Got (Ended s)) = true
is_of_service (Got (Bound s i fd)) = true
is_of_service (Got (InUse s i)) = true
is_of_service (Got (BindFailed s i)) = true
is_of_service (Got (Adopted s i)) = true
is_of_service (Got (AdoptFailed s i)) = true
is_of_service (Told (Start s)) = true
is_of_service (Told (Fail s)) = true
is_of_service (Told (Bind s i)) = true
is_of_service (Told (Adopt s i fd)) = true
is_of_service (Told (Close fd)) = true
is_of_service _ = false

-- whether the run has ended, and whether it runs, where that is known, and nothing else
abbrev pub ended_alone : Memo → Memo
ended_alone m = record { ended = m.ended; still = None; in_run = m.in_run; accepting = None }
