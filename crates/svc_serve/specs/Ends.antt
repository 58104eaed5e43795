-- How a program with several generations ends.
use Rattle.std.specs.Prelude.{Bool, true, false, not, ◌||◌, List, [], ◌∷◌, Option, Some, None, Err, nat_lt, if◌then◌else◌}
use Rattle.svc_record.specs.declared.action.BootstrapError.TheVariants as boots
use Rattle.svc_server.specs.declared.run.RunError.TheVariants as errors
use Rattle.svc_serve.specs.declared.ending.Ending.{Ending}
use Rattle.svc_serve.specs.declared.ending.Ending.TheVariants as endings
use Rattle.svc_serve.specs.declared.ends.Ended.{Ended}

-- one that got no sockets of an older generation never served
abbrev pub has_served : Ending → Bool
has_served (endings.Run (Err (errors.Bootstrap boots.NoSender))) = false
has_served ending = true

-- the newest one that has served, of one that is known and another one
abbrev pub newer : Option Ended → Ended → Option Ended
newer None e = if not (has_served e.ending) then None else Some e
newer (Some d) e = if not (has_served e.ending) || nat_lt e.number d.number then Some d else Some e

-- the newest one that has served, of those that ended, the last one to end first
abbrev pub newest : List Ended → Option Ended
newest [] = None
newest (e ∷ es) = newer (newest es) e
