-- What contracts see of a host that shows its record to a recorder.
use Rattle.std.specs.Prelude.{ℕ, List, Option}
use Rattle.svc_record.specs.declared.event.Event.{Event}
use Rattle.svc_record.specs.Record.{Record}

-- the inner host; the recorder; the record and the services that were handed over, each with its number, both with the newest first; the last event that
-- came; how often it failed, how often nothing came, and how many events came that tell a failure
pub record RecordedHostData (H K B : Type 0) : Type 0 where
  pub inner : H
  pub recorder : K
  pub entries : Record
  pub handed : List (ℕ × B)
  pub last : Option Event
  pub faults : ℕ
  pub idles : ℕ
  pub failures : ℕ
