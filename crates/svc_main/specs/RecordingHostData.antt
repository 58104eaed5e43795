-- What contracts see of a host that shows its record to a recorder.
use Rattle.std.specs.Prelude.{ℕ, List, Option}
use Rattle.svc_record.specs.declared.event.Event.{Event}
use Rattle.svc_record.specs.declared.item.Item.{Item}

-- the items that are left, in order; the recorder; the services that were handed over, each with its number, the newest first; the last event that
-- came; how often it failed, how often nothing came, and how many events came that tell a failure
pub record RecordingHostData (R B : Type 0) : Type 0 where
  pub left : List Item
  pub recorder : R
  pub handed : List (ℕ × B)
  pub last : Option Event
  pub faults : ℕ
  pub idles : ℕ
  pub failures : ℕ
