-- What contracts see of an account of which the last event alone is kept.
use Rattle.std.specs.Prelude.{ℕ, List, Option}
use Rattle.svc_record.specs.declared.event.Event.{Event}
use Rattle.svc_record.specs.Record.{Record}

-- the record and the services that were handed over, each with its number, both with the newest first; the last event that came; how often the host
-- failed, how often nothing came, and how many events came that tell a failure
pub record ToldAccountData (B : Type 0) : Type 0 where
  pub entries : Record
  pub handed : List (ℕ × B)
  pub last : Option Event
  pub faults : ℕ
  pub idles : ℕ
  pub failures : ℕ
