-- What contracts see of a host that keeps the account over an inner one.
use Rattle.std.specs.Prelude.{ℕ, List, Option}
use Rattle.svc_record.specs.declared.event.Event.{Event}
use Rattle.svc_record.specs.Record.{Record}

-- the inner host; the record and the services that were handed over, each with its number, both with the newest first; how often it failed, how often
-- nothing came, and how many events came that tell a failure; for how much more there is memory; the last event that came
pub record AccountHostData (H B : Type 0) : Type 0 where
  pub inner : H
  pub entries : Record
  pub handed : List (ℕ × B)
  pub faults : ℕ
  pub idles : ℕ
  pub failures : ℕ
  pub spare : ℕ
  pub last : Option Event
