-- What contracts see of a script host.
use Rattle.std.specs.Prelude.{ℕ, List, Option}
use Rattle.svc_record.specs.declared.event.Event.{Event}
use Rattle.svc_record.specs.declared.item.Item.{Item}
use Rattle.svc_record.specs.Record.{Record}

-- the items that it gave and those that are left, in order; its record and the services that it was handed, each with its number, both with the
-- newest first; how often it failed, how often it had nothing more to give, and how often it gave an event that tells a failure; its room; the last
-- event that it gave
pub record ScriptHostData (B : Type 0) : Type 0 where
  pub taken : List Item
  pub left : List Item
  pub entries : Record
  pub handed : List (ℕ × B)
  pub faults : ℕ
  pub idles : ℕ
  pub failures : ℕ
  pub spare : ℕ
  pub last : Option Event
