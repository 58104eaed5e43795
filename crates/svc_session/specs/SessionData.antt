-- What contracts see of a session, and the room that it keeps.
use Rattle.std.specs.Prelude.{ℕ, Bool, false, ◌≡◌, ◌≤◌, List, []}
use Rattle.svc_base.specs.Items.{list_of, spare}
use Rattle.svc_record.specs.declared.action.Action.{Action}
use Rattle.svc_record.specs.declared.entry.Entry.{Entry}
use Rattle.svc_core.specs.CoreData.{CoreData}
use Rattle.svc_core.specs.Rooms.{open_count}

-- the core, what it got and told, the first entry first, and whether all was closed
pub record SessionData : Type 0 where
  pub core : CoreData
  pub entries : List Entry
  pub closed : Bool

-- between calls the list for actions is empty; until all was closed, it and the record have room for closing all that is open
pub record IsKept (core : CoreData) (entries : List Entry × ℕ) (told : List Action × ℕ) (closed : Bool) : Type 0 where
  pub empty : list_of told ≡ []
  pub closing : closed ≡ false → open_count core ≤ spare told
  pub recording : closed ≡ false → open_count core ≤ spare entries
