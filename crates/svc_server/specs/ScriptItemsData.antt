-- What contracts see of the items of a script host.
use Rattle.std.specs.Prelude.{ℕ, List}
use Rattle.svc_record.specs.declared.action.ExecutionPhase.{ExecutionPhase}
use Rattle.svc_record.specs.declared.item.Item.{Item}
use Rattle.svc_server.specs.declared.host.Next.{Next}

-- the answers so far, the items that are left, and the phases that were told, each in order; for how many more there is memory
pub record ScriptItemsData : Type 0 where
  pub answers : List Next
  pub left : List Item
  pub phases : List ExecutionPhase
  pub spare : ℕ
