-- What a host of jobs gives next from its items.
use Rattle.std.specs.Prelude.{Option, Some, None}
use Rattle.svc_record.specs.declared.event.Event.TheVariants.{Moment, Signal}
use Rattle.svc_record.specs.declared.item.Item.{Item}
use Rattle.svc_record.specs.declared.item.Item.TheVariants as items
use Rattle.svc_job_host.specs.declared.upcoming.NextItem.{NextItem}
use Rattle.svc_job_host.specs.declared.upcoming.NextItem.TheVariants as coming

-- the item that it stands for, if there is one
abbrev pub item_of : NextItem → Option Item
item_of (coming.Moment m) = Some (items.Event (Moment m))
item_of (coming.Signal kind) = Some (items.Event (Signal kind))
item_of coming.Fault = Some items.Fault
item_of coming.Nothing = None
