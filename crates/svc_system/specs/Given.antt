-- What a look at the system gives.
use Rattle.std.specs.Prelude.{ℕ, ◌+◌, ◌-◌, ◌^◌, ◌≤◌, length, min}
use Rattle.svc_record.specs.declared.entry.Entry.TheVariants.{Got}
use Rattle.svc_record.specs.declared.item.Item.{Item}
use Rattle.svc_record.specs.declared.item.Item.TheVariants as items
use Rattle.svc_record.specs.Descriptors.{numbers_of}
use Rattle.svc_system.specs.declared.system.Look.{Look}
use Rattle.svc_system.specs.declared.system.Look.TheVariants as looks

-- an event that it gave brings at most 32 descriptors
abbrev pub GivesFew : Look → Type 0
GivesFew (looks.Event e) = length (numbers_of (Got e)) ≤ 32
GivesFew looks.Nothing = Unit {0}
GivesFew looks.Failed = Unit {0}

-- an event among the items brings at most 32 descriptors
abbrev pub GivesFewItem : Item → Type 0
GivesFewItem (items.Event e) = length (numbers_of (Got e)) ≤ 32
GivesFewItem items.Fault = Unit {0}

-- the number behind this one; the greatest stays
abbrev pub number_behind : ℕ → ℕ
number_behind n = min (n + 1) (2 ^ 64 - 1)
