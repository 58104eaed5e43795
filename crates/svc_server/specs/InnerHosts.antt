-- What an item that an inner host gives leaves of a record and of its counts.
use Rattle.std.specs.Prelude.{ℕ, ◌+◌, ◌-◌, ◌^◌, ◌∷◌, min, Option, Some, None}
use Rattle.svc_record.specs.declared.entry.Entry.TheVariants.{Got}
use Rattle.svc_record.specs.declared.item.Item.{Item}
use Rattle.svc_record.specs.declared.item.Item.TheVariants as items
use Rattle.svc_record.specs.Record.{Record}

-- a count of 64 bits, with one more; it stands at its greatest value
abbrev pub counted : ℕ → ℕ
counted n = min (n + 1) (2 ^ 64 - 1)

-- the record with what was given: an event stands in it
abbrev pub record_with : Option Item → Record → Record
record_with None q = q
record_with (Some (items.Event e)) q = Got e ∷ q
record_with (Some items.Fault) q = q

-- how often the host failed, with what was given
abbrev pub faults_with : Option Item → ℕ → ℕ
faults_with None n = n
faults_with (Some (items.Event e)) n = n
faults_with (Some items.Fault) n = counted n

-- how often nothing came, with what was given
abbrev pub idles_with : Option Item → ℕ → ℕ
idles_with None n = counted n
idles_with (Some item) n = n
