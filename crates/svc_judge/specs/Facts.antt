-- What is looked up in a record often, made once.
use Rattle.std.specs.Prelude.{Bool, not, List, [], ◌∷◌, filter, length}
use Rattle.std.specs.List.{filter_map}
use Rattle.svc_record.specs.declared.entry.Entry.{Entry}
use Rattle.svc_record.specs.declared.entry.Entry.TheVariants.{Got}
use Rattle.svc_record.specs.declared.event.Event.TheVariants.{Received}
use Rattle.svc_record.specs.Message.{decode}
use Rattle.svc_record.specs.Boot.{is_read}
use Rattle.svc_record.specs.Record.{Record, has}
use Rattle.svc_record.specs.Descriptors.{Descriptor, is_close, as_entry}
use Rattle.svc_fds.specs.Tables.{Entry as TableEntry, put_all}

-- no close of it was told
abbrev pub is_unclosed : Record → Descriptor → Bool
is_unclosed q d = not (has (is_close d.number) q)

-- the table with the descriptor, where it is live and has an address
abbrev pub put_live : Record → Descriptor → List TableEntry → List TableEntry
put_live q d es = put_all (filter_map as_entry (filter (is_unclosed q) (d ∷ []))) es

-- whether the entry's message can be read, if it has one
abbrev pub reads_at : Entry → List Bool
reads_at (Got (Received bytes fds)) = is_read (decode bytes (length fds)) ∷ []
reads_at _ = []
