-- The table that is offered to a successor, as the live descriptors make it.
use Rattle.std.specs.Prelude.{ℕ, Bool, List, [], Option, Some, None, is_some}
use Rattle.std.specs.List.{filter_map}
use Rattle.svc_fds.specs.Tables.{Entry as TableEntry, put_all}
use Rattle.svc_endpoints.specs.declared.table.Open.{Open}

-- the descriptor with its address, where it has one
abbrev pub open_entry : Open → Option TableEntry
open_entry o = with_number o.fd o.address
  where
    with_number : ℕ → Option (List ℕ) → Option TableEntry
    with_number n (Some a) = Some (a, n)
    with_number n None = None

-- the live descriptors that have an address, in byte order of the addresses
abbrev pub offer_table : List Open → List TableEntry
offer_table table = put_all (filter_map open_entry table) []

-- the descriptor has an address
abbrev pub is_addressed : Open → Bool
is_addressed o = is_some o.address
