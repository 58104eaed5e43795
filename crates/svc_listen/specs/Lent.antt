-- A table that a call is lent, if it is.
use Rattle.std.specs.Prelude.{List, Option, Some, None, ◌⊎◌}
use Rattle.std.proofs.Common.{inl, inr}
use Rattle.std.specs.Borrow.{MutBor}
use Rattle.svc_fds.specs.FdTable.{FdTable}
use Rattle.svc_fds.specs.Tables.{Entry}

-- its entries before the call
abbrev pub table_before : Option (MutBor FdTable) → Option (List Entry)
table_before None = None
table_before (Some table) = Some table.now.entries

-- its entries after it
abbrev pub table_after : {A B : Type 0} → Unit {0} ⊎ ((MutBor FdTable × A) ⊎ B) → Option (List Entry)
table_after (inl none) = None
table_after (inr (inl table)) = Some table.0.now.entries
table_after (inr (inr never)) = None
