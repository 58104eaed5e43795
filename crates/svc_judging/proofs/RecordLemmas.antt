-- How a record is read, a line after the other.
use Rattle.std.proofs.Common.{◌≡◌, ℕ, ◌+◌, List, ◌++◌, length, map}
use Rattle.svc_record.specs.declared.entry.Entry.{Entry}
use Rattle.svc_judging.specs.EntryLines.{entry_text}

-- the lines so far are the entries'
pub record ReadSoFar (ls rest : List (List ℕ)) (entries : List Entry) (n : ℕ) : Type 0 where
  pub lines : ls ≡ map entry_text entries ++ rest
  pub number : n ≡ length entries + 1
