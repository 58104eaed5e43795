-- The message of a handover: what a table is written as, and what a message is read as.
use Rattle.std.specs.Prelude.{ℕ, Bool, ◌==◌, not, ◌&&◌, List, length, Option, Some, None, nat_le, if◌then◌else◌}
use Rattle.std.specs.Str.{is_utf8}
use Rattle.svc_fds.specs.declared.encoding.Message.{Message}
use Rattle.svc_fds.specs.Tables.{Entry}
use Rattle.svc_fds.specs.Lists.{has_repeat}
use Rattle.svc_fds.specs.Messages.{is_sayable, written, is_well_formed, words}

-- the table has a message: one of the two versions says it, and it has at most 32 entries
abbrev pub is_encodable : List Entry → Bool
is_encodable t = is_sayable t && nat_le (length t) 32

-- the table's message, if it has one: its addresses in version 1 where that says them, else in version 2, and the descriptors in the same order
abbrev pub encode : List Entry → Option Message
encode t = if is_encodable t then Some (written t) else None

-- the words of a message that came with n descriptors, where it is UTF-8 and has n distinct words, and where it begins as version 2 is a list of
-- lengths and words; else none
abbrev pub decode : List ℕ → ℕ → Option (List (List ℕ))
decode bytes n = if ((is_utf8 bytes && is_well_formed bytes) && length (words bytes) == n) && not (has_repeat (words bytes)) then Some (words bytes) else None
