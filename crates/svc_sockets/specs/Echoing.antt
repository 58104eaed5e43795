-- What an echo read and wrote.
use Rattle.std.specs.Prelude.{◌≡◌, ℕ, ◌≤◌, List, length, take, Option}
use Rattle.std.specs.Io.KnownBytes.{Consumes, Appends, IsAtEnd}
use Rattle.svc_base.specs.Streams.{Rose}
use Rattle.svc_sockets.specs.declared.echoing.EchoEnd.{EchoEnd}
use Rattle.svc_sockets.specs.declared.echoing.EchoEnd.TheVariants.{Done, ReadFault, WriteFault, TurnsSpent}

-- why it ended, where so many bytes were read and so many written: done at the source's end with all written; by a fault of the source or of the
-- sink, whose count rose; or after so many pieces, of a byte at least, with all written
abbrev pub EndsFor : Option (List ℕ) → ℕ → ℕ → ℕ → ℕ → ℕ → ℕ → ℕ → EchoEnd → Type 0
EndsFor left r r' w w' turns read put Done = (put ≡ read) × IsAtEnd left
EndsFor left r r' w w' turns read put ReadFault = (put ≡ read) × Rose r r'
EndsFor left r r' w w' turns read put WriteFault = Rose w w'
EndsFor left r r' w w' turns read put TurnsSpent = (put ≡ read) × (turns ≤ read)

-- from a source with these bytes left, before and after, to a sink with these bytes written, before and after, and their counts of faults: some bytes
-- were read, and a front of them was written
pub record IsEchoed (left left' written written' : Option (List ℕ)) (r r' w w' turns : ℕ) (end : EchoEnd) : Type 0 where
  pub read : List ℕ
  pub put : ℕ
  pub within : put ≤ length read
  pub taken : Consumes left left' read
  pub wrote : Appends written written' (take put read)
  pub ends : EndsFor left' r r' w w' turns (length read) put end
