-- Bytes that go from a source to a sink.
use Rattle.std.specs.Prelude.{◌≡◌, ℕ, Bool, true, false, List, [], ◌++◌, drop, Option}
use Rattle.std.specs.Io.KnownBytes.{Consumes, Appends, IsAtEnd}
use Rattle.svc_work.specs.declared.conveying.Conveyance.{Conveyance}
use Rattle.svc_work.specs.declared.conveying.Conveyed.{Conveyed}
use Rattle.svc_work.specs.declared.conveying.Conveyed.TheVariants as outcomes

-- the bytes that came and didn't go on yet
abbrev pub waiting : Conveyance → List ℕ
waiting conveyance = drop conveyance.from conveyance.bytes.items

-- behind this answer nothing goes on any more
abbrev pub is_last : Conveyed → Bool
is_last outcomes.End = true
is_last outcomes.Over = true
is_last outcomes.NoMemory = true
is_last outcomes.More = false
is_last outcomes.ReadFault = false
is_last outcomes.WriteFault = false

-- that nothing goes on any more was answered before
abbrev pub is_repeated : Conveyed → Bool
is_repeated outcomes.Over = true
is_repeated outcomes.End = false
is_repeated outcomes.NoMemory = false
is_repeated outcomes.More = false
is_repeated outcomes.ReadFault = false
is_repeated outcomes.WriteFault = false

-- what waits afterwards, where this is what didn't go on: all of it, unless there was no memory for it
abbrev pub Waits : Conveyed → List ℕ → List ℕ → Type 0
Waits outcomes.NoMemory waiting rest = waiting ≡ []
Waits outcomes.More waiting rest = waiting ≡ rest
Waits outcomes.ReadFault waiting rest = waiting ≡ rest
Waits outcomes.WriteFault waiting rest = waiting ≡ rest
Waits outcomes.End waiting rest = waiting ≡ rest
Waits outcomes.Over waiting rest = waiting ≡ rest

-- where the source is said to have ended, it has, and nothing waits
abbrev pub EndsRight : Conveyed → Option (List ℕ) → List ℕ → Type 0
EndsRight outcomes.End left waiting = IsAtEnd left × (waiting ≡ [])
EndsRight outcomes.Over left waiting = Unit {0}
EndsRight outcomes.NoMemory left waiting = Unit {0}
EndsRight outcomes.More left waiting = Unit {0}
EndsRight outcomes.ReadFault left waiting = Unit {0}
EndsRight outcomes.WriteFault left waiting = Unit {0}

-- a sink's call ends nothing
abbrev pub GoesOn : Conveyed → Type 0
GoesOn outcomes.End = ⊥
GoesOn outcomes.Over = ⊥
GoesOn outcomes.NoMemory = Unit {0}
GoesOn outcomes.More = Unit {0}
GoesOn outcomes.ReadFault = Unit {0}
GoesOn outcomes.WriteFault = Unit {0}

-- bytes that wait are kept as they are, or there was no memory
abbrev pub Keeps : List ℕ → List ℕ → Conveyed → Conveyed → Type 0
Keeps waiting rest kept outcomes.NoMemory = waiting ≡ []
Keeps waiting rest kept outcome = (waiting ≡ rest) × (outcome ≡ kept)

-- a sink with these bytes written, before and after, took a front of these bytes; the rest waits
pub record Flushes (written written' : Option (List ℕ)) (bytes waiting : List ℕ) (outcome : Conveyed) : Type 0 where
  pub went : List ℕ
  pub rest : List ℕ
  pub whole : bytes ≡ went ++ rest
  pub wrote : Appends written written' went
  pub waits : Waits outcome waiting rest
  pub on : GoesOn outcome

-- from a source with these bytes left, before and after, some came; of what waited and these a front went on, to a sink with these bytes written, before
-- and after; the rest waits
pub record Conveys (left left' written written' : Option (List ℕ)) (waiting waiting' : List ℕ) (outcome : Conveyed) : Type 0 where
  pub came : List ℕ
  pub went : List ℕ
  pub rest : List ℕ
  pub taken : Consumes left left' came
  pub wrote : Appends written written' went
  pub whole : waiting ++ came ≡ went ++ rest
  pub waits : Waits outcome waiting' rest
  pub ends : EndsRight outcome left' waiting'
