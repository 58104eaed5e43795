-- What a source has left, what a sink has taken, and the faults of both.
use Rattle.std.specs.Prelude.{◌≡◌, ℕ, ◌+◌, ◌-◌, ◌^◌, ◌<◌, ◌≤◌, min, List, [], take, Option}
use Rattle.std.specs.Io.KnownBytes.{IsAtEnd}
use Rattle.svc_base.specs.declared.source.Taken.{Taken}
use Rattle.svc_base.specs.declared.source.Taken.TheVariants.{Got, End, Failed}
use Rattle.svc_base.specs.declared.sink.Put.{Put}
use Rattle.svc_base.specs.declared.sink.Put.TheVariants as puts

-- a count of 64 bits that rose, or stands at its greatest value
abbrev pub Rose : ℕ → ℕ → Type 0
Rose before now = min (before + 1) (2 ^ 64 - 1) ≤ now

-- what a read answers, and how many bytes it may have taken
abbrev pub ReadFits : Taken → ℕ → Type 0
ReadFits (Got n) room = (0 < n) × (n ≤ room)
ReadFits End room = Unit {0}
ReadFits Failed room = Unit {0}

-- the bytes that a read put at the front of the buffer
abbrev pub taken_bytes : Taken → List ℕ → List ℕ
taken_bytes (Got n) buffer = take n buffer
taken_bytes End buffer = []
taken_bytes Failed buffer = []

abbrev pub EndsRight : Taken → Option (List ℕ) → Type 0
EndsRight (Got n) left = Unit {0}
EndsRight End left = IsAtEnd left
EndsRight Failed left = Unit {0}

abbrev pub ReadFaults : Taken → ℕ → ℕ → Type 0
ReadFaults (Got n) before now = now ≡ before
ReadFaults End before now = now ≡ before
ReadFaults Failed before now = Rose before now

abbrev pub WriteFits : Put → ℕ → Type 0
WriteFits (puts.Wrote n) room = (0 < n) × (n ≤ room)
WriteFits puts.Failed room = Unit {0}

abbrev pub put_bytes : Put → List ℕ → List ℕ
put_bytes (puts.Wrote n) piece = take n piece
put_bytes puts.Failed piece = []

abbrev pub WriteFaults : Put → ℕ → ℕ → Type 0
WriteFaults (puts.Wrote n) before now = now ≡ before
WriteFaults puts.Failed before now = Rose before now
