-- Polls that are lent a stream.
use Rattle.std.specs.Prelude.{◌≡◌, ℕ, List, [], ◌∷◌, Some, slice_get, slice_set}
use Rattle.svc_streams.specs.declared.protocols.l4.stream.L4Stream.{L4Stream}
use Rattle.svc_streams.specs.declared.protocols.l4.stream.StepPoll.{StepPoll}

-- a poll: the stream before it, its answer, and the stream after it
pub record StreamPoll : Type 0 where
  pub before : L4Stream
  pub answer : StepPoll
  pub after : L4Stream

-- the object was polled once, by its meaning: this poll may come at first, and what may come after it, may come of the object that it leaves
pub record IsPolled {P : Type 0} (may : P → List StreamPoll → Type 0) (old new : P) (poll : StreamPoll) : Type 0 where
  pub comes : may old (poll ∷ [])
  pub goes_on : (later : List StreamPoll) → may new later → may old (poll ∷ later)

-- of the objects in the list the one with this number was polled once; the others are what they were
abbrev pub IsPolledAt : {P : Type 0} → (P → List StreamPoll → Type 0) → ℕ → List P → List P → StreamPoll → Type 0
IsPolledAt {P} may number old new poll =
    (p : P) × ((q : P) × ((slice_get old number ≡ Some p) × (new ≡ slice_set old number q) × IsPolled may p q poll))
