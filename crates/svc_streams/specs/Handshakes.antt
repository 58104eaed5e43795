-- A poll of a handshake.
use Rattle.std.specs.Prelude.{◌≡◌, ℕ, ◌-◌, leb, Bool, true, false, if◌then◌else◌, List, Option, Some, None, MatchOption, unwrap_or, ◌⊎◌}
use Rattle.std.proofs.Common.{inl, inr}
use Rattle.std.specs.Borrow.{MutBor}
use Rattle.svc_streams.specs.declared.protocols.l4.stream.L4Stream.{L4Stream}
use Rattle.svc_streams.specs.declared.protocols.l4.stream.L4BufferSettings.{L4BufferSettings}
use Rattle.svc_streams.specs.declared.protocols.l4.stream.StepPoll.{StepPoll}
use Rattle.svc_streams.specs.declared.protocols.l4.stream.StepPoll.TheVariants as steps
use Rattle.svc_streams.specs.declared.listeners.handshake.HandshakePoll.{HandshakePoll}
use Rattle.svc_streams.specs.declared.listeners.handshake.HandshakePoll.TheVariants.{Pending, Done, NoTls, PreTls, Tls, TimedOut}
use Rattle.svc_streams.specs.StreamPolls.{StreamPoll, IsPolled, IsPolledAt}
use Rattle.svc_streams.specs.HandshakeData.{HandshakeData}

-- the moment of the first poll, which may be this one
abbrev pub first_of : HandshakeData → ℕ → ℕ
first_of state moment = unwrap_or state.first moment

-- how many milliseconds have passed since the first poll
abbrev pub passed_of : HandshakeData → ℕ → ℕ
passed_of state moment = moment - first_of state moment

-- the first poll sets the buffer
abbrev pub with_buffer : Option ℕ → L4BufferSettings → L4Stream → L4Stream
with_buffer None buffer stream = record stream { buffer = buffer }
with_buffer (Some first) buffer stream = stream

-- a connection that is polled at this moment
abbrev pub begun : HandshakeData → ℕ → HandshakeData
begun state moment = record state { stream = with_buffer state.first state.buffer state.stream; first = Some (first_of state moment) }

-- the answer where a part isn't done yet, so many milliseconds after the first poll
abbrev pub waiting : ℕ → HandshakePoll
waiting passed = if leb 60000 passed then TimedOut else Pending

-- the answer that the callback's decides, if it does
abbrev pub stopped : ℕ → StepPoll → Option HandshakePoll
stopped passed steps.Pending = Some (waiting passed)
stopped passed steps.Done = None
stopped passed steps.Failed = Some PreTls

-- the answer that the backend's decides
abbrev pub shaken : ℕ → StepPoll → HandshakePoll
shaken passed steps.Pending = waiting passed
shaken passed steps.Done = Done
shaken passed steps.Failed = Tls

-- whether the step is done
abbrev pub is_done : StepPoll → Bool
is_done steps.Pending = false
is_done steps.Done = true
is_done steps.Failed = false

-- the answer of the earlier polls, where it isn't Pending
abbrev pub answered : HandshakePoll → Option HandshakePoll
answered Pending = None
answered answer = Some answer

-- the callback that is still to be polled
abbrev pub due : HandshakeData → Option ℕ
due state = if state.past then None else state.callback

-- the callback that is due was polled once; where none is due, none was polled, and it counts as done
abbrev pub CallbackPolled : {P : Type 0} → (P → List StreamPoll → Type 0) → Option ℕ → List P → List P → StreamPoll → Type 0
CallbackPolled may None old new poll = (new ≡ old) × (poll.answer ≡ steps.Done) × (poll.after ≡ poll.before)
CallbackPolled may (Some number) old new poll = IsPolledAt may number old new poll

-- the callback's part of a poll where no answer came before, by whether TLS is set: the early answer, if there is one
abbrev pub Begins : {P : Type 0} → (P → List StreamPoll → Type 0) → Bool → HandshakeData → HandshakeData → ℕ → List P → List P → Option HandshakePoll → Type 0
Begins may false state new passed callbacks_old callbacks_new early =
    (early ≡ Some Done) × (new ≡ record state { answer = Done }) × (callbacks_new ≡ callbacks_old)
Begins may true state new passed callbacks_old callbacks_new early =
    (said : StepPoll) × ((after : L4Stream) × (
    CallbackPolled may (due state) callbacks_old callbacks_new (record { before = state.stream; answer = said; after = after })
    × (early ≡ stopped passed said)
    × (new ≡ record state { stream = after; past = is_done said; answer = unwrap_or early Pending })))

-- the callback's part of a poll at this moment; after an answer nothing is polled, and nothing changes
abbrev pub CallbackPart : {P : Type 0} → (P → List StreamPoll → Type 0) → HandshakeData → HandshakeData → ℕ → List P → List P → Option HandshakePoll → Type 0
CallbackPart may old new moment callbacks_old callbacks_new early =
    MatchOption (answered old.answer)
    (Begins may old.tls (begun old moment) new (passed_of old moment) callbacks_old callbacks_new early)
    (λ answer. (early ≡ Some answer) × (new ≡ old) × (callbacks_new ≡ callbacks_old))

-- the backend's part of a poll: it was polled once, or there is none
abbrev pub BackendPart : {T : Type 0} → (T → List StreamPoll → Type 0) → HandshakeData → HandshakeData → ℕ → Option T → Option T → HandshakePoll → Type 0
BackendPart may old new passed None None result = (result ≡ NoTls) × (new ≡ record old { answer = NoTls })
BackendPart may old new passed (Some before) (Some now) result =
    (said : StepPoll) × ((after : L4Stream) × (
    IsPolled may before now (record { before = old.stream; answer = said; after = after })
    × (result ≡ shaken passed said)
    × (new ≡ record old { stream = after; answer = result })))
BackendPart may old new passed _ _ result = ⊥

-- the rest of a poll: the backend's part, which is left out where an answer has come
abbrev pub Finishes : {T : Type 0} → (T → List StreamPoll → Type 0) → HandshakeData → HandshakeData → ℕ → Option T → Option T → Option HandshakePoll
    → HandshakePoll → Type 0
Finishes may old new passed before now None result = BackendPart may old new passed before now result
Finishes may old new passed before now (Some answer) result = (result ≡ answer) × (new ≡ old) × (now ≡ before)

-- a poll at this moment: the callback's part, and then the rest
abbrev pub IsShaken : {P : Type 0} → {T : Type 0} → (P → List StreamPoll → Type 0) → (T → List StreamPoll → Type 0)
    → HandshakeData → HandshakeData → ℕ → List P → List P → Option T → Option T → HandshakePoll → Type 0
IsShaken may_poll may_shake old new moment callbacks_old callbacks_new backend_old backend_new result =
    (middle : HandshakeData) × ((early : Option HandshakePoll) × (
    CallbackPart may_poll old middle moment callbacks_old callbacks_new early
    × Finishes may_shake middle new (passed_of middle moment) backend_old backend_new early result))

-- whether TLS is set, the buffer and the callback's number are what they were
abbrev pub Keeps : HandshakeData → HandshakeData → Type 0
Keeps old new = (new.tls ≡ old.tls) × (new.buffer ≡ old.buffer) × (new.callback ≡ old.callback)

-- what a lent option holds when a call returns
abbrev pub left_of : {T : Type 0} → {U : Type 0} → {V : Type 0} → {W : Type 0} → U ⊎ ((MutBor T × V) ⊎ W) → Option T
left_of (inl none) = None
left_of (inr (inl some)) = Some some.0.now
left_of (inr (inr never)) = None
