-- Why a poll of a handshake answers as it does.
use Rattle.std.proofs.Common.{◌≡◌, ℕ, Bool, true, false, List, Option, Some, None, IsSome, MatchOption, ◌⊎◌, inl, inr, refl, sym, ap, subst, ◌∙◌, if◌then◌else◌}
use Rattle.std.proofs.lemmas.Bool.Decides.{leb_tells}
use Rattle.svc_streams.specs.declared.protocols.l4.stream.L4Stream.{L4Stream}
use Rattle.svc_streams.specs.declared.protocols.l4.stream.StepPoll.{StepPoll}
use Rattle.svc_streams.specs.declared.protocols.l4.stream.StepPoll.TheVariants as steps
use Rattle.svc_streams.specs.declared.listeners.handshake.HandshakePoll.{HandshakePoll}
use Rattle.svc_streams.specs.declared.listeners.handshake.HandshakePoll.TheVariants.{Pending, Done, NoTls, PreTls, Tls, TimedOut}
use Rattle.svc_streams.specs.StreamPolls.{StreamPoll}
use Rattle.svc_streams.specs.HandshakeData.{HandshakeData}
use Rattle.svc_streams.specs.Handshakes.{CallbackPolled, Begins, CallbackPart, BackendPart, Finishes, answered, begun, due, passed_of, waiting, stopped, shaken}
use Rattle.svc_streams.specs.HandshakeCauses.{IsCaused}

-- an answer of an earlier poll stays
stays : {T : Type 0} (state : HandshakeData) (moment : ℕ) (backend : Option T) (answer : HandshakePoll)
    → state.answer ≡ answer → answered answer ≡ Some answer → IsCaused state moment backend answer
stays state moment backend Pending e h = absurd (cc)
stays state moment backend Done e h = inl e
stays state moment backend NoTls e h = inl e
stays state moment backend PreTls e h = inl e
stays state moment backend Tls e h = inl e
stays state moment backend TimedOut e h = inl e

-- an answer is Pending, or it stays
either : (answer : HandshakePoll) (X : Type 0) (Y : HandshakePoll → Type 0) → MatchOption (answered answer) X Y
    → ((answered answer ≡ None) × X) ⊎ ((answered answer ≡ Some answer) × Y answer)
either Pending X Y h = inl (refl, h)
either Done X Y h = inr (refl, h)
either NoTls X Y h = inr (refl, h)
either PreTls X Y h = inr (refl, h)
either Tls X Y h = inr (refl, h)
either TimedOut X Y h = inr (refl, h)

-- a part isn't done yet
waits : {T : Type 0} (state : HandshakeData) (moment : ℕ) (backend : Option T) (result : HandshakePoll)
    → answered state.answer ≡ None → state.tls ≡ true → result ≡ waiting (passed_of state moment) → IsCaused state moment backend result
waits state moment backend result open_yet tls e =
    let P : HandshakePoll → Type 0 = λ answer. IsCaused state moment backend answer in
    let passed = passed_of state moment in
    subst P (sym e) ((elim (leb_tells 60000 passed) as (λ _. P (waiting passed)) [
      | inl late ↦ subst (λ b. P (if b then TimedOut else Pending)) (sym late.0) (inr (tls, late.1))
      | inr early ↦ subst (λ b. P (if b then TimedOut else Pending)) (sym early.0) (open_yet, tls, early.1)
    ]))

-- the backend decides
by_backend : {T : Type 0} (may : T → List StreamPoll → Type 0) (state middle new : HandshakeData) (moment : ℕ) (before now : Option T) (result : HandshakePoll)
    → answered state.answer ≡ None → state.tls ≡ true → passed_of middle moment ≡ passed_of state moment
    → BackendPart may middle new (passed_of middle moment) before now result → IsCaused state moment before result
by_backend {T = T} may state middle new moment None None result open_yet tls same h =
    let P : HandshakePoll → Type 0 = λ answer. IsCaused {T = T} state moment None answer in subst P (sym h.0) (inr (tls, refl))
by_backend may state middle new moment None (Some now) result open_yet tls same h = absurd h
by_backend may state middle new moment (Some before) None result open_yet tls same h = absurd h
by_backend may state middle new moment (Some before) (Some now) result open_yet tls same h =
    let P : HandshakePoll → Type 0 = λ answer. IsCaused state moment (Some before) answer in
    (elim h.0 as (λ said. result ≡ shaken (passed_of middle moment) said → P result) [
      | steps.Pending ↦ λ e. waits state moment (Some before) result open_yet tls (e ∙ ap waiting same)
      | steps.Done ↦ λ e. subst P (sym e) (inr (inr refl))
      | steps.Failed ↦ λ e. subst P (sym e) (inr (tls, refl))
    ]) h.1.1.1

-- an early answer is the poll's
early_is : {T : Type 0} (may : T → List StreamPoll → Type 0) (middle new : HandshakeData) (passed : ℕ) (before now : Option T) (early : Option HandshakePoll)
    (answer result : HandshakePoll)
    → early ≡ Some answer → Finishes may middle new passed before now early result → result ≡ answer
early_is may middle new passed before now early answer result e h =
    let Q : Option HandshakePoll → Type 0 = λ o. Finishes may middle new passed before now o result in
    let f : Finishes may middle new passed before now (Some answer) result = subst Q e h in
    f.0

-- a callback that failed was due
was_due : {P : Type 0} (may : P → List StreamPoll → Type 0) (callback : Option ℕ) (old new : List P) (poll : StreamPoll)
    → CallbackPolled may callback old new poll → poll.answer ≡ steps.Failed → IsSome callback
was_due may None old new poll h e = absurd (cc)
was_due may (Some number) old new poll h e = refl

-- with TLS
by_callback : {P : Type 0} {T : Type 0} (may_poll : P → List StreamPoll → Type 0) (may_shake : T → List StreamPoll → Type 0) (state middle new : HandshakeData)
    (moment : ℕ) (callbacks_old callbacks_new : List P)
    (before now : Option T) (early : Option HandshakePoll) (result : HandshakePoll) → answered state.answer ≡ None → state.tls ≡ true
    → (said : StepPoll) (after : L4Stream)
    → CallbackPolled may_poll (due state) callbacks_old callbacks_new (record { before = (begun state moment).stream; answer = said; after = after })
    → early ≡ stopped (passed_of state moment) said → passed_of middle moment ≡ passed_of state moment
    → Finishes may_shake middle new (passed_of middle moment) before now early result → IsCaused state moment before result
by_callback may_poll may_shake state middle new moment callbacks_old callbacks_new before now early result open_yet tls steps.Pending after p e same h =
    waits state moment before result open_yet tls (early_is may_shake middle new (passed_of middle moment) before now early _ result e h)
by_callback may_poll may_shake state middle new moment callbacks_old callbacks_new before now early result open_yet tls steps.Done after p e same h =
    let Q : Option HandshakePoll → Type 0 = λ o. Finishes may_shake middle new (passed_of middle moment) before now o result in
    by_backend may_shake state middle new moment before now result open_yet tls same (subst Q e h)
by_callback may_poll may_shake state middle new moment callbacks_old callbacks_new before now early result open_yet tls steps.Failed after p e same h =
    let P : HandshakePoll → Type 0 = λ answer. IsCaused state moment before answer in
    let d : IsSome (due state) = was_due may_poll (due state) callbacks_old callbacks_new _ p refl in
    subst P (sym (early_is may_shake middle new (passed_of middle moment) before now early _ result e h)) (inr (tls, d))

-- where no answer came before
goes_on : {P : Type 0} {T : Type 0} (may_poll : P → List StreamPoll → Type 0) (may_shake : T → List StreamPoll → Type 0) (state middle new : HandshakeData)
    (moment : ℕ) (callbacks_old callbacks_new : List P)
    (before now : Option T) (early : Option HandshakePoll) (result : HandshakePoll) → answered state.answer ≡ None
    → (tls : Bool) → state.tls ≡ tls → Begins may_poll tls (begun state moment) middle (passed_of state moment) callbacks_old callbacks_new early
    → Finishes may_shake middle new (passed_of middle moment) before now early result → IsCaused state moment before result
goes_on may_poll may_shake state middle new moment callbacks_old callbacks_new before now early result open_yet false e b h =
    let P : HandshakePoll → Type 0 = λ answer. IsCaused state moment before answer in
    subst P (sym (early_is may_shake middle new (passed_of middle moment) before now early _ result b.0 h)) (inr (inl e))
goes_on may_poll may_shake state middle new moment callbacks_old callbacks_new before now early result open_yet true e b h =
    by_callback may_poll may_shake state middle new moment callbacks_old callbacks_new before now early result open_yet e
    b.0 b.1.0 b.1.1.0 b.1.1.1 (ap (λ s. passed_of s moment) b.1.1.2) h

-- each answer has its cause
pub caused : {P : Type 0} {T : Type 0} (may_poll : P → List StreamPoll → Type 0) (may_shake : T → List StreamPoll → Type 0) (state middle new : HandshakeData)
    (moment : ℕ) (callbacks_old callbacks_new : List P)
    (before now : Option T) (early : Option HandshakePoll) (result : HandshakePoll)
    → CallbackPart may_poll state middle moment callbacks_old callbacks_new early
    → Finishes may_shake middle new (passed_of middle moment) before now early result → IsCaused state moment before result
caused may_poll may_shake state middle new moment callbacks_old callbacks_new before now early result c h =
    let P : HandshakePoll → Type 0 = λ answer. IsCaused state moment before answer in
    elim (either state.answer
    (Begins may_poll state.tls (begun state moment) middle (passed_of state moment) callbacks_old callbacks_new early)
    (λ answer. (early ≡ Some answer) × (middle ≡ state) × (callbacks_new ≡ callbacks_old)) c) as (λ _. IsCaused state moment before result) [
      | inl begins ↦ goes_on may_poll may_shake state middle new moment callbacks_old callbacks_new before now early result begins.0 state.tls refl begins.1 h
      | inr earlier ↦
          subst P (sym (early_is may_shake middle new (passed_of middle moment) before now early state.answer result earlier.1.0 h))
          (stays state moment before state.answer refl earlier.0)
    ]
