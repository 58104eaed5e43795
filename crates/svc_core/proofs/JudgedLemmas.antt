-- What a core tells judges a connection only where one has arrived.
use Rattle.std.proofs.Common.{ℕ, Bool, true, false, not, ◌||◌, ◌&&◌, ◌≡◌, List, [], ◌∷◌, refl, ap, ◌∙◌, Option, Some, None, if◌then◌else◌}
use Rattle.std.specs.List.{list_all}
use Rattle.std.proofs.lemmas.Bool.{eq-eqb, and_from, and_parts}
use Rattle.svc_fds.specs.declared.encoding.Message.{Message}
use Rattle.svc_socket.specs.declared.peer.Peer.{Peer}
use Rattle.svc_record.specs.declared.plan.Plan.{Plan}
use Rattle.svc_record.specs.declared.action.Action.{Action}
use Rattle.svc_record.specs.declared.action.Action.TheVariants.{Judged, Send, Settings as TellSettings}
use Rattle.svc_record.specs.declared.entry.Entry.TheVariants.{Got}
use Rattle.svc_record.specs.declared.event.Event.{Event}
use Rattle.svc_record.specs.declared.event.Event.TheVariants.{Arrived}
use Rattle.svc_record.specs.Record.{Record}
use Rattle.svc_record.specs.Plans.{filter_of}
use Rattle.svc_record.specs.Connections.{is_known, has_filter, same_answer}
use Rattle.svc_record.specs.Journal.{action_as_said, told_as_said}
use Rattle.svc_record.specs.Judging.{judged_at, judgements, TellsJudged}
use Rattle.svc_core.specs.declared.copies.OwnedPayload.{OwnedPayload}
use Rattle.svc_core.specs.Copies.{is_bare, are_bare, TellsBare, is_of_settings, is_copied, left_of, are_copied, TellsCopied, copy_of}

-- bare actions judge nothing
bare-one : (a : Action) (more : List Action) → is_bare a ≡ true → judgements (a ∷ more) ≡ judgements more
bare-one (Judged c said) more h = absurd (cc)
bare-one _ more h = refl

bare-unjudged : (told : List Action) → are_bare told ≡ true → judgements told ≡ []
bare-unjudged [] h = refl
bare-unjudged (a ∷ told) h = let parts = and_parts (is_bare a) (are_bare told) h in bare-one a told parts.0 ∙ bare-unjudged told parts.1

pub unjudged-bare : (xs ys : List Action) → TellsBare xs ys → TellsJudged [] xs ys
unjudged-bare xs ys h = record { told = h.told; appended = h.appended; kept = bare-unjudged h.told h.kept }

-- neither do actions beside which no settings are copied
copied-one : (copy : OwnedPayload) (a : Action) (more : List Action) → is_of_settings copy ≡ false → is_copied copy a ≡ true
    → judgements (a ∷ more) ≡ judgements more
copied-one copy (Judged c said) more none h = absurd (cc)
copied-one copy _ more none h = refl

none-left : (copy : OwnedPayload) (a : Action) → is_of_settings copy ≡ false → is_of_settings (left_of copy a) ≡ false
none-left copy (Send bytes fds) none = refl
none-left copy (TellSettings c list) none = refl
none-left copy _ none = none

copied-unjudged : (copy : OwnedPayload) (told : List Action) → is_of_settings copy ≡ false → are_copied copy told ≡ true → judgements told ≡ []
copied-unjudged copy [] none h = refl
copied-unjudged copy (a ∷ told) none h =
    let parts = and_parts (is_copied copy a) (are_copied (left_of copy a) told) h in
    copied-one copy a told none parts.0 ∙ copied-unjudged (left_of copy a) told (none-left copy a none) parts.1

of-no-settings : (message : Option Message) → is_of_settings (copy_of message) ≡ false
of-no-settings (Some w) = refl
of-no-settings None = refl

pub unjudged-copied : (message : Option Message) (xs ys : List Action) → TellsCopied (copy_of message) xs ys → TellsJudged [] xs ys
unjudged-copied message xs ys h =
    record { told = h.told; appended = h.appended; kept = copied-unjudged (copy_of message) h.told (of-no-settings message) h.kept }

-- what is judged as it was said by the event's step is as was said
abbrev is_as_said : Plan → Record → Bool → ℕ × Bool → Bool
is_as_said p q said x = action_as_said p q said (Judged x.0 x.1)

said-by : (p : Plan) (q : Record) (said : Bool) (told : List Action) → told_as_said p q said told ≡ list_all (is_as_said p q said) (judgements told)
said-by p q said [] = refl
said-by p q said (Judged c judged ∷ told) = ap (λ (b : Bool). action_as_said p q said (Judged c judged) && b) (said-by p q said told)
said-by p q said (_ ∷ told) = said-by p q said told

answer-same : (said : Bool) → same_answer (said || false) said ≡ true
answer-same true = refl
answer-same false = refl

or-yes : (said : Bool) → (said || true) ≡ true
or-yes true = refl
or-yes false = refl

arrival-said : (p : Plan) (q : Record) (s i c : ℕ) (peer : Peer) (said : Bool) (filter : Option ℕ) → filter_of p s i ≡ filter
    → is_as_said p (Got (Arrived s i c peer) ∷ q) said (c, said || not (has_filter p s i)) ≡ true
arrival-said p q s i c peer said (Some f) e = rw (eq-eqb c c refl, e) (answer-same said)
arrival-said p q s i c peer said None e = rw (eq-eqb c c refl, e) (or-yes said)

event-said : (p : Plan) (q : Record) (e : Event) (said : Bool) → list_all (is_as_said p (Got e ∷ q) said) (judged_at p e said) ≡ true
event-said p q (Arrived s i c peer) said = by (is_known peer)
  where
    by : (known : Bool) → list_all (is_as_said p (Got (Arrived s i c peer) ∷ q) said) (if known then (c, said || not (has_filter p s i)) ∷ [] else []) ≡ true
    by true = and_from (is_as_said p (Got (Arrived s i c peer) ∷ q) said (c, said || not (has_filter p s i))) true
        (arrival-said p q s i c peer said (filter_of p s i) refl) refl
    by false = refl
event-said p q _ said = refl

pub judged-said : (p : Plan) (q : Record) (e : Event) (said : Bool) (told : List Action) → judgements told ≡ judged_at p e said
    → told_as_said p (Got e ∷ q) said told ≡ true
judged-said p q e said told h = said-by p (Got e ∷ q) said told ∙ (ap (list_all (is_as_said p (Got e ∷ q) said)) h ∙ event-said p q e said)
