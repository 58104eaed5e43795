-- What was sent, with one entry more.
use Rattle.std.proofs.Common.{ℕ, Bool, ◌+◌, ◌<◌, List, [], ◌∷◌, ◌≡◌, refl, ap, sym, ◌∙◌, length, take, get_or, if◌then◌else◌}
use Rattle.std.specs.Prelude.{reverse}
use Rattle.std.proofs.lemmas.List.{take_more, reverse-append}
use Rattle.svc_record.specs.declared.action.Action.TheVariants.{Send}
use Rattle.svc_record.specs.declared.entry.Entry.{Entry}
use Rattle.svc_record.specs.declared.entry.Entry.TheVariants.{Got, Told}
use Rattle.svc_record.specs.declared.event.Event.TheVariants.{Sent}
use Rattle.svc_record.specs.Record.{Record}
use Rattle.svc_handover.specs.Channel.{is_as_sent, newest_after, is_sent, last_send, sent_message}

-- the entries up to this place, the newest first
turned : (es : List Entry) (i : ℕ) (e : Entry) → i < length es → e ≡ get_or es i e → reverse (take (i + 1) es) ≡ e ∷ reverse (take i es)
turned es i e inside here =
    ap (λ (ys : List Entry). reverse ys) (take_more es i e inside) ∙ reverse-append (take i es) (get_or es i e ∷ [])
    ∙ ap (λ (x : Entry). x ∷ reverse (take i es)) (sym here)

newest-entry : (bytes fds : List ℕ) (e : Entry) (q : Record)
    → newest_after bytes fds e (is_as_sent bytes fds (last_send q)) ≡ is_as_sent bytes fds (last_send (e ∷ q))
newest-entry bytes fds (Told (Send message numbers)) q = refl
newest-entry bytes fds (Told a) q = refl
newest-entry bytes fds (Got e) q = refl

sent-entry : (bytes fds : List ℕ) (e : Entry) (q : Record)
    → (if is_sent e then is_as_sent bytes fds (last_send q) else is_as_sent bytes fds (sent_message q)) ≡ is_as_sent bytes fds (sent_message (e ∷ q))
sent-entry bytes fds (Got Sent) q = refl
sent-entry bytes fds (Got e) q = refl
sent-entry bytes fds (Told a) q = refl

pub newest-more : (bytes fds : List ℕ) (es : List Entry) (i : ℕ) (e : Entry) (newest now : Bool) → i < length es → e ≡ get_or es i e
    → newest ≡ is_as_sent bytes fds (last_send (reverse (take i es))) → now ≡ newest_after bytes fds e newest
    → now ≡ is_as_sent bytes fds (last_send (reverse (take (i + 1) es)))
newest-more bytes fds es i e newest now inside here was is =
    is ∙ ap (newest_after bytes fds e) was ∙ newest-entry bytes fds e (reverse (take i es))
    ∙ ap (λ (q : Record). is_as_sent bytes fds (last_send q)) (sym (turned es i e inside here))

pub sent-more : (bytes fds : List ℕ) (es : List Entry) (i : ℕ) (e : Entry) (newest sent now : Bool) → i < length es → e ≡ get_or es i e
    → newest ≡ is_as_sent bytes fds (last_send (reverse (take i es)))
    → sent ≡ is_as_sent bytes fds (sent_message (reverse (take i es))) → now ≡ (if is_sent e then newest else sent)
    → now ≡ is_as_sent bytes fds (sent_message (reverse (take (i + 1) es)))
sent-more bytes fds es i e newest sent now inside here was old is =
    is ∙ ap (λ b. if is_sent e then b else sent) was ∙ ap (λ b. if is_sent e then is_as_sent bytes fds (last_send (reverse (take i es))) else b) old
    ∙ sent-entry bytes fds e (reverse (take i es)) ∙ ap (λ (q : Record). is_as_sent bytes fds (sent_message q)) (sym (turned es i e inside here))
