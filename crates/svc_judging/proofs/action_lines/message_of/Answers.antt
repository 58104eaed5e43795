use Rattle.std.proofs.Common.{◌≡◌, ◌∷◌, ◌++◌, Option, Some, None, codes, ap, ◌∙◌}
use Rattle.svc_base.specs.Options.{◌>>=◌}
use Rattle.svc_base.specs.Words.{words}
use Rattle.svc_record.specs.declared.event.Event.{Event}
use Rattle.svc_text.specs.EventLines.{event_of}
use Rattle.svc_judging.specs.ActionLines.{sent_of, message_of}
use Rattle.svc_judging.proofs.LineFronts.{message_front}
use Rattle.svc_judging.proofs.action_lines.message_of.Goals as goal

pub returns-in-Some : goal.returns-in-Some
unfolding message_of
returns-in-Some c =
    let is = c.in-Some.is in
    let says = c.in_ok-event.ensures in
    let front : event_of (words (codes "received " ++ c.args.rest.now)) ≡ event_of (codes "received" ∷ words c.args.rest.now) =
    ap event_of (message_front c.args.rest.now) in
    let read : Some c.in-Some.event ≡ event_of (codes "received" ∷ words c.args.rest.now) = cc in
    c.sent_of.ensures ∙ ap (λ (o : Option Event). o >>= sent_of) read

pub returns-in-None : goal.returns-in-None
unfolding message_of
returns-in-None c =
    let is = c.in-None.is in
    let says = c.in_ok-event.ensures in
    let front : event_of (words (codes "received " ++ c.args.rest.now)) ≡ event_of (codes "received" ∷ words c.args.rest.now) =
    ap event_of (message_front c.args.rest.now) in
    let none : Option Event = None in
    let read : none ≡ event_of (codes "received" ∷ words c.args.rest.now) = cc in
    ap (λ (o : Option Event). o >>= sent_of) read
