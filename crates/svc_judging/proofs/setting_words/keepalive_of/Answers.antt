use Rattle.std.proofs.Common.{◌≡◌, ◌∷◌, ◌++◌, Option, Some, None, codes, ap, ◌∙◌}
use Rattle.svc_base.specs.Options.{◌>>=◌}
use Rattle.svc_base.specs.Words.{words}
use Rattle.svc_record.specs.declared.event.Event.{Event}
use Rattle.svc_text.specs.EventLines.{event_of}
use Rattle.svc_judging.specs.SettingWords.{four_numbers, keepalive_of}
use Rattle.svc_judging.proofs.LineFronts.{numbers_front}
use Rattle.svc_judging.proofs.setting_words.keepalive_of.Goals as goal

pub returns-in-Some : goal.returns-in-Some
unfolding keepalive_of
returns-in-Some c =
    let is = c.in-Some.is in
    let says = c.in_ok-event.ensures in
    let front : event_of (words (codes "received - " ++ c.args.word.now)) ≡ event_of (codes "received" ∷ codes "-" ∷ words c.args.word.now) =
    ap event_of (numbers_front c.args.word.now) in
    let read : Some c.in-Some.event ≡ event_of (codes "received" ∷ codes "-" ∷ words c.args.word.now) = cc in
    c.four_numbers.ensures ∙ ap (λ (o : Option Event). o >>= four_numbers) read

pub returns-in-None : goal.returns-in-None
unfolding keepalive_of
returns-in-None c =
    let is = c.in-None.is in
    let says = c.in_ok-event.ensures in
    let front : event_of (words (codes "received - " ++ c.args.word.now)) ≡ event_of (codes "received" ∷ codes "-" ∷ words c.args.word.now) =
    ap event_of (numbers_front c.args.word.now) in
    let none : Option Event = None in
    let read : none ≡ event_of (codes "received" ∷ codes "-" ∷ words c.args.word.now) = cc in
    ap (λ (o : Option Event). o >>= four_numbers) read
