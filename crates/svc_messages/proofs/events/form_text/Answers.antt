use Rattle.std.proofs.Common.{refl}
use Rattle.svc_messages.proofs.PlainLemmas.{plain_as, plain_behind}
use Rattle.svc_messages.proofs.events.form_text.Goals as goal

pub loop-slot-init : goal.loop-slot-init
loop-slot-init c = plain_as _ _ c.in_ok-text.ensures c.requires.bytes

pub loop-slot-preserved : goal.loop-slot-preserved
loop-slot-preserved c =
    plain_behind _ _ _ (plain_behind _ _ _ c.loop-slot.invariant c.in_ok-push_str.ensures.bytes refl) c.in_ok-push_str-2.ensures.bytes c.name.ensures.bytes
