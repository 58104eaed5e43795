use Rattle.std.proofs.Common.{sym}
use Rattle.svc_core.proofs.StepForms.{judged-of, kept-of, few-of, room-of, later-of}
use Rattle.svc_core.proofs.machine.Core.step.Goals as goal

pub returns-clause-kept : goal.returns-clause-kept
returns-clause-kept c = kept-of _ _ c.args.event.now c.args.actions.now _ _ c.take_event.result c.in_ok-reserve.ensures.items c.take_event.ensures.steps

pub returns-clause-later : goal.returns-clause-later
returns-clause-later c = later-of _ _ c.args.event.now c.args.actions.now _ _ c.take_event.result c.in_ok-reserve.ensures.items c.take_event.ensures.later

pub returns-clause-judged : goal.returns-clause-judged
returns-clause-judged c =
    rw (sym c.in_ok-reserve.ensures.items)
    (judged-of _ _ c.args.event.now c.args.said _ _ c.take_event.result c.take_event.ensures.steps c.take_event.ensures.judged)

pub returns-clause-few : goal.returns-clause-few
returns-clause-few c = few-of _ _ c.args.event.now c.args.actions.now _ _ c.take_event.result c.in_ok-reserve.ensures.items c.take_event.ensures.steps

pub returns-clause-room : goal.returns-clause-room
returns-clause-room c =
    room-of _ _ c.args.event.now c.args.actions.now _ _ c.take_event.result (rw c.tell_room.ensures at c.in_ok-reserve.ensures.room) c.take_event.ensures.steps
