use Rattle.svc_core.proofs.machine.Core.take_plain.Goals as goal

pub returns-in-Ready : goal.returns-in-Ready
returns-in-Ready c = rw c.in-Ready.is c.step_ready.ensures

pub returns-in-Ended : goal.returns-in-Ended
returns-in-Ended c = rw c.in-Ended.is c.step_ended.ensures

pub returns-in-InUse : goal.returns-in-InUse
returns-in-InUse c = rw c.in-InUse.is c.step_in_use.ensures

pub returns-in-BindFailed : goal.returns-in-BindFailed
returns-in-BindFailed c = rw c.in-BindFailed.is c.step_bind_failed.ensures

pub returns-in-Adopted : goal.returns-in-Adopted
returns-in-Adopted c = rw c.in-Adopted.is c.step_adopted.ensures

pub returns-in-AdoptFailed : goal.returns-in-AdoptFailed
returns-in-AdoptFailed c = rw c.in-AdoptFailed.is c.step_adopt_failed.ensures

pub returns-in-NoSenderYet : goal.returns-in-NoSenderYet
returns-in-NoSenderYet c = rw c.in-NoSenderYet.is c.step_no_sender.ensures

pub returns-in-ReceiveFailed : goal.returns-in-ReceiveFailed
returns-in-ReceiveFailed c = rw c.in-ReceiveFailed.is c.step_receive_failed.ensures

pub returns-in-AcceptFailed : goal.returns-in-AcceptFailed
returns-in-AcceptFailed c = rw c.in-AcceptFailed.is c.step_accept_failed.ensures

pub returns-in-Set : goal.returns-in-Set
returns-in-Set c = rw c.in-Set.is c.step_set.ensures

pub returns-in-Shaken : goal.returns-in-Shaken
returns-in-Shaken c = rw c.in-Shaken.is c.step_shaken.ensures

pub returns-in-Finished : goal.returns-in-Finished
returns-in-Finished c = rw c.in-Finished.is c.step_finished.ensures

pub returns-in-Side : goal.returns-in-Side
returns-in-Side c = rw c.in-Side.is c.step_side.ensures

pub returns-in-ChildReady : goal.returns-in-ChildReady
returns-in-ChildReady c = rw c.in-ChildReady.is c.step_child_ready.ensures
