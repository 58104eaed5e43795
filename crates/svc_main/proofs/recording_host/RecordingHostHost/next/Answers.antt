use Rattle.svc_server.proofs.ScriptLemmas.{few-more}
use Rattle.svc_main.proofs.recording_host.RecordingHostHost.next.Goals as goal

pub invariant_of-self : goal.invariant_of-self
invariant_of-self g c = few-more c.in-Some-Event.field-0 c.self.inside.left c.next.new.self c.in-Some-Event.ensures.items c.self.invariant

pub invariant_of-self-in-Some-Fault : goal.invariant_of-self-in-Some-Fault
invariant_of-self-in-Some-Fault g c = few-more c.in-Some-Fault.field-0 c.self.inside.left c.next.new.self c.in-Some-Fault.ensures.items c.self.invariant
