use Rattle.std.proofs.Common.{refl}
use Rattle.svc_handover.proofs.RunLemmas.{grows-old}
use Rattle.svc_handover.proofs.servers.Servers.take_old.Goals as goal

pub returns : goal.returns
returns c = record {
  grows = grows-old c.args.self.now
      (record { predecessor = c.step_one.new.server; successor = c.args.self.now.successor; channel = c.after_old-self.result }) c.args.step.now
      c.in_ok-step_one.ensures.takes.0 c.in_ok-step_one.ensures.takes.1.0 c.requires.side c.in_ok-step_one.ensures.takes.1.1 refl c.after_old-self.ensures;
}
