use Rattle.svc_fds.proofs.FaultLemmas.{calm-receive}
use Rattle.svc_fds.proofs.memory_channel.MemoryChannelChannel.receive.Goals as goal

pub returns-clause-cause : goal.returns-clause-cause
returns-clause-cause c =
    calm-receive c.receive-answer.result c.args.self.now.count c.fails.new.self.count c.if-fails.ensures.cause c.receive-answer.ensures.calm
