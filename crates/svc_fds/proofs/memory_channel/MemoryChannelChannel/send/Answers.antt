use Rattle.svc_fds.proofs.FaultLemmas.{calm-send}
use Rattle.svc_fds.proofs.memory_channel.MemoryChannelChannel.send.Goals as goal

pub returns-clause-cause : goal.returns-clause-cause
returns-clause-cause c = calm-send c.send-answer.result c.args.self.now.count c.fails.new.self.count c.if-fails.ensures.cause c.send-answer.ensures.calm
