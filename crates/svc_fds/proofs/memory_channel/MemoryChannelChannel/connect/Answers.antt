use Rattle.svc_fds.proofs.FaultLemmas.{calm-send}
use Rattle.svc_fds.proofs.memory_channel.MemoryChannelChannel.connect.Goals as goal

pub returns-clause-cause : goal.returns-clause-cause
returns-clause-cause c = calm-send c.connect-answer.result c.args.self.now.count c.fails.new.self.count c.if-fails.ensures.cause c.connect-answer.ensures.calm
