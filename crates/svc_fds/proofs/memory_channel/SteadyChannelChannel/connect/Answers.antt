use Rattle.svc_fds.proofs.memory_channel.SteadyChannelChannel.connect.Goals as goal

pub returns-clause-cause : goal.returns-clause-cause
returns-clause-cause c = c.connect-answer.ensures.calm 0
