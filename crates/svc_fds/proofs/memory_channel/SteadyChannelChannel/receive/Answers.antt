use Rattle.svc_fds.proofs.memory_channel.SteadyChannelChannel.receive.Goals as goal

pub returns-clause-cause : goal.returns-clause-cause
returns-clause-cause c = c.receive-answer.ensures.calm 0
