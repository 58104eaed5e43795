use Rattle.svc_fds.proofs.memory_channel.SteadyChannelChannel.send.Goals as goal

pub returns-clause-cause : goal.returns-clause-cause
returns-clause-cause c = c.send-answer.ensures.calm 0
