use Rattle.std.proofs.Common.{Some}
use Rattle.svc_streams.proofs.CauseLemmas.{caused}
use Rattle.svc_streams.proofs.listeners.handshake.UninitializedStream.poll_handshake.Goals as goal

pub returns-in-Some-clause-shaken : goal.returns-in-Some-clause-shaken
returns-in-Some-clause-shaken g c =
    rw c.in-Some.is (c.begin-early.new.self, (c.begin-early.result, (c.begin-early.ensures.part, c.finish.ensures.part)))

pub returns-in-Some-clause-cause : goal.returns-in-Some-clause-cause
returns-in-Some-clause-cause g c =
    rw c.in-Some.is (caused g.P.PreTlsProcess.may_poll g.T.TlsHandshake.may_shake c.args.self.now c.begin-early.new.self c.finish.new.self
    c.args.moment c.args.callbacks.now c.begin-early.new.callbacks (Some c.in-Some.backend.now) (Some c.finish.new.backend)
    c.begin-early.result c.finish.result c.begin-early.ensures.part c.finish.ensures.part)
