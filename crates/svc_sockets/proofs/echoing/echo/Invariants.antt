use Rattle.std.proofs.Common.{◌≡◌}
use Rattle.svc_sockets.proofs.EchoLemmas.{AllEchoed}
use Rattle.svc_sockets.proofs.echoing.echo.Given as goal

abbrev pub invariant-loop-turn : goal.invariant-loop-turn
invariant-loop-turn g l =
    AllEchoed (g.T.Source.left l.fn.from) (g.T.Source.left l.from) (g.K.Sink.written l.fn.to) (g.K.Sink.written l.to) l._turn
    × (g.T.Source.faulted l.from ≡ g.T.Source.faulted l.fn.from)
    × (g.K.Sink.faulted l.to ≡ g.K.Sink.faulted l.fn.to)
