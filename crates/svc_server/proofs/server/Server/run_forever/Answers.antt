use Rattle.std.proofs.Common.{◌≡◌, ap}
use Rattle.svc_server.specs.declared.run.RunArgs.{RunArgs}
use Rattle.svc_server.proofs.RunLemmas.{config-status}
use Rattle.svc_server.proofs.server.Server.run_forever.Goals as goal

pub returns-clause-leaves : goal.returns-clause-leaves
returns-clause-leaves g c =
    let same : c.default.result.turns ≡ 1000000 = ap (λ (args : RunArgs). args.turns) c.default.ensures in (
      c.run-answer.result,
      (
        c.status_of.ensures,
        record { tells = rw same at c.run-answer.ensures.tells; counts = c.run-answer.ensures.counts; takes = c.run-answer.ensures.takes },
      ),
    )

pub returns-clause-config : goal.returns-clause-config
returns-clause-config g c = λ key. config-status c.run-answer.result c.status_of.result key _ c.status_of.ensures (c.run-answer.ensures.config key)
