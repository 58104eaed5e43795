use Rattle.std.proofs.Common.{sym, ◌∙◌}
use Rattle.svc_base.proofs.CallLemmas.{Adds-then, Stays-then}
use Rattle.svc_socket.proofs.connectors.l4.connect.Goals as goal

pub returns-clause-connects : goal.returns-clause-connects
returns-clause-connects g c =
    let e = sym c.second_from.ensures ∙ c.in-Some.is in (
      c.dial-first.result,
      rw e (
        c.dial.result,
        (
          record {
            called = Adds-then _ _ _ _ _ c.dial-first.ensures.called c.dial.ensures.called;
            stays = Stays-then c.dial-first.ensures.stays c.dial.ensures.stays;
          },
          c.outcome-in-Some.ensures,
        ),
      ),
    )
