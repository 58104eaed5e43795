use Rattle.std.proofs.Common.{[], ltb}
use Rattle.svc_fds.proofs.ReceiveLemmas.{done-never, wait-falls, fresh-state}
use Rattle.svc_fds.proofs.transfer.wait.Goals as goal

pub unreachable-requires : goal.unreachable-requires
unreachable-requires c =
    let state = c.args.retry.now in
    done-never (ltb state 1) (c.in-Done.ensures.next state [] (fresh-state state))

pub returns-in-Receive-clause-falls : goal.returns-in-Receive-clause-falls
returns-in-Receive-clause-falls c =
    let state = c.args.retry.now in
    wait-falls state c.step.new.self c.in-Receive.ms (c.in-Receive.ensures.next state [] (fresh-state state))
    (c.in-Receive.ensures.after state [] (fresh-state state))
