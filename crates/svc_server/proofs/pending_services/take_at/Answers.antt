use Rattle.std.proofs.Common.{◌≡◌, get_or, subst, sym, arith}
use Rattle.svc_server.proofs.BoxLemmas.{left-taken, taken-at}
use Rattle.svc_server.proofs.pending_services.take_at.Goals as goal

pub returns-clause-left : goal.returns-clause-left
returns-clause-left g c = left-taken g.B.ServiceWithDependents.named c.args.pending.now.items c.args.place c.replace.new.dest c.replace.ensures.after

pub returns-clause-taken : goal.returns-clause-taken
returns-clause-taken g c = taken-at g.B.ServiceWithDependents.named c.args.pending.now.items c.args.place c.replace.result (omega arith)
    (subst (λ o. o ≡ get_or c.args.pending.now.items c.args.place o) (sym c.replace.ensures.value) c.index_mut.ensures.value)
