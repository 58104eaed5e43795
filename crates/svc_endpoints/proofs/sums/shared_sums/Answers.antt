use Rattle.std.proofs.Common.{◌≡◌, subst, arith}
use Rattle.svc_base.specs.Items.{list_of}
use Rattle.svc_record.specs.Plans.{service_count}
use Rattle.svc_endpoints.specs.Sums.{AreNoted}
use Rattle.svc_endpoints.proofs.SumLemmas.{noted-none, shared-all}
use Rattle.svc_endpoints.proofs.sums.shared_sums.Goals as goal

pub loop-s-init : goal.loop-s-init
loop-s-init c = noted-none c.args.plan.now (list_of c.new-seen.result) (list_of c.new-shared.result)

pub returns : goal.returns
returns c =
    let end : c.loop-s.s ≡ service_count c.args.plan.now = (let e = c.service_count-s-end.ensures in omega arith) in
    shared-all c.args.plan.now (list_of c.loop-s.seen) (list_of c.loop-s.shared)
    (subst (λ n. AreNoted c.args.plan.now n 0 (list_of c.loop-s.seen) (list_of c.loop-s.shared)) end c.loop-s.invariant)
