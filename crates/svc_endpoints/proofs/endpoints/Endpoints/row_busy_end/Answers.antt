use Rattle.std.proofs.Common.{arith, ◌&&◌, Some, length}
use Rattle.svc_record.specs.Plans.{address, same_address, endpoints}
use Rattle.svc_moments.proofs.LeastLemmas.{swept-none, swept-more, swept-all}
use Rattle.svc_endpoints.specs.EndpointsState.{last_at, failed_at}
use Rattle.svc_endpoints.specs.Visits.{busy_in, any_busy}
use Rattle.svc_endpoints.proofs.RangeLemmas.{at0, none0}
use Rattle.svc_endpoints.proofs.BusyLemmas.{held-rests, idle-rests, and-none}
use Rattle.svc_endpoints.proofs.endpoints.Endpoints.row_busy_end.Goals as goal

pub loop-k-init : goal.loop-k-init
loop-k-init c =
    swept-none (λ m j. same_address (address c.args.plan.now c.args.t j) (Some c.args.text.now) && busy_in c.args.self.now.parts m c.args.t j)
    (λ m. any_busy c.args.plan.now c.args.self.now.parts m (Some c.args.text.now) c.args.t) _
    (λ m k lt. and-none (same_address (address c.args.plan.now c.args.t k) (Some c.args.text.now)) (busy_in c.args.self.now.parts m c.args.t k)
    (held-rests (failed_at c.args.self.now.parts c.args.t) m (last_at c.args.self.now.parts c.args.t k) (c.open_range-from.ensures.before k lt)))

pub loop-k-preserved : goal.loop-k-preserved
loop-k-preserved c =
    swept-more (λ m j. same_address (address c.args.plan.now c.args.t j) (Some c.args.text.now) && busy_in c.args.self.now.parts m c.args.t j)
    (λ m. any_busy c.args.plan.now c.args.self.now.parts m (Some c.args.text.now) c.args.t) c.loop-k.k c.loop-k.k c.loop-k.end c.busy_end_at.result _
    c.later-end.ensures (λ m j low high. absurd (omega (arith, low, high)))
    (λ m h. at0 (λ j. same_address (address c.args.plan.now c.args.t j) (Some c.args.text.now) && busy_in c.args.self.now.parts m c.args.t j)
    (length (endpoints c.args.plan.now c.args.t)) c.loop-k.k (let e = c.endpoint_count.ensures in let m = c.loop-k-test.true in omega (arith, e, m)) h)
    c.busy_end_at.ensures c.loop-k.invariant

pub returns : goal.returns
returns c =
    swept-all (λ m j. same_address (address c.args.plan.now c.args.t j) (Some c.args.text.now) && busy_in c.args.self.now.parts m c.args.t j)
    (λ m. any_busy c.args.plan.now c.args.self.now.parts m (Some c.args.text.now) c.args.t) c.loop-k.k (length (endpoints c.args.plan.now c.args.t))
    c.loop-k.end
    (λ m k low lt. and-none (same_address (address c.args.plan.now c.args.t k) (Some c.args.text.now)) (busy_in c.args.self.now.parts m c.args.t k)
    (idle-rests (failed_at c.args.self.now.parts c.args.t) m (last_at c.args.self.now.parts c.args.t k)
    (c.open_range-from.ensures.after k (let e = c.endpoint_count.ensures in let end = c.loop-k-test.false in omega (arith, e, end, low, lt)))))
    (λ m none. none0 (λ k. same_address (address c.args.plan.now c.args.t k) (Some c.args.text.now) && busy_in c.args.self.now.parts m c.args.t k)
    (length (endpoints c.args.plan.now c.args.t)) none)
    c.loop-k.invariant
