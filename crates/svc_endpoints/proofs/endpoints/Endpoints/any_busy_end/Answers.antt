use Rattle.std.proofs.Common.{arith, Some}
use Rattle.svc_record.specs.Plans.{service_count, any_with}
use Rattle.svc_moments.proofs.LeastLemmas.{swept-none, swept-more, swept-all}
use Rattle.svc_endpoints.specs.Visits.{busy_in, any_busy}
use Rattle.svc_endpoints.proofs.RangeLemmas.{at0, none0}
use Rattle.svc_endpoints.proofs.CalmLemmas.{calm-none}
use Rattle.svc_endpoints.proofs.endpoints.Endpoints.any_busy_end.Goals as goal

pub loop-t-init : goal.loop-t-init
loop-t-init c =
    swept-none (λ m u. any_busy c.args.plan.now c.args.self.now.parts m (Some c.args.text.now) u)
    (λ m. any_with c.args.plan.now (Some c.args.text.now) (busy_in c.args.self.now.parts m)) 0 (λ m j lt. absurd (omega (arith, lt)))

pub loop-t-preserved : goal.loop-t-preserved
loop-t-preserved c =
    let inside = c.in-Some.ensures.found.1 in
    let sized = c.requires.sized.services in
    swept-more (λ m u. any_busy c.args.plan.now c.args.self.now.parts m (Some c.args.text.now) u)
    (λ m. any_with c.args.plan.now (Some c.args.text.now) (busy_in c.args.self.now.parts m)) c.loop-t.from c.in-Some.t c.loop-t.end c.row_busy_end.result _
    c.later-end.ensures
    (λ m u low lt. calm-none c.args.plan.now c.args.self.now.parts m (Some c.args.text.now) u (c.in-Some.ensures.least u low lt))
    (λ m h. at0 (any_busy c.args.plan.now c.args.self.now.parts m (Some c.args.text.now)) (service_count c.args.plan.now) c.in-Some.t
    (omega (arith, inside, sized)) h)
    c.row_busy_end.ensures c.loop-t.invariant

pub returns : goal.returns
returns c =
    let sized = c.requires.sized.services in
    swept-all (λ m u. any_busy c.args.plan.now c.args.self.now.parts m (Some c.args.text.now) u)
    (λ m. any_with c.args.plan.now (Some c.args.text.now) (busy_in c.args.self.now.parts m)) c.loop-t.from (service_count c.args.plan.now) c.loop-t.end
    (λ m u low lt. calm-none c.args.plan.now c.args.self.now.parts m (Some c.args.text.now) u (c.in_default.ensures.none u low (omega (arith, lt, sized))))
    (λ m none. none0 (any_busy c.args.plan.now c.args.self.now.parts m (Some c.args.text.now)) (service_count c.args.plan.now) none)
    c.loop-t.invariant
