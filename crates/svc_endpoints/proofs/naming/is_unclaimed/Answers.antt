use Rattle.std.proofs.Common.{arith, sym, ◌∙◌, ◌&&◌, not}
use Rattle.svc_record.specs.Plans.{service_count, declares_list, names}
use Rattle.svc_endpoints.proofs.RangeLemmas.{fails0, more_true, all0}
use Rattle.svc_endpoints.proofs.naming.is_unclaimed.Goals as goal

pub returns-then-not-is_foreign_to : goal.returns-then-not-is_foreign_to
returns-then-not-is_foreign_to c =
    let e = c.service_count-s-end.ensures in
    sym (fails0 (λ s. declares_list c.args.plan.now s && not (names c.args.plan.now s c.args.address.now)) (service_count c.args.plan.now) c.loop-s.s
    (omega (arith, e)) (sym c.is_foreign_to.ensures ∙ c.if-not-is_foreign_to.true))

pub returns : goal.returns
returns c = let e = c.service_count-s-end.ensures in
    sym (all0 (λ s. declares_list c.args.plan.now s && not (names c.args.plan.now s c.args.address.now)) (service_count c.args.plan.now)
    (λ k lt. c.loop-s.invariant k (omega (arith, e))))

pub loop-s-preserved : goal.loop-s-preserved
loop-s-preserved c =
    more_true (λ s. declares_list c.args.plan.now s && not (names c.args.plan.now s c.args.address.now)) c.loop-s.s c.loop-s.invariant
    (sym c.is_foreign_to.ensures ∙ c.if-not-is_foreign_to.false)
