use Rattle.std.proofs.Common.{arith, sym, ◌∙◌, ◌||◌, not, false, slice_index_or}
use Rattle.svc_record.specs.Plans.{service_count, names}
use Rattle.svc_endpoints.proofs.RangeLemmas.{fails0, more_true, all0}
use Rattle.svc_endpoints.proofs.naming.all_failed.Goals as goal

pub returns-then-not-is_done_with : goal.returns-then-not-is_done_with
returns-then-not-is_done_with c =
    let e = c.service_count-s-end.ensures in
    sym (fails0 (λ s. not (names c.args.plan.now s c.args.address.now) || slice_index_or c.args.failed.now s false)
    (service_count c.args.plan.now) c.loop-s.s (omega (arith, e)) (sym c.is_done_with.ensures ∙ c.if-not-is_done_with.true))

pub returns : goal.returns
returns c = let e = c.service_count-s-end.ensures in
    sym (all0 (λ s. not (names c.args.plan.now s c.args.address.now) || slice_index_or c.args.failed.now s false) (service_count c.args.plan.now)
    (λ k lt. c.loop-s.invariant k (omega (arith, e))))

pub loop-s-preserved : goal.loop-s-preserved
loop-s-preserved c =
    more_true (λ s. not (names c.args.plan.now s c.args.address.now) || slice_index_or c.args.failed.now s false) c.loop-s.s c.loop-s.invariant
    (sym c.is_done_with.ensures ∙ c.if-not-is_done_with.false)
