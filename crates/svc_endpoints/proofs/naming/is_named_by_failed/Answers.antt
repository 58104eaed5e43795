use Rattle.std.proofs.Common.{arith, sym, ◌∙◌, ◌&&◌, false, slice_index_or}
use Rattle.svc_record.specs.Plans.{service_count, names}
use Rattle.svc_endpoints.proofs.RangeLemmas.{at0, none0, more_false}
use Rattle.svc_endpoints.proofs.naming.is_named_by_failed.Goals as goal

pub returns-then-has_failed_naming : goal.returns-then-has_failed_naming
returns-then-has_failed_naming c =
    let e = c.service_count-s-end.ensures in
    sym (at0 (λ s. slice_index_or c.args.failed.now s false && names c.args.plan.now s c.args.address.now)
    (service_count c.args.plan.now) c.loop-s.s (omega (arith, e)) (sym c.has_failed_naming.ensures ∙ c.if-has_failed_naming.true))

pub returns : goal.returns
returns c = let e = c.service_count-s-end.ensures in
    sym (none0 (λ s. slice_index_or c.args.failed.now s false && names c.args.plan.now s c.args.address.now) (service_count c.args.plan.now)
    (λ k lt. c.loop-s.invariant k (omega (arith, e))))

pub loop-s-preserved : goal.loop-s-preserved
loop-s-preserved c =
    more_false (λ s. slice_index_or c.args.failed.now s false && names c.args.plan.now s c.args.address.now) c.loop-s.s c.loop-s.invariant
    (sym c.has_failed_naming.ensures ∙ c.if-has_failed_naming.false)
