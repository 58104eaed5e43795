use Rattle.std.proofs.Common.{arith, sym, ◌∙◌, ◌&&◌, inl, inr, Some, length}
use Rattle.std.proofs.lemmas.Bool.{cases_lt}
use Rattle.svc_record.specs.Plans.{address, same_address, endpoints}
use Rattle.svc_endpoints.specs.EndpointsState.{last_at, failed_at}
use Rattle.svc_endpoints.specs.Visits.{busy_in}
use Rattle.svc_endpoints.proofs.RangeLemmas.{at0, none0, more_false}
use Rattle.svc_endpoints.proofs.BusyLemmas.{held-rests, idle-rests, and-none}
use Rattle.svc_endpoints.proofs.endpoints.Endpoints.is_row_busy.Goals as goal

pub returns-then-is_busy_at : goal.returns-then-is_busy_at
returns-then-is_busy_at c =
    sym (at0 (λ k. same_address (address c.args.plan.now c.args.t k) (Some c.args.text.now) && busy_in c.args.self.now.parts c.args.moment c.args.t k)
    (length (endpoints c.args.plan.now c.args.t)) c.loop-k.k (let e = c.endpoint_count.ensures in let m = c.loop-k-test.true in omega (arith, e, m))
    (sym c.is_busy_at.ensures ∙ c.if-is_busy_at.true))

pub returns : goal.returns
returns c = sym
    (none0 (λ k. same_address (address c.args.plan.now c.args.t k) (Some c.args.text.now) && busy_in c.args.self.now.parts c.args.moment c.args.t k)
    (length (endpoints c.args.plan.now c.args.t)) (λ k lt. elim (cases_lt k c.loop-k.k) [
      | inl before ↦ c.loop-k.invariant k before
      | inr past ↦ and-none (same_address (address c.args.plan.now c.args.t k) (Some c.args.text.now)) (busy_in c.args.self.now.parts c.args.moment c.args.t k)
          (idle-rests (failed_at c.args.self.now.parts c.args.t) c.args.moment (last_at c.args.self.now.parts c.args.t k)
          (c.open_range-from.ensures.after k (let e = c.endpoint_count.ensures in let end = c.loop-k-test.false in omega (arith, e, end))))
    ]))

pub loop-k-init : goal.loop-k-init
loop-k-init c =
    λ k lt. and-none (same_address (address c.args.plan.now c.args.t k) (Some c.args.text.now)) (busy_in c.args.self.now.parts c.args.moment c.args.t k)
    (held-rests (failed_at c.args.self.now.parts c.args.t) c.args.moment (last_at c.args.self.now.parts c.args.t k) (c.open_range-from.ensures.before k lt))

pub loop-k-preserved : goal.loop-k-preserved
loop-k-preserved c =
    more_false (λ k. same_address (address c.args.plan.now c.args.t k) (Some c.args.text.now) && busy_in c.args.self.now.parts c.args.moment c.args.t k)
    c.loop-k.k c.loop-k.invariant (sym c.is_busy_at.ensures ∙ c.if-is_busy_at.false)
