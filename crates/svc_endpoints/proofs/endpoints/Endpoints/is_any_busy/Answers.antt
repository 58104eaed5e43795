use Rattle.std.proofs.Common.{arith, sym, ◌∙◌, inl, inr, Some}
use Rattle.std.proofs.lemmas.Bool.{cases_lt}
use Rattle.svc_record.specs.Plans.{service_count}
use Rattle.svc_endpoints.specs.Visits.{any_busy}
use Rattle.svc_endpoints.proofs.RangeLemmas.{at0, none0, more_false}
use Rattle.svc_endpoints.proofs.CalmLemmas.{calm-none}
use Rattle.svc_endpoints.proofs.endpoints.Endpoints.is_any_busy.Goals as goal

pub returns-then-is_row_busy : goal.returns-then-is_row_busy
returns-then-is_row_busy c =
    let inside = c.in-Some.ensures.found.1 in
    let sized = c.requires.sized.services in
    sym (at0 (any_busy c.args.plan.now c.args.self.now.parts c.args.moment (Some c.args.text.now)) (service_count c.args.plan.now) c.in-Some.t
    (omega (arith, inside, sized)) (sym c.is_row_busy.ensures ∙ c.if-is_row_busy.true))

pub loop-t-preserved : goal.loop-t-preserved
loop-t-preserved c =
    more_false (any_busy c.args.plan.now c.args.self.now.parts c.args.moment (Some c.args.text.now)) c.in-Some.t (λ u lt. elim (cases_lt u c.loop-t.from) [
      | inl before ↦ c.loop-t.invariant u before
      | inr past ↦ calm-none c.args.plan.now c.args.self.now.parts c.args.moment (Some c.args.text.now) u (c.in-Some.ensures.least u past lt)
    ]) (sym c.is_row_busy.ensures ∙ c.if-is_row_busy.false)

pub returns : goal.returns
returns c =
    let sized = c.requires.sized.services in
    sym (none0 (any_busy c.args.plan.now c.args.self.now.parts c.args.moment (Some c.args.text.now)) (service_count c.args.plan.now)
    (λ u lt. elim (cases_lt u c.loop-t.from) [
      | inl before ↦ c.loop-t.invariant u before
      | inr past ↦
          calm-none c.args.plan.now c.args.self.now.parts c.args.moment (Some c.args.text.now) u (c.in_default.ensures.none u past (omega (arith, lt, sized)))
    ]))
