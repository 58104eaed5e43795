use Rattle.std.proofs.Common.{subst, sym, Bool, ◌↔◌}
use Rattle.std.specs.Prelude.{IsTrue}
use Rattle.svc_record.specs.Validity.{IsValid}
use Rattle.svc_record.proofs.ValidLemmas.{valid-test}
use Rattle.svc_record.proofs.plan.Plan.valid.Goals as goal

pub returns : goal.returns
returns c =
    subst (λ (valid : Bool). IsTrue valid ↔ IsValid c.args.self.now) (sym c.is_some.ensures)
    (valid-test c.args.self.now c.in_ok-graph_of.field-0 (c.keeps_limits.ensures.0 c.if-not-keeps_limits.false)
    c.in_ok-graph_of.ensures.some c.in_ok-graph_of.ensures.graph c.in_ok-graph_of.ensures.none)
