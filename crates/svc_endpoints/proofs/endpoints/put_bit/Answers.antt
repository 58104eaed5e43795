use Rattle.std.proofs.Common.{sym, ◌∙◌}
use Rattle.svc_graph.specs.Bits.{is_set}
use Rattle.svc_endpoints.proofs.CalmLemmas.{set-here, set-other, clear-here, clear-other}
use Rattle.svc_endpoints.proofs.endpoints.put_bit.Goals as goal

pub returns-then-on-clause-here : goal.returns-then-on-clause-here
returns-then-on-clause-here c = c.set.ensures.bits 0 c.args.s ∙ set-here (is_set c.args.bits.now 0 c.args.s) c.args.s ∙ sym c.if-on.true

pub returns-then-on-clause-others : goal.returns-then-on-clause-others
returns-then-on-clause-others c = λ t ne. c.set.ensures.bits 0 t ∙ set-other (is_set c.args.bits.now 0 t) t c.args.s ne

pub returns-else-on-clause-here : goal.returns-else-on-clause-here
returns-else-on-clause-here c = c.clear.ensures.bits 0 c.args.s ∙ clear-here (is_set c.args.bits.now 0 c.args.s) c.args.s ∙ sym c.if-on.false

pub returns-else-on-clause-others : goal.returns-else-on-clause-others
returns-else-on-clause-others c = λ t ne. c.clear.ensures.bits 0 t ∙ clear-other (is_set c.args.bits.now 0 t) t c.args.s ne
