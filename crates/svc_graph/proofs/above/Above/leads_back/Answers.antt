use Rattle.std.proofs.Common.{ℕ, Option, IfSome, sym, ◌∙◌, subst}
use Rattle.svc_graph.specs.Ranks.{IsAbove, needs}
use Rattle.svc_graph.proofs.Reaches.{above-divides, above-edge, leaf-divides}
use Rattle.svc_graph.proofs.above.Above.leads_back.Goals as goal

pub returns-then-dependency-dependent-clause-apart : goal.returns-then-dependency-dependent-clause-apart
returns-then-dependency-dependent-clause-apart c = λ e.
    leaf-divides (needs c.args.needed.now) c.args.edge.0 c.args.edge.1 (c.requires.leaf c.if-is_leaf.true) c.if-dependency-dependent.true

pub returns-clause-led : goal.returns-clause-led
returns-clause-led c = λ e. c.in_ok-look_up.ensures.found.led c.args.edge.1 (sym c.has.ensures ∙ e)

pub returns-clause-apart : goal.returns-clause-apart
returns-clause-apart c = λ e.
    above-divides c.args.needed.now c.look_up.new.self.nodes c.args.edge.0 c.args.edge.1 c.in_ok-look_up.ensures.found (sym c.has.ensures ∙ e)

pub returns-clause-later : goal.returns-clause-later
returns-clause-later c = λ e needed_now bits.
    subst (λ (o : Option ℕ). IfSome o (λ n. IsAbove needed_now c.look_up.new.self.nodes n)) (sym c.in_ok-look_up.ensures.node)
    (above-edge c.args.needed.now needed_now c.look_up.new.self.nodes c.args.edge.0 c.args.edge.1 bits (sym c.has.ensures ∙ e)
    c.in_ok-look_up.ensures.found)

pub returns-clause-kept : goal.returns-clause-kept
returns-clause-kept c =
    subst (λ (o : Option ℕ). IfSome o (λ n. IsAbove c.args.needed.now c.look_up.new.self.nodes n)) (sym c.in_ok-look_up.ensures.node)
    c.in_ok-look_up.ensures.found
