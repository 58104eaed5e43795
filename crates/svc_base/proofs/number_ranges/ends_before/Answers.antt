use Rattle.std.proofs.Common.{◌+◌, ◌∙◌, sym}
use Rattle.std.proofs.lemmas.Bool.{eqb-true, eq-eqb}
use Rattle.svc_base.specs.Items.{list_of}
use Rattle.svc_base.proofs.Logic.{clash}
use Rattle.svc_base.proofs.RangeLemmas.{ends-here, ends-other, ends-absent}
use Rattle.svc_base.proofs.number_ranges.ends_before.Goals as goal

pub returns-then-is_right_before-clause-found : goal.returns-then-is_right_before-clause-found
returns-then-is_right_before-clause-found c =
    ends-here c.args.number (list_of c.args.ranges.now) c.in-Some.range.now c.in-Some.ensures.found
    (eqb-true (c.in-Some.range.now.last + 1) c.args.number (sym c.is_right_before.ensures ∙ c.if-is_right_before.true))

pub returns-else-is_right_before-clause-absent : goal.returns-else-is_right_before-clause-absent
returns-else-is_right_before-clause-absent c =
    ends-other c.args.number (list_of c.args.ranges.now) c.in-Some.range.now c.requires c.in-Some.ensures.found
    (λ e. clash c.is_right_before.result (c.is_right_before.ensures ∙ eq-eqb (c.in-Some.range.now.last + 1) c.args.number e) c.if-is_right_before.false)

pub returns-in-None-clause-absent : goal.returns-in-None-clause-absent
returns-in-None-clause-absent c = ends-absent c.args.number (list_of c.args.ranges.now) c.requires c.in-None.ensures.absent
