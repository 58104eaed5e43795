use Rattle.std.proofs.Common.{sym, ◌∙◌}
use Rattle.svc_judge.specs.Tails.{is_right_before}
use Rattle.svc_judge.proofs.TailLemmas.{find_here, find_next}
use Rattle.svc_judge.proofs.tails.shortest.Goals as goal

pub returns-then-right : goal.returns-then-right
returns-then-right c =
    find_here (is_right_before c.args.plan.now c.args.entries.now) c.loop-count.count c.args.most c.loop-count-test.true
    (sym c.in_ok-right.ensures ∙ c.if-right.true)
    ∙ sym c.loop-count.invariant

pub loop-count-preserved : goal.loop-count-preserved
loop-count-preserved c =
    c.loop-count.invariant
    ∙ find_next (is_right_before c.args.plan.now c.args.entries.now) c.loop-count.count c.args.most c.loop-count-test.true
    (sym c.in_ok-right.ensures ∙ c.if-right.false)
