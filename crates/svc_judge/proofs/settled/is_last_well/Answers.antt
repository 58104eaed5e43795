use Rattle.std.proofs.Common.{Bool, true, false, not, ◌||◌, ◌≡◌, refl, sym, ap, subst, ◌∙◌, IfOk}
use Rattle.std.proofs.lemmas.Bool.{false≢true}
use Rattle.svc_record.specs.Record.{before_runtimes}
use Rattle.svc_record.specs.Drain.{waits_are_over}
use Rattle.svc_record.specs.Right.{last_step_right}
use Rattle.svc_judge.specs.Pasts.{plan_of, record_of}
use Rattle.svc_judge.proofs.settled.is_last_well.Goals as goal

where_over : (w x : Bool) → w ≡ true → x ≡ (not w || x)
where_over true x h = refl
where_over false x h = absurd (false≢true h)

pub returns-then-waits_are_over : goal.returns-then-waits_are_over
returns-then-waits_are_over c =
    let p = plan_of c.args.past.now in
    let r = record_of c.args.past.now in
    let same =
    ap (λ x. last_step_right x (record_of c.before_runtimes.result)) c.before_runtimes.ensures.rest.plan
    ∙ ap (last_step_right p) c.before_runtimes.ensures.runtimes
    ∙ where_over (waits_are_over p r) (last_step_right p (before_runtimes r)) (sym c.if-waits_are_over.ensures) in
    subst (λ (b : Bool). IfOk c.last_step_right.result (λ well. well ≡ b)) same c.last_step_right.ensures
