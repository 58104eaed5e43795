use Rattle.std.proofs.Common.{◌≡◌, rules, sym, ap, subst}
use Rattle.svc_base.specs.Items.{list_of}
use Rattle.svc_record.specs.Validity.{IsValid}
use Rattle.svc_desk.specs.Desks.{DeskData, IsPerformed, meeting}
use Rattle.svc_desk.specs.Working.{IsWorked}
use Rattle.svc_desk.proofs.ServingLemmas.{served, back_worked, back_as}
use Rattle.svc_desk.proofs.serving.serve_desks.Goals as goal

pub returns-clause-served : goal.returns-clause-served
returns-clause-served g c =
    let o = c.in-Ok.opened in
    let mid = g.D.Desk.seen c.perform_all.new.desk in
    let one = c.work_both-one.result.0 in
    let two = c.work_both-one.result.1 in
    let valid : IsValid c.args.plan = search rules in
    let met_left : g.D.Desk.seen c.meet_both.new.left ≡ meeting (g.D.Desk.seen c.args.left) = search rules in
    let met_right : g.D.Desk.seen c.meet_both.new.right ≡ meeting (g.D.Desk.seen c.args.right) = search rules in
    let performed = subst (λ (d : DeskData). IsPerformed d mid (list_of o.opening)) met_left c.perform_all.ensures.performed in
    let right_worked = subst (λ (d : DeskData). IsWorked o.server o.right c.args.turns d (g.D.Desk.seen two.desk) two.worked) met_right
    c.work_both-one.ensures.right in
    served c.args.plan c.args.limit c.args.turns o.server o.left o.right (list_of o.opening) (g.D.Desk.seen c.args.left) mid (g.D.Desk.seen c.args.right)
    (g.D.Desk.seen one.desk) (g.D.Desk.seen two.desk) one.worked two.worked c.in-Ok-close_both.journal.items valid
    c.in-Ok.ensures.opened performed c.work_both-one.ensures.left right_worked c.in-Ok-close_both.ensures.journal

pub returns-in_default-close_both-clause-refused : goal.returns-in_default-close_both-clause-refused
returns-in_default-close_both-clause-refused g c =
    let o = c.in-Ok.opened in
    let mid = g.D.Desk.seen c.perform_all.new.desk in
    let one = c.work_both-one.result.0 in
    let two = c.work_both-one.result.1 in
    let met_left : g.D.Desk.seen c.meet_both.new.left ≡ meeting (g.D.Desk.seen c.args.left) = search rules in
    let met_right : g.D.Desk.seen c.meet_both.new.right ≡ meeting (g.D.Desk.seen c.args.right) = search rules in
    let performed = subst (λ (d : DeskData). IsPerformed d mid (list_of o.opening)) met_left c.perform_all.ensures.performed in
    let right_worked = subst (λ (d : DeskData). IsWorked o.server o.right c.args.turns d (g.D.Desk.seen two.desk) two.worked) met_right
    c.work_both-one.ensures.right in
    let x = c.refused-in_default-close_both.ensures in
    let seen_left = sym (ap g.D.Desk.seen x.left) in
    let seen_right = sym (ap g.D.Desk.seen x.right) in
    back_as c.args.plan (g.D.Desk.seen c.args.left) (g.D.Desk.seen c.args.right) (g.D.Desk.seen one.desk)
    (g.D.Desk.seen two.desk) _ _ _ seen_left seen_right x.reason
    (back_worked c.args.plan c.args.turns o.server o.left o.right (list_of o.opening) (g.D.Desk.seen c.args.left) mid (g.D.Desk.seen c.args.right)
    (g.D.Desk.seen one.desk) (g.D.Desk.seen two.desk) one.worked two.worked performed c.work_both-one.ensures.left right_worked)
