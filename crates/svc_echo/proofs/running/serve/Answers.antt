use Rattle.std.proofs.Common.{sym, ap, true, false}
use Rattle.svc_desk.specs.Serving.{desk_end}
use Rattle.svc_echo.proofs.RunLemmas.{wrote_from, wrote_front}
use Rattle.svc_echo.proofs.running.serve.Goals as goal

pub returns-in-Ok-clause-served : goal.returns-in-Ok-clause-served
returns-in-Ok-clause-served g c = λ e.
    wrote_from _ _ _ _ _ _ (desk_end (g.D.Desk.seen c.in-Ok.echoed.left) c.in-Ok.echoed.left_end c.in-Ok.echoed.left_strays)
    (desk_end (g.D.Desk.seen c.in-Ok.echoed.right) c.in-Ok.echoed.right_end c.in-Ok.echoed.right_strays) c.in-Ok.echoed.journal.items _ true _ _
    (sym (ap g.D.Desk.seen c.report.ensures.left)) (sym (ap g.D.Desk.seen c.report.ensures.right)) c.report.ensures.journal c.in-Ok.ensures.served
    (c.report.ensures.served e)

pub returns-in-Ok-clause-unserved : goal.returns-in-Ok-clause-unserved
returns-in-Ok-clause-unserved g c = λ e.
    wrote_from _ _ _ _ _ _ (desk_end (g.D.Desk.seen c.in-Ok.echoed.left) c.in-Ok.echoed.left_end c.in-Ok.echoed.left_strays)
    (desk_end (g.D.Desk.seen c.in-Ok.echoed.right) c.in-Ok.echoed.right_end c.in-Ok.echoed.right_strays) c.in-Ok.echoed.journal.items _ false _ _
    (sym (ap g.D.Desk.seen c.report.ensures.left)) (sym (ap g.D.Desk.seen c.report.ensures.right)) c.report.ensures.journal c.in-Ok.ensures.served
    (c.report.ensures.unserved e)

pub returns-in-Ok-clause-front : goal.returns-in-Ok-clause-front
returns-in-Ok-clause-front g c = λ e.
    wrote_front _ _ _ _ _ _ (desk_end (g.D.Desk.seen c.in-Ok.echoed.left) c.in-Ok.echoed.left_end c.in-Ok.echoed.left_strays)
    (desk_end (g.D.Desk.seen c.in-Ok.echoed.right) c.in-Ok.echoed.right_end c.in-Ok.echoed.right_strays) c.in-Ok.echoed.journal.items _ _ _
    (sym (ap g.D.Desk.seen c.report.ensures.left)) (sym (ap g.D.Desk.seen c.report.ensures.right)) c.report.ensures.journal c.in-Ok.ensures.served
    (c.report.ensures.front e)
