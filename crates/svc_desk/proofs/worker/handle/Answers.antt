use Rattle.std.proofs.Common.{◌≡◌, sym, subst}
use Rattle.svc_desk.specs.declared.worker.Fate.TheVariants as fates
use Rattle.svc_desk.specs.Desks.{DeskData}
use Rattle.svc_desk.specs.Working.{IsHandled}
use Rattle.svc_desk.proofs.TurnLemmas.{handled_posted, handled_refused}
use Rattle.svc_desk.proofs.worker.handle.Goals as goal

pub returns-in-Ok : goal.returns-in-Ok
returns-in-Ok g c =
    let says = subst (λ (d : DeskData). c.said-said.result ≡ d.says c.args.event) (sym c.said-said.ensures.seen) c.said-said.ensures.said in
    record {
      handled = subst (λ (d : DeskData). IsHandled c.args.shared.now c.args.pass d (g.D.Desk.seen c.perform_all.new.desk) c.args.event
          (fates.Posted c.in-Ok.posted.end) c.in-Ok.posted.pass) c.said-said.ensures.seen
          (handled_posted c.args.shared.now c.args.pass (g.D.Desk.seen c.said-said.new.self) (g.D.Desk.seen c.perform_all.new.desk) c.args.event
          c.said-said.result c.in-Ok.posted says c.in-Ok.ensures.posted c.perform_all.ensures.performed);
    }

pub returns-in-Err : goal.returns-in-Err
returns-in-Err g c =
    let r = c.in-Err.refused in
    record {
      handled = subst (λ (d : DeskData). IsHandled c.args.shared.now c.args.pass d (g.D.Desk.seen c.refuse.new.self) c.args.event c.fate_by.result r.pass)
          c.said-said.ensures.seen
          (handled_refused c.args.shared.now c.args.pass (g.D.Desk.seen c.said-said.new.self) (g.D.Desk.seen c.refuse.new.self) c.args.event r
          c.fate_by.result c.in-Err.ensures.refused c.refuse.ensures c.fate_by.ensures.fate);
    }
