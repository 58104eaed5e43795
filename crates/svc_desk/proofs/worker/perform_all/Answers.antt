use Rattle.std.proofs.Common.{List, [], ◌∷◌, ◌++◌, sym, ap, ◌∙◌, append_assoc, reverse}
use Rattle.svc_base.specs.Items.{list_of}
use Rattle.svc_record.specs.declared.action.Action.{Action}
use Rattle.svc_desk.proofs.DeedLemmas.{performed-then}
use Rattle.svc_desk.proofs.worker.perform_all.Goals as goal

pub loop-action-preserved : goal.loop-action-preserved
loop-action-preserved g c =
    let i = c.loop-action.invariant in
    let a : Action = c.in-Some.action in (
      i.0 ++ a ∷ [],
      i.1 ∙ (ap (λ (l : List Action). i.0 ++ l) c.in-Some.ensures.items ∙ sym (append_assoc i.0 (a ∷ []) (reverse (list_of c.pop_last.new.self)))),
      performed-then (g.D.Desk.seen c.args.desk.now) (g.D.Desk.seen c.loop-action.desk) (g.D.Desk.seen c.perform.new.self) i.0 (a ∷ []) i.2 c.perform.ensures,
    )
