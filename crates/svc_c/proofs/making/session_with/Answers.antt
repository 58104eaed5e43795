use Rattle.std.proofs.Common.{◌∙◌, ap, sym, List}
use Rattle.svc_text.specs.declared.service.ServiceLine.{ServiceLine}
use Rattle.svc_text.specs.Outcome.{parts_of}
use Rattle.svc_text.specs.ScriptPlans.{plans_from}
use Rattle.svc_c.proofs.MakingLemmas.{valid-settled}
use Rattle.svc_c.proofs.making.session_with.Goals as goal

pub session_of-requires : goal.session_of-requires
session_of-requires c =
    let plans = c.in-Ok.ensures ∙ ap (λ (xs : List ServiceLine). plans_from xs 0 xs) c.as_slice.ensures.value in
    valid-settled c.args.opt.now (parts_of c.args.script) c.merge_with_opt.new.self c.in-Ok.plans c.settled-plan.result c.merge_with_opt.ensures
    (sym c.in_default.ensures) plans c.settled-plan.ensures c.requires.accepted c.requires.edges
