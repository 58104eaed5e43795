use Rattle.svc_socket.proofs.CauseLemmas.{bind_cause_ok, bind_cause_err}
use Rattle.svc_socket.proofs.protocols.l4.ext.apply_bind_options.Goals as goal

pub returns-in-Ok-clause-cause : goal.returns-in-Ok-clause-cause
returns-in-Ok-clause-cause g c =
    bind_cause_ok _ _ c.args.opt.now c.bind_steps-steps.result c.bind_end.result _ _ _
    (cc) c.family-family.ensures c.bind_steps-steps.ensures c.bind_end.ensures c.in-Ok.ensures

pub returns-in-Err-clause-cause : goal.returns-in-Err-clause-cause
returns-in-Err-clause-cause g c =
    bind_cause_err _ _ c.args.opt.now c.bind_steps-steps.result c.in-Err.error _ _ _ (cc) c.family-family.ensures c.bind_steps-steps.ensures c.in-Err.ensures
