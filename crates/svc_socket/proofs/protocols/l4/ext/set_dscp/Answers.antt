use Rattle.svc_socket.proofs.CauseLemmas.{dscp_cause_ok, dscp_cause_err}
use Rattle.svc_socket.proofs.protocols.l4.ext.set_dscp.Goals as goal

pub returns-in-Ok-clause-cause : goal.returns-in-Ok-clause-cause
returns-in-Ok-clause-cause g c =
    dscp_cause_ok _ _ c.args.val _ c.dscp_end.result _ _ c.family-family.ensures c.dscp_step.ensures c.dscp_end.ensures c.in-Ok.ensures

pub returns-in-Err-clause-cause : goal.returns-in-Err-clause-cause
returns-in-Err-clause-cause g c = dscp_cause_err _ _ c.args.val _ c.in-Err.error _ _ c.family-family.ensures c.dscp_step.ensures c.in-Err.ensures
