use Rattle.std.proofs.Common.{ap, Some, ◌∙◌}
use Rattle.svc_listen.proofs.ReachLemmas.{reaches-adopted, reaches-not_adopted, reaches-nothing}
use Rattle.svc_listen.proofs.listeners.l4.binding.listen_in.Goals as goal

pub returns-then-adopt : goal.returns-then-adopt
returns-then-adopt g c =
    reaches-adopted _ c.args.addr.now _ _ _ c.as_str.result.now c.number-number.result c.as_str.ensures
    (ap Some c.number-number.ensures ∙ c.in-Some.ensures.found) c.if-adopt.ensures

pub returns-else-adopt : goal.returns-else-adopt
returns-else-adopt g c =
    reaches-not_adopted _ c.args.addr.now _ _ _ c.as_str.result.now c.number-number.result c.as_str.ensures
    (ap Some c.number-number.ensures ∙ c.in-Some.ensures.found) c.if-adopt.ensures

pub returns-in-Err : goal.returns-in-Err
returns-in-Err g c =
    reaches-nothing _ c.args.addr.now _ _ _ c.as_str.result.now c.as_str.ensures c.in_default.ensures.found c.room_for.ensures.entries
