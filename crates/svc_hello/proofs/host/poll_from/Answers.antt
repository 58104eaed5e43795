use Rattle.std.proofs.Common.{◌∙◌}
use Rattle.svc_hello.proofs.HostLemmas.{polled}
use Rattle.svc_hello.proofs.host.poll_from.Goals as goal

pub returns-in-Some-clause-handed : goal.returns-in-Some-clause-handed
returns-in-Some-clause-handed c =
    polled c.loop-place.services c.loop-place.place c.poll.new.self c.index-services-place.result c.poll.ensures.number c.poll.ensures.name
    ∙ c.loop-place.invariant

pub loop-place-preserved : goal.loop-place-preserved
loop-place-preserved c =
    polled c.loop-place.services c.loop-place.place c.poll.new.self c.index-services-place.result c.poll.ensures.number c.poll.ensures.name
    ∙ c.loop-place.invariant
