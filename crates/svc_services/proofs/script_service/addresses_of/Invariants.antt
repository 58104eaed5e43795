use Rattle.std.proofs.Common.{◌≡◌, map, take}
use Rattle.svc_text.specs.declared.service.EndpointLine.{EndpointLine}
use Rattle.svc_services.proofs.script_service.addresses_of.Given as goal

abbrev pub invariant-loop-line : goal.invariant-loop-line
invariant-loop-line l = l.addresses.items ≡ map (λ (e : EndpointLine). e.address) (take l.line-index l.lines)
