use Rattle.std.proofs.Common.{◌≡◌, map, take}
use Rattle.svc_text.specs.ScriptPlans.{endpoint_of}
use Rattle.svc_services.proofs.script_service.endpoints_of.Given as goal

abbrev pub invariant-loop-line : goal.invariant-loop-line
invariant-loop-line l = l.endpoints.items ≡ map (endpoint_of l.filter) (take l.line-index l.lines)
