use Rattle.std.proofs.Common.{◌≡◌, length, map, take}
use Rattle.svc_host.specs.GatedFilters.{blocked_of}
use Rattle.svc_text.specs.declared.service.ServiceLine.{ServiceLine}
use Rattle.svc_serve.proofs.gates.filters_of.Given as goal

abbrev pub invariant-loop-line : goal.invariant-loop-line
invariant-loop-line l = record {
  number : l.service ≡ l.line-index;
  count : length l.filters ≡ l.line-index;
  blocked : map blocked_of l.filters ≡ map (λ (x : ServiceLine). x.blocked) (take l.line-index l.services);
}
