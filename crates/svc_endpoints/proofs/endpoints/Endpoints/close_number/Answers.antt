use Rattle.std.proofs.Common.{ap, arith, ◌==◌, length}
use Rattle.svc_base.specs.Items.{list_of}
use Rattle.svc_endpoints.specs.declared.table.Open.{Open}
use Rattle.svc_endpoints.specs.EndpointsData.{EndpointsRoom}
use Rattle.svc_endpoints.proofs.CountedLemmas.{closed-keeps}
use Rattle.svc_endpoints.proofs.RestLemmas.{picked-length}
use Rattle.svc_endpoints.proofs.endpoints.Endpoints.close_number.Goals as goal

pub returns-clause-room : goal.returns-clause-room
returns-clause-room c =
    let parts = picked-length (λ (o : Open). o.fd == c.args.fd) (list_of c.self.inside.table) in
    let rest = ap length c.close_number.ensures.after in
    let old = ap (λ (e : EndpointsRoom). length e.parts.table) c.self.view_is in
    let told = c.close_number.ensures.room in
    omega (arith, parts, rest, old, told)

pub invariant_of-self : goal.invariant_of-self
invariant_of-self c = (
  c.self.invariant.0,
  closed-keeps _ _ c.self.invariant.1 c.args.fd (list_of c.close_number.new.self) (list_of c.remove.new.self)
      c.close_number.ensures.after c.remove.ensures,
)
