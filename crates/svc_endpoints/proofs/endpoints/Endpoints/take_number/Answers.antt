use Rattle.std.proofs.Common.{List, ℕ, ap, refl}
use Rattle.svc_base.specs.Items.{list_of}
use Rattle.svc_endpoints.specs.EndpointsData.{EndpointsData}
use Rattle.svc_endpoints.proofs.CountedLemmas.{kept-number}
use Rattle.svc_endpoints.specs.Effects.{with_number}
use Rattle.svc_endpoints.proofs.CountedLemmas.{kept-as}
use Rattle.svc_endpoints.proofs.endpoints.Endpoints.take_number.Goals as goal

pub invariant_of-self : goal.invariant_of-self
invariant_of-self c =
    let d : EndpointsData = record {
      rows = c.self.inside.rows.items;
      failed = c.self.inside.failed.items;
      loops = list_of c.self.inside.loops;
      table = list_of c.self.inside.table;
      came = list_of c.self.inside.came;
      shared = list_of c.self.inside.shared;
      tasks = c.self.inside.tasks;
    } in (
      c.self.invariant.0,
      kept-as (with_number c.args.fd d) (record d { came = list_of c.add.new.self }) (list_of c.self.inside.uses) (list_of c.self.inside.uses)
          (ap (λ (x : List ℕ). record d { came = x }) c.add.ensures.numbers) refl (kept-number d (list_of c.self.inside.uses) c.self.invariant.1 c.args.fd),
    )
