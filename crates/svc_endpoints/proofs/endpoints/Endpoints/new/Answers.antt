use Rattle.std.proofs.Common.{ap, refl, arith, ◌≡◌, [], length}
use Rattle.svc_base.specs.Items.{list_of}
use Rattle.svc_endpoints.specs.declared.states.EndpointState.{EndpointState}
use Rattle.svc_endpoints.specs.EndpointsData.{EndpointsData}
use Rattle.svc_record.specs.Plans.{service_count}
use Rattle.svc_endpoints.proofs.CountedLemmas.{kept-as, kept-blank}
use Rattle.svc_endpoints.proofs.NewLemmas.{stands-new, blank-known, blank-few}
use Rattle.svc_endpoints.proofs.endpoints.Endpoints.new.Goals as goal

pub returns-clause-stands : goal.returns-clause-stands
returns-clause-stands c =
    stands-new c.args.plan.now
    (record {
      rows = c.in_ok-rows.rows.items;
      failed = c.in_ok-failed.failed.items;
      loops = list_of c.in_ok-loops.loops;
      table = list_of c.new-table.result;
      came = list_of c.new-came.result;
      shared = list_of c.in_ok-shared.shared;
      tasks = c.args.plan.now.tasks;
    })
    c.in_ok-rows.ensures.blank c.in_ok-failed.ensures.blank c.in_ok-loops.ensures c.new-table.ensures c.new-came.ensures c.requires.tasks

pub invariant_of-result : goal.invariant_of-result
invariant_of-result c =
    let d : EndpointsData = record {
      rows = c.in_ok-rows.rows.items;
      failed = c.in_ok-failed.failed.items;
      loops = list_of c.in_ok-loops.loops;
      table = list_of c.new-table.result;
      came = list_of c.new-came.result;
      shared = list_of c.in_ok-shared.shared;
      tasks = c.args.plan.now.tasks;
    } in
    let services = c.in_ok-rows.ensures.services in
    let flags = c.in_ok-failed.ensures.size in
    let count = c.service_count.ensures in
    let few = c.requires.few in
    let size : length c.in_ok-rows.rows.items ≡ service_count c.args.plan.now = omega (arith, services, c.in_ok-rows.rows.ok.0) in
    let flagged : length c.in_ok-failed.failed.items ≡ length c.in_ok-rows.rows.items =
    omega (arith, flags, count, size, c.in_ok-failed.failed.ok.0) in (
      blank-known c.in_ok-rows.rows.items c.in_ok-failed.failed.items c.in_ok-busy.busy (omega (arith, size, few)) flagged c.in_ok-busy.ensures
          c.in_ok-rows.ensures.blank,
      kept-as d d [] (list_of c.new-uses.result) refl c.new-uses.ensures
          (kept-blank d (λ s i. ap (λ (x : EndpointState). x.last) (c.in_ok-rows.ensures.blank s i))
          (blank-few c.args.plan.now c.in_ok-rows.rows.items size c.in_ok-rows.ensures.each c.requires.few_endpoints) c.new-table.ensures),
    )
