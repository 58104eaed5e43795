use Rattle.std.proofs.Common.{List, ap, subst, arith, ◌∙◌, ◌≡◌, ◌<◌, [], length, true, slice_index_or}
use Rattle.std.proofs.lemmas.List.{get_or_default}
use Rattle.svc_base.specs.Items.{list_of}
use Rattle.svc_endpoints.specs.declared.states.EndpointState.{EndpointState}
use Rattle.svc_endpoints.specs.declared.states.EndpointStatus.{EndpointStatus}
use Rattle.svc_endpoints.specs.EndpointsData.{EndpointsData, EndpointsRoom}
use Rattle.svc_endpoints.specs.EndpointsState.{idle, last_at}
use Rattle.svc_endpoints.specs.Effects.{held_now}
use Rattle.svc_endpoints.specs.Counts.{is_known}
use Rattle.svc_endpoints.proofs.CountedLemmas.{known-held}
use Rattle.svc_endpoints.proofs.endpoints.Endpoints.last_held.Goals as goal

pub returns-clause-known : goal.returns-clause-known
returns-clause-known c =
    let d : EndpointsData = record {
      rows = c.self.inside.rows.items;
      failed = c.self.inside.failed.items;
      loops = list_of c.self.inside.loops;
      table = list_of c.self.inside.table;
      came = list_of c.self.inside.came;
      shared = list_of c.self.inside.shared;
      tasks = c.self.inside.tasks;
    } in
    let rows = c.self.inside.rows.items in
    let same : length rows ≡ length c.args.self.now.parts.rows = ap (λ (e : EndpointsRoom). length e.parts.rows) c.self.view_is in
    let given = c.requires.service in
    let inside : c.args.s < length rows = omega (arith, same, given) in
    subst (λ (e : EndpointsRoom). is_known c.held_now.result e.parts.came ≡ true) c.self.view_is
    (ap (λ (x : EndpointStatus). is_known x (list_of c.self.inside.came)) (c.held_now.ensures ∙ ap (λ (y : EndpointState). held_now y.last)
    (c.get.ensures idle ∙ ap (λ (r : List EndpointState). slice_index_or r c.args.i idle)
    (c.index-row.ensures ∙ get_or_default rows c.args.s c.index-row.result.now [] inside)))
    ∙ known-held (last_at d c.args.s c.args.i) (list_of c.self.inside.came) (c.self.invariant.1.known c.args.s c.args.i))
