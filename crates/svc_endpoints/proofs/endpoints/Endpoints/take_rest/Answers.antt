use Rattle.std.proofs.Common.{ap, ◌∙◌}
use Rattle.svc_base.specs.Items.{list_of}
use Rattle.svc_endpoints.specs.EndpointsData.{EndpointsRoom}
use Rattle.svc_endpoints.specs.EndpointsState.{all_new}
use Rattle.svc_endpoints.proofs.CountedLemmas.{rest-keeps, new-uncounted}
use Rattle.svc_endpoints.proofs.endpoints.Endpoints.take_rest.Goals as goal

pub add_counts-requires-clause-new : goal.add_counts-requires-clause-new
add_counts-requires-clause-new c =
    new-uncounted _ _ c.self.invariant.1 c.args.fds.now
    (ap (λ (e : EndpointsRoom). all_new e.parts.came c.args.fds.now) c.self.view_is ∙ c.requires.new)

pub invariant_of-self : goal.invariant_of-self
invariant_of-self c = (
  c.self.invariant.0,
  rest-keeps _ _ c.self.invariant.1 (list_of c.args.out.now) c.args.fds.now c.args.words.items
      (list_of c.add_rest.new.self) (list_of c.add_all.new.numbers) (list_of c.add_counts.new.uses)
      (ap (λ (e : EndpointsRoom). all_new e.parts.came c.args.fds.now) c.self.view_is ∙ c.requires.new)
      c.add_rest.ensures c.add_all.ensures c.add_counts.ensures,
)
