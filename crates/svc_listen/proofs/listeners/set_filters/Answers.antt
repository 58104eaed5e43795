use Rattle.std.proofs.Common.{subst, sym, get_or, ◌≡◌, ◌∙◌}
use Rattle.std.proofs.lemmas.List.Edits.{map_over_more}
use Rattle.svc_listen.specs.Endpoints.{filtered}
use Rattle.svc_listen.specs.EndpointData.{EndpointData}
use Rattle.svc_listen.proofs.listeners.set_filters.Goals as goal

pub loop-stack-preserved : goal.loop-stack-preserved
loop-stack-preserved c =
    let was : EndpointData =
    record {
      address = c.stack.inside.l4;
      tls = c.stack.inside.tls;
      buffer = c.stack.inside.l4_buffer;
      filter = c.stack.inside.connection_filter;
      callback = c.stack.inside.pre_tls_callback;
    } in
    map_over_more (filtered c.args.filter) c.args.stacks.now.items c.loop-stack.stack-items c.loop-stack.stack-index was
    (rw c.deref_mut-stack-items.ensures.value at c.loop-stack-test.true) c.loop-stack.invariant
    (subst (λ (x : EndpointData). x ≡ get_or c.loop-stack.stack-items c.loop-stack.stack-index x) (c.stack-item.is ∙ sym c.stack.view_is) c.stack-item.is)
