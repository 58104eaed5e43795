use Rattle.std.proofs.Common.{sym, ap, ◌≡◌, ◌∙◌, None, List, ℕ, length, vec_len, drop, reverse, subst, arith}
use Rattle.svc_graph.specs.HandleData.{HandleData}
use Rattle.svc_server.specs.Servers.{answer_of}
use Rattle.svc_server.specs.Additions.{fault_of, AddsFirst, IsReason}
use Rattle.svc_server.proofs.AddLemmas.{popped, adds-more, refuses-at}
use Rattle.svc_server.proofs.server.Server.add_services.Goals as goal

pub loop-service-preserved : goal.loop-service-preserved
loop-service-preserved g c =
    let means = g.B.ServiceWithDependents in
    let known = c.loop-service.invariant in
    let next = popped c.args.services.items c.loop-service.services.items c.pop.new.self.items
    (vec_len c.loop-service.handles) c.in-Some.service known.left c.in-Some.ensures.items in
    record {
      adds = subst
          (λ (handles : List HandleData). AddsFirst means c.args.self.now.dependencies c.add_service.new.self.dependencies
          (length c.args.self.now.filters) c.args.self.now.services.items c.add_service.new.self.services.items c.args.services.items
          (vec_len c.push_reserved.new.self) handles)
          (sym c.push_reserved.ensures.items)
          (adds-more means c.args.self.now.dependencies c.loop-service.self.dependencies c.add_service.new.self.dependencies
          (length c.args.self.now.filters) c.args.self.now.services.items c.loop-service.self.services.items c.add_service.new.self.services.items
          c.args.services.items (vec_len c.loop-service.handles)
          (vec_len c.push_reserved.new.self) c.in-Some.service c.loop-service.handles.items c.in-Ok.handle
          known.adds next.0 next.1 c.in-Ok.ensures.added c.in-Ok.ensures.node
          (subst (λ (fs : List g.row.F.Denot). fault_of c.loop-service.self.dependencies (length fs) (answer_of means c.in-Some.service) ≡ None) known.filters
          c.in-Ok.ensures.good) c.in-Ok.ensures.handle c.push_reserved.ensures.len);
      left = next.2 ∙ ap (λ (k : ℕ). reverse (drop k c.args.services.items)) (sym c.push_reserved.ensures.len);
      configuration = c.in-Ok.ensures.configuration ∙ known.configuration;
      options = c.in-Ok.ensures.options ∙ known.options;
      eager = c.in-Ok.ensures.eager ∙ known.eager;
      filters = c.in-Ok.ensures.filters ∙ known.filters;
      room = omega (arith, known.room, c.in-Some.ensures.cases, c.push_reserved.ensures.len, c.push_reserved.ensures.capacity);
      sound = λ sound. c.in-Ok.ensures.sound (known.sound sound);
    }

pub returns-in-Err-clause-cause : goal.returns-in-Err-clause-cause
returns-in-Err-clause-cause g c =
    let known = c.loop-service.invariant in
    let next = popped c.args.services.items c.loop-service.services.items c.pop.new.self.items
    (vec_len c.loop-service.handles) c.in-Some.service known.left c.in-Some.ensures.items in
    refuses-at g.B.ServiceWithDependents c.loop-service.self.dependencies c.add_service.new.self.dependencies
    (length c.add_service.new.self.filters) c.args.services.items
    (vec_len c.loop-service.handles) c.len-in-Err.result c.in-Some.service c.in-Err.refused.reason next.1 c.len-in-Err.ensures c.in-Err.ensures.same_nodes
    (subst (λ (fs : List g.row.F.Denot). IsReason
    (fault_of c.loop-service.self.dependencies (length fs) (answer_of g.B.ServiceWithDependents c.in-Some.service)) c.in-Err.refused.reason)
    (sym c.in-Err.ensures.filters) c.in-Err.ensures.cause)
