use Rattle.std.proofs.Common.{◌≡◌, ◌+◌, ◌≤◌, length, drop, reverse, vec_len, vec_capacity}
use Rattle.svc_server.specs.Servers.{answers_of, IsSound}
use Rattle.svc_server.specs.Additions.{AddsFirst}
use Rattle.svc_server.proofs.server.Server.add_services.Given as goal

abbrev pub invariant-loop-service : goal.invariant-loop-service
invariant-loop-service g l =
    let means = g.B.ServiceWithDependents in
    record {
      adds : AddsFirst means l.fn.self.dependencies l.self.dependencies
          (length l.fn.self.filters) l.fn.self.services.items l.self.services.items l.fn.services.items (vec_len l.handles) l.handles.items;
      left : l.services.items ≡ reverse (drop (vec_len l.handles) l.fn.services.items);
      configuration : l.self.configuration ≡ l.fn.self.configuration;
      options : l.self.options ≡ l.fn.self.options;
      eager : l.self.eager ≡ l.fn.self.eager;
      filters : l.self.filters ≡ l.fn.self.filters;
      room : vec_len l.services + vec_len l.handles ≤ vec_capacity l.handles;
      sound : IsSound l.fn.self.dependencies (length l.fn.self.filters) (answers_of means l.fn.self.services.items)
          → IsSound l.self.dependencies (length l.self.filters) (answers_of means l.self.services.items);
    }

abbrev pub decreases-loop-service : goal.decreases-loop-service
decreases-loop-service g l = vec_len l.services
