use Rattle.std.proofs.Common.{◌∙◌, ap, ◌++◌, ◌∷◌, [], List, length, subst, sym}
use Rattle.svc_server.specs.Servers.{answers_of, IsSound}
use Rattle.svc_server.proofs.AddLemmas.{add-sound}
use Rattle.svc_server.proofs.server.Server.add_service.Goals as goal

pub returns-in-Ok : goal.returns-in-Ok
returns-in-Ok g c =
    let added = c.push_reserved.ensures.items ∙ ap (λ (bs : List g.row.B.Denot). bs ++ c.args.service ∷ []) c.in-Ok.ensures.services in
    record {
      configuration = c.in-Ok.ensures.configuration;
      options = c.in-Ok.ensures.options;
      eager = c.in-Ok.ensures.eager;
      filters = c.in-Ok.ensures.filters;
      handle = c.in-Ok.ensures.handle;
      added = added;
      node = c.in-Ok.ensures.node;
      good = c.in-Ok.ensures.good;
      cause = tt;
      back = tt;
      same_services = tt;
      same_nodes = tt;
      sound = λ sound.
          subst (λ (fs : List g.row.F.Denot). IsSound c.prepare.new.self.dependencies (length fs)
          (answers_of g.B.ServiceWithDependents c.push_reserved.new.self.items)) (sym c.in-Ok.ensures.filters)
          (add-sound g.B.ServiceWithDependents c.args.self.now.dependencies c.prepare.new.self.dependencies
          (length c.args.self.now.filters) c.args.self.now.services.items c.push_reserved.new.self.items c.args.service
          c.in-Ok.ensures.node added c.in-Ok.ensures.good sound);
    }
