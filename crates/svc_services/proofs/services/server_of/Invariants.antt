use Rattle.std.proofs.Common.{◌≡◌, false, length}
use Rattle.svc_server.specs.Servers.{answers_of}
use Rattle.svc_services.specs.contracts.script_service.ScriptServiceServiceWithDependents as services
use Rattle.svc_services.specs.Filtered.{number_behind}
use Rattle.svc_services.proofs.ServerLemmas.{HasFirst}
use Rattle.svc_services.proofs.services.server_of.Given as goal

abbrev pub invariant-loop-k : goal.invariant-loop-k
invariant-loop-k g l = record {
  eager : l.server.eager ≡ false;
  filters : l.server.filters ≡ l.fn.filters;
  first : HasFirst (number_behind l.filtered) l.lines l.k l.server.dependencies (length l.server.filters)
      (answers_of services.TheImpl.ghosts l.server.services.items);
}
