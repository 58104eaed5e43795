use Rattle.std.proofs.Common.{◌≡◌, length, None, false}
use Rattle.svc_server.specs.Servers.{answers_of}
use Rattle.svc_job_host.specs.contracts.service.JobServiceServiceWithDependents as services
use Rattle.svc_jobs.proofs.ServerLemmas.{HasFirst}
use Rattle.svc_jobs.proofs.services.server_of.Given as goal

abbrev pub invariant-loop-line : goal.invariant-loop-line
invariant-loop-line l = record {
  options : l.server.options ≡ None;
  eager : l.server.eager ≡ false;
  first : HasFirst l.lines l.line-index l.server.dependencies (length l.server.filters) (answers_of services.TheImpl.ghosts l.server.services.items);
}
