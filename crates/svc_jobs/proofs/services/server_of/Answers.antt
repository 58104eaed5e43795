use Rattle.std.proofs.Common.{ap, ◌∙◌, arith}
use Rattle.svc_server.specs.Servers.{answer_of}
use Rattle.svc_job_host.specs.contracts.service.JobServiceServiceWithDependents as services
use Rattle.svc_jobs.proofs.ServerLemmas.{named, first_more, first_all, only_memory}
use Rattle.svc_jobs.proofs.services.server_of.Goals as goal

pub memory_alone-requires : goal.memory_alone-requires
memory_alone-requires c =
    only_memory c.args.lines.now c.loop-line.line-index _ _ _ _ _ c.in-Err-add_service.refused.reason c.requires c.loop-line.invariant.first
    c.loop-line-test.true
    (ap named (c.new-service.ensures ∙ c.in-Ok.ensures)) c.in-Err-add_service.ensures.cause

pub loop-line-preserved : goal.loop-line-preserved
loop-line-preserved c =
    let says = ap named (c.new-service.ensures ∙ c.in-Ok.ensures) in
    record {
      options = c.add_service.ensures.options ∙ c.loop-line.invariant.options;
      eager = c.add_service.ensures.eager ∙ c.loop-line.invariant.eager;
      first =
          first_more (answer_of services.TheImpl.ghosts) c.args.lines.now c.loop-line.line-index c.line-item.result _ _ _ _ _ _ _ c.new-service.result
          c.loop-line.invariant.first c.loop-line-test.true c.line-item.is
          says c.in-Ok-add_service.ensures.node c.in-Ok-add_service.ensures.added (c.add_service.ensures.sound c.loop-line.invariant.first.sound);
    }

pub returns-clause-jobs : goal.returns-clause-jobs
returns-clause-jobs c = first_all c.args.lines.now c.loop-line.line-index _ _ _ c.loop-line.invariant.first (omega arith)
