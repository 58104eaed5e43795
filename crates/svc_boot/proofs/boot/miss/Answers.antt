use Rattle.std.proofs.Common.{[]}
use Rattle.svc_boot.proofs.RetryLemmas.{once_too_often, not_too_often, all_left}
use Rattle.svc_boot.proofs.boot.miss.Goals as goal

pub returns-in-Refused-clause-last : goal.returns-in-Refused-clause-last
returns-in-Refused-clause-last c =
    once_too_often _ c.step.result c.in-Refused.field-0 (c.step.ensures.next c.args.retry.now [] (all_left c.args.retry.now)) c.in-Refused.is

pub returns-in-Refused-clause-after : goal.returns-in-Refused-clause-after
returns-in-Refused-clause-after c = c.step.ensures.after c.args.retry.now [] (all_left c.args.retry.now)

pub returns-in_default : goal.returns-in_default
returns-in_default c = record {
  last = not_too_often _ c.step.result (c.step.ensures.next c.args.retry.now [] (all_left c.args.retry.now)) c.in_default.not-Refused;
  after = c.step.ensures.after c.args.retry.now [] (all_left c.args.retry.now);
}
