use Rattle.svc_record.proofs.Complete.{test_from_right}
use Rattle.svc_record.proofs.Sound.{right_from_test}
use Rattle.svc_laws.proofs.agreement.right_is_tested.Goals as goal

pub returns-clause-passes : goal.returns-clause-passes
returns-clause-passes c = test_from_right

pub returns-clause-right : goal.returns-clause-right
returns-clause-right c = right_from_test
