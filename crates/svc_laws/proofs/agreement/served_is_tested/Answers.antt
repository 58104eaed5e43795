use Rattle.svc_record.proofs.Complete.{test_from_served}
use Rattle.svc_record.proofs.Sound.{served_from_test}
use Rattle.svc_laws.proofs.agreement.served_is_tested.Goals as goal

pub returns-clause-passes : goal.returns-clause-passes
returns-clause-passes c = test_from_served

pub returns-clause-served : goal.returns-clause-served
returns-clause-served c = served_from_test
