use Rattle.svc_text.proofs.PlaceLemmas.{eager_services}
use Rattle.svc_text.proofs.reading.Reading.take_service_line.Goals as goal

pub returns-then-is_eager-clause-services : goal.returns-then-is_eager-clause-services
returns-then-is_eager-clause-services c =
    eager_services c.args.self.now c.take_eager.new.self c.args.line.now c.take_eager.result (cc) c.take_eager.ensures.ok
