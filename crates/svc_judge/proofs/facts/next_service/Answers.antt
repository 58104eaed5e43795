use Rattle.std.proofs.Common.{sym, ap, ◌∙◌}
use Rattle.std.specs.Option.{option_to_list}
use Rattle.svc_record.specs.Plans.{services}
use Rattle.svc_record.specs.Starts.{comes_next}
use Rattle.svc_judge.proofs.FactLemmas.{first_number_is}
use Rattle.svc_judge.proofs.facts.next_service.Goals as goal

pub returns : goal.returns
returns c = ap option_to_list c.found_service.ensures ∙ sym (first_number_is (comes_next c.args.plan.now c.args.listed.now) (services c.args.plan.now))
