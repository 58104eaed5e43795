use Rattle.std.proofs.Common.{ap, ◌∙◌}
use Rattle.svc_base.specs.Items.{list_of}
use Rattle.svc_endpoints.specs.Counts.{are_few}
use Rattle.svc_endpoints.proofs.UsesLemmas.{few-lowered}
use Rattle.svc_endpoints.proofs.uses.Uses.change.Goals as goal

pub raise-requires : goal.raise-requires
raise-requires c = record { few = ap are_few c.lower.ensures.counts ∙ few-lowered c.args.was (list_of c.args.self.now) c.requires.few }
