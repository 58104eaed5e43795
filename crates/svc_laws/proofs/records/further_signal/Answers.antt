use Rattle.svc_laws.proofs.FurtherLemmas.{further-silent}
use Rattle.svc_laws.proofs.records.further_signal.Goals as goal

pub returns : goal.returns
returns c = further-silent
