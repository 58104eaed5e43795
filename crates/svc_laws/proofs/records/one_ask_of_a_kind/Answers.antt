use Rattle.svc_laws.proofs.AskLemmas.{one-ask}
use Rattle.svc_laws.proofs.records.one_ask_of_a_kind.Goals as goal

pub returns : goal.returns
returns c = one-ask
