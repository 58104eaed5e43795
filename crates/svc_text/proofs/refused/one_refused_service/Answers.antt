use Rattle.svc_text.proofs.EdgeLemmas.{refused_first, refused_some}
use Rattle.svc_text.proofs.refused.one_refused_service.Goals as goal

pub returns-clause-first : goal.returns-clause-first
returns-clause-first c = refused_first

pub returns-clause-some : goal.returns-clause-some
returns-clause-some c = refused_some
