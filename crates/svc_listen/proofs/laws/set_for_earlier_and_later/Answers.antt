use Rattle.svc_listen.proofs.ListLemmas.{filter_reaches, callback_reaches}
use Rattle.svc_listen.proofs.laws.set_for_earlier_and_later.Goals as goal

pub returns-clause-filter : goal.returns-clause-filter
returns-clause-filter c = filter_reaches

pub returns-clause-callback : goal.returns-clause-callback
returns-clause-callback c = callback_reaches
