use Rattle.std.proofs.Common.{[]}
use Rattle.svc_fds.specs.Messages.{words}
use Rattle.svc_fds.proofs.LawLemmas.{lookup-paired, lookup-other}
use Rattle.svc_fds.proofs.laws.paired_in_order.Goals as goal

pub returns-clause-held : goal.returns-clause-held
returns-clause-held c = λ bytes fds word k fd message here there. lookup-paired (words bytes) fds [] k word fd message.pairs.distinct here there

pub returns-clause-other : goal.returns-clause-other
returns-clause-other c = λ bytes fds address apart. lookup-other (words bytes) fds [] address apart
