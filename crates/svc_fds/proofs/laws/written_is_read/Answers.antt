use Rattle.svc_fds.proofs.VersionLemmas.{written-text, read-written}
use Rattle.svc_fds.proofs.laws.written_is_read.Goals as goal

pub returns : goal.returns
returns c = λ es up texts said. read-written es up said (written-text es said texts) (λ off. texts)
