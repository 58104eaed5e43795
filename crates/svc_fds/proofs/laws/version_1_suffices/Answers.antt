use Rattle.svc_fds.proofs.VersionLemmas.{framed-written, read-old}
use Rattle.svc_fds.proofs.laws.version_1_suffices.Goals as goal

pub returns : goal.returns
returns c = record { version = framed-written; old = read-old }
