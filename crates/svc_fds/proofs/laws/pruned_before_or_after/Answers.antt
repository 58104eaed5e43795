use Rattle.std.proofs.Common.{[], not}
use Rattle.svc_fds.specs.Tables.{is_kept}
use Rattle.svc_fds.proofs.LawLemmas.{passing-put_all}
use Rattle.svc_fds.proofs.laws.pruned_before_or_after.Goals as goal

pub returns-clause-left : goal.returns-clause-left
returns-clause-left c = λ keep pairs. passing-put_all (λ a. is_kept keep a) pairs [] tt

pub returns-clause-out : goal.returns-clause-out
returns-clause-out c = λ keep pairs. passing-put_all (λ a. not (is_kept keep a)) pairs [] tt
