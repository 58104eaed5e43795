use Rattle.std.proofs.Common.{refl}
use Rattle.svc_fds.proofs.VersionLemmas.{empty-unsayable, long-unsayable}
use Rattle.svc_judge.proofs.facts.encoded.Goals as goal

pub returns-in-Err-BadAddress : goal.returns-in-Err-BadAddress
returns-in-Err-BadAddress c = rw (empty-unsayable c.args.table.now.entries (rw c.in-Err-BadAddress.field-0-is at c.in-Err-BadAddress.ensures.refusal)) refl

pub returns-in-Err-TooLong : goal.returns-in-Err-TooLong
returns-in-Err-TooLong c =
    let fit = (rw c.in-Err-TooLong.field-0-is at c.in-Err-TooLong.ensures.refusal) in rw (long-unsayable c.args.table.now.entries fit.1 fit.2) refl
