use Rattle.svc_text.proofs.Back.{same_record}
use Rattle.svc_text.proofs.printing.one_record.Goals as goal

pub returns : goal.returns
returns c = same_record
