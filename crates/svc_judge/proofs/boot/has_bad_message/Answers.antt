use Rattle.std.proofs.Common.{Bool, not, sym, ap, ◌∙◌}
use Rattle.std.specs.List.{list_any}
use Rattle.svc_judge.specs.Pasts.{record_of}
use Rattle.svc_judge.proofs.PastLemmas.{bad_by_reads}
use Rattle.svc_judge.proofs.boot.has_bad_message.Goals as goal

pub returns : goal.returns
returns c = c.has_unread.ensures ∙ ap (list_any (λ (r : Bool). not r)) c.requires.reads ∙ sym (bad_by_reads (record_of c.args.past.now))
