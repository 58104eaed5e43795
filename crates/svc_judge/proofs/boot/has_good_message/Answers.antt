use Rattle.std.proofs.Common.{Bool, sym, ap, ◌∙◌}
use Rattle.std.specs.List.{list_any}
use Rattle.svc_judge.specs.Pasts.{record_of}
use Rattle.svc_judge.proofs.PastLemmas.{good_by_reads}
use Rattle.svc_judge.proofs.boot.has_good_message.Goals as goal

pub returns : goal.returns
returns c = c.has_read.ensures ∙ ap (list_any (λ (r : Bool). r)) c.requires.reads ∙ sym (good_by_reads (record_of c.args.past.now))
