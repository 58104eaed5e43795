use Rattle.std.proofs.Common.{List, filter, ap, ◌∙◌}
use Rattle.svc_record.specs.Descriptors.{Descriptor, apart}
use Rattle.svc_judge.specs.Facts.{is_unclosed}
use Rattle.svc_judge.specs.Pasts.{record_of}
use Rattle.svc_judge.proofs.descriptors.one_live.Goals as goal

pub returns : goal.returns
returns c = c.are_apart.ensures ∙ ap (λ (ds : List Descriptor). apart (filter (is_unclosed (record_of c.args.past.now)) ds)) c.requires.opened
