use Rattle.std.proofs.Common.{List, filter, ap, ◌∙◌}
use Rattle.std.specs.List.{list_any}
use Rattle.std.specs.Option.{option_copied}
use Rattle.svc_record.specs.Plans.{same_address}
use Rattle.svc_record.specs.Descriptors.{Descriptor}
use Rattle.svc_judge.specs.Facts.{is_unclosed}
use Rattle.svc_judge.specs.Pasts.{record_of}
use Rattle.svc_judge.proofs.DescriptorLemmas.{any_swap}
use Rattle.svc_judge.proofs.descriptors.has_live.Goals as goal

pub returns : goal.returns
returns c =
    let q = record_of c.args.past.now in
    let with_address = λ (d : Descriptor). same_address d.address (option_copied c.args.address) in
    c.is_any_unclosed.ensures ∙ any_swap (is_unclosed q) with_address c.args.past.now.opened.now
    ∙ ap (λ (ds : List Descriptor). list_any with_address (filter (is_unclosed q) ds)) c.requires.opened
