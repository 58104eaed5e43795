use Rattle.std.proofs.Common.{◌==◌, List, map, filter, ap, ◌∙◌}
use Rattle.std.specs.List.{list_any}
use Rattle.std.specs.Option.{option_copied}
use Rattle.svc_record.specs.Plans.{same_address}
use Rattle.svc_record.specs.Descriptors.{Descriptor}
use Rattle.svc_judge.specs.Facts.{is_unclosed}
use Rattle.svc_judge.specs.Pasts.{record_of}
use Rattle.svc_judge.proofs.DescriptorLemmas.{filter_swap}
use Rattle.svc_judge.proofs.descriptors.is_live_with.Goals as goal

pub returns : goal.returns
returns c =
    let q = record_of c.args.past.now in
    let with_address = λ (d : Descriptor). same_address d.address (option_copied c.args.address) in
    let has_number = λ (ds : List Descriptor). list_any (λ n. n == c.args.fd) (map (λ (d : Descriptor). d.number) ds) in
    c.is_unclosed_with.ensures ∙ ap has_number (filter_swap (is_unclosed q) with_address c.args.past.now.opened.now)
    ∙ ap (λ (ds : List Descriptor). has_number (filter with_address (filter (is_unclosed q) ds))) c.requires.opened
