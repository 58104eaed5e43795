use Rattle.std.proofs.Common.{List, map, filter, ap, ◌∙◌}
use Rattle.std.specs.List.{list_any}
use Rattle.std.specs.Option.{option_copied}
use Rattle.svc_record.specs.Plans.{same_address}
use Rattle.svc_record.specs.Descriptors.{Descriptor}
use Rattle.svc_record.specs.Endpoints.{is_held_by}
use Rattle.svc_judge.specs.Facts.{is_unclosed}
use Rattle.svc_judge.specs.Pasts.{plan_of, record_of}
use Rattle.svc_judge.proofs.DescriptorLemmas.{filter_swap}
use Rattle.svc_judge.proofs.endpoints.is_held_live.Goals as goal

pub returns : goal.returns
returns c =
    let p = plan_of c.args.past.now in
    let q = record_of c.args.past.now in
    let with_address = λ (d : Descriptor). same_address d.address (option_copied c.args.address) in
    let is_held = λ (ds : List Descriptor). list_any (is_held_by p q c.args.s c.args.i) (map (λ (d : Descriptor). d.number) ds) in
    c.is_held_by_any.ensures ∙ ap is_held (filter_swap (is_unclosed q) with_address c.args.past.now.opened.now)
    ∙ ap (λ (ds : List Descriptor). is_held (filter with_address (filter (is_unclosed q) ds))) c.requires.opened
