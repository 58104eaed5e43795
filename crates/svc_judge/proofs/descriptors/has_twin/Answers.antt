use Rattle.std.proofs.Common.{ℕ, List, filter, ap, ◌∙◌, Option}
use Rattle.std.specs.List.{list_any}
use Rattle.std.specs.Option.{option_copied}
use Rattle.svc_record.specs.Plans.{same_address}
use Rattle.svc_record.specs.Descriptors.{Descriptor}
use Rattle.svc_judge.specs.Facts.{is_unclosed}
use Rattle.svc_judge.proofs.DescriptorLemmas.{any_swap}
use Rattle.svc_judge.proofs.descriptors.has_twin.Goals as goal

pub returns : goal.returns
returns c =
    let q = c.args.entries.now in
    c.is_any_unclosed.ensures
    ∙ any_swap (is_unclosed q) (λ (d : Descriptor). same_address d.address (option_copied c.address.result)) c.args.others.now
    ∙ ap (λ (a : Option (List ℕ)). list_any (λ (d : Descriptor). same_address d.address a) (filter (is_unclosed q) c.args.others.now)) c.address.ensures
