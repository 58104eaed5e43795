use Rattle.std.proofs.Common.{ap, not, ◌∙◌}
use Rattle.std.specs.List.{list_any}
use Rattle.svc_record.specs.Offer.{is_empty_table}
use Rattle.svc_endpoints.specs.Offered.{is_addressed}
use Rattle.svc_endpoints.proofs.MessageLemmas.{offer-is, some-offered}
use Rattle.svc_endpoints.proofs.endpoints.Endpoints.offers_anything.Goals as goal

pub returns : goal.returns
returns c p q h =
    c.has_addressed_block.ensures ∙ ap (list_any is_addressed) (c.as_blocks.ensures ∙ c.table.ensures) ∙ some-offered c.args.self.now.parts.table
    ∙ ap (λ t. not (is_empty_table t)) (offer-is p c.args.self.now.parts q h)
