use Rattle.std.proofs.Common.{◌≡◌, filter, ap, ◌∙◌, rules}
use Rattle.std.proofs.lemmas.List.Elements.{filter_from_retain}
use Rattle.svc_base.specs.Blocks.{joined, later_filled}
use Rattle.svc_base.proofs.BlockLemmas.{has_entries, joined-filled, later-all}
use Rattle.svc_base.proofs.blocks.filled_blocks.Goals as goal

pub returns-clause-entries : goal.returns-clause-entries
returns-clause-entries g c =
    let left : c.retain.new.self.items ≡ filter has_entries c.args.blocks.items =
    filter_from_retain _ has_entries (λ p x b q k. search rules) _ _ _ c.retain.ensures.filtered in
    ap joined left ∙ joined-filled c.args.blocks.items

pub returns-clause-filled : goal.returns-clause-filled
returns-clause-filled g c =
    let left : c.retain.new.self.items ≡ filter has_entries c.args.blocks.items =
    filter_from_retain _ has_entries (λ p x b q k. search rules) _ _ _ c.retain.ensures.filtered in
    ap later_filled left ∙ later-all c.args.blocks.items
