use Rattle.svc_text.proofs.OptionLemmas.{option_added}
use Rattle.svc_text.proofs.endpoint_lines.EndpointLines.add_option.Goals as goal

pub returns : goal.returns
returns c = option_added c.args.k c.args.option c.self.inside.lines.items c.args.self.now c.index_mut.result.now _ _ c.self.view_is c.requires
    c.index_mut.ensures.value c.push_item.ensures.ok
