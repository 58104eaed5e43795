use Rattle.std.proofs.Common.{rules, ◌==◌, not}
use Rattle.std.proofs.lemmas.Fn.{filter_same}
use Rattle.svc_system.proofs.offer.without_feeds.Goals as goal

pub returns : goal.returns
returns c = filter_same _ (λ byte. not (byte == 10)) _ (λ x b f' k. search rules) _ _ c.retain.ensures.filtered
