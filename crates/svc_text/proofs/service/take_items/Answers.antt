use Rattle.std.proofs.Common.{sym, ◌∙◌}
use Rattle.svc_text.proofs.ItemLemmas.{items_end, items_of}
use Rattle.svc_text.proofs.service.take_items.Goals as goal

pub returns-in-None : goal.returns-in-None
returns-in-None c = sym c.loop-key.invariant ∙ items_of _ _ _ _ _ c.in-Some.ensures.first (rw c.in-None.is at c.in_ok-more.ensures.items)

pub loop-key-preserved : goal.loop-key-preserved
loop-key-preserved c = sym (items_of _ _ _ _ _ c.in-Some.ensures.first (rw c.in-Some-2.is at c.in_ok-more.ensures.items)) ∙ c.loop-key.invariant

pub returns : goal.returns
returns c = sym c.loop-key.invariant ∙ items_end _ _ c.in_default.ensures.first
