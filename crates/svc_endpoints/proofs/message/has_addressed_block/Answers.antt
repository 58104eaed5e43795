use Rattle.std.proofs.Common.{arith, sym, ap, ◌∙◌, ◌≡◌, true, false}
use Rattle.std.specs.List.{list_any}
use Rattle.svc_endpoints.specs.Offered.{is_addressed}
use Rattle.svc_endpoints.proofs.MessageLemmas.{addressed-here, addressed-past}
use Rattle.svc_endpoints.proofs.message.has_addressed_block.Goals as goal

pub returns-then-has_addressed : goal.returns-then-has_addressed
returns-then-has_addressed c =
    let here : list_any is_addressed c.block-item.result.items ≡ true =
    ap (list_any is_addressed) (sym c.deref.ensures.value) ∙ sym c.has_addressed.ensures ∙ c.if-has_addressed.true in
    addressed-here c.args.blocks.now c.loop-block.block-index c.block-item.result (omega arith) c.block-item.is here ∙ c.loop-block.invariant

pub loop-block-preserved : goal.loop-block-preserved
loop-block-preserved c =
    let none : list_any is_addressed c.block-item.result.items ≡ false =
    ap (list_any is_addressed) (sym c.deref.ensures.value) ∙ sym c.has_addressed.ensures ∙ c.if-has_addressed.false in
    addressed-past c.args.blocks.now c.loop-block.block-index c.block-item.result (omega arith) c.block-item.is none ∙ c.loop-block.invariant
