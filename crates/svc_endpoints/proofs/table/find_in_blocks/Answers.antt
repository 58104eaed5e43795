use Rattle.std.proofs.Common.{arith, sym, ap, ◌∙◌, ◌≡◌, List, Some, is_some, true, false}
use Rattle.svc_endpoints.specs.declared.table.Open.{Open}
use Rattle.svc_endpoints.specs.EndpointsState.{numbers_with}
use Rattle.svc_endpoints.specs.Effects.{first_of}
use Rattle.svc_endpoints.proofs.TableLemmas.{block-found, block-past}
use Rattle.svc_endpoints.proofs.table.find_in_blocks.Goals as goal

pub returns-then-is_some : goal.returns-then-is_some
returns-then-is_some c =
    let a = c.args.address.now in
    let here : c.find_in-found.result ≡ first_of (numbers_with c.block-item.result.items (Some a)) =
    c.find_in-found.ensures ∙ ap (λ (w : List Open). first_of (numbers_with w (Some a))) c.deref.ensures.value in
    let some : is_some (first_of (numbers_with c.block-item.result.items (Some a))) ≡ true =
    ap is_some (sym here) ∙ sym c.is_some.ensures ∙ c.if-is_some.true in
    here ∙ block-found c.args.blocks.now c.loop-block.block-index c.block-item.result (omega arith) c.block-item.is (Some a) some
    ∙ ap first_of c.loop-block.invariant

pub loop-block-preserved : goal.loop-block-preserved
loop-block-preserved c =
    let a = c.args.address.now in
    let here : c.find_in-found.result ≡ first_of (numbers_with c.block-item.result.items (Some a)) =
    c.find_in-found.ensures ∙ ap (λ (w : List Open). first_of (numbers_with w (Some a))) c.deref.ensures.value in
    let none : is_some (first_of (numbers_with c.block-item.result.items (Some a))) ≡ false =
    ap is_some (sym here) ∙ sym c.is_some.ensures ∙ c.if-is_some.false in
    block-past c.args.blocks.now c.loop-block.block-index c.block-item.result (omega arith) c.block-item.is (Some a) none ∙ c.loop-block.invariant
