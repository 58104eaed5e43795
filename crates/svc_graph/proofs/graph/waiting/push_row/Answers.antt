use Rattle.std.proofs.Common.{arith, ◌∙◌, ◌++◌, ◌∷◌, [], ap, sym, append_assoc}
use Rattle.svc_graph.specs.Bits.{is_set}
use Rattle.svc_graph.specs.Counts.{those_below}
use Rattle.svc_graph.proofs.Those.{those-next, those_of-below}
use Rattle.svc_graph.proofs.graph.waiting.push_row.Goals as goal

pub loop-dependent-preserved : goal.loop-dependent-preserved
loop-dependent-preserved c =
    let found = c.in-Some.ensures.found in
    let p = is_set c.args.needed.now c.args.node in
    record {
      from = omega (arith, found.1);
      items = c.in_ok-push.ensures.items ∙ ap (λ xs. xs ++ c.in-Some.dependent ∷ []) c.loop-dependent.invariant.items
          ∙ append_assoc c.args.rows.now.items (those_below p c.loop-dependent.from) (c.in-Some.dependent ∷ [])
          ∙ ap (λ xs. c.args.rows.now.items ++ xs) (sym (those-next p c.loop-dependent.from c.in-Some.dependent found.0 c.in-Some.ensures.least found.2));
    }

pub returns : goal.returns
returns c = c.loop-dependent.invariant.items
    ∙ ap (λ xs. c.args.rows.now.items ++ xs)
    (sym (those_of-below (is_set c.args.needed.now c.args.node) c.loop-dependent.from c.loop-dependent.invariant.from c.in_default.ensures.none))
