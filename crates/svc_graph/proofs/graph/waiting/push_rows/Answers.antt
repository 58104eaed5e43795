use Rattle.std.proofs.Common.{arith, List, ℕ, ◌+◌, ◌∙◌, ◌++◌, ◌∷◌, [], ◌≡◌, ap, sym, subst, length, length-append}
use Rattle.svc_graph.specs.Bits.{is_set}
use Rattle.svc_graph.specs.Counts.{those_of}
use Rattle.svc_graph.specs.Waitings.{AreRows}
use Rattle.svc_graph.proofs.Those.{those_of-few}
use Rattle.svc_graph.proofs.Waits.{rows-none, rows-next}
use Rattle.svc_graph.proofs.graph.waiting.push_rows.Goals as goal

pub overflow_cast-len : goal.overflow_cast-len
overflow_cast-len c =
    let size = ap (λ (xs : List ℕ). length xs) c.in_ok-push_row.ensures in
    let long = length-append c.loop-node.rows.items (those_of (is_set c.args.needed.now c.loop-node.node)) in
    let row = those_of-few (is_set c.args.needed.now c.loop-node.node) in
    let few = c.loop-node.invariant.few in
    omega (arith, c.len.ensures, c.push_row.new.rows.ok.0, c.requires.few)

pub loop-node-init : goal.loop-node-init
loop-node-init c =
    subst (λ (xs : List ℕ). AreRows c.args.needed.now 0 xs c.args.starts.now.items) (sym c.requires.none)
    (subst (λ (xs : List ℕ). AreRows c.args.needed.now 0 [] xs) (sym c.requires.first) (rows-none c.args.needed.now))

pub loop-node-preserved : goal.loop-node-preserved
loop-node-preserved c =
    let flat : List ℕ = c.loop-node.rows.items ++ those_of (is_set c.args.needed.now c.loop-node.node) in
    let size : length c.push_row.new.rows.items ≡ length flat = ap (λ (xs : List ℕ). length xs) c.in_ok-push_row.ensures in
    let len : c.len.result ≡ length flat = omega (arith, c.len.ensures, c.push_row.new.rows.ok.0) in
    subst (λ (xs : List ℕ). AreRows c.args.needed.now (c.loop-node.node + 1) xs c.push.new.self.items) (sym c.in_ok-push_row.ensures)
    (subst (λ (xs : List ℕ). AreRows c.args.needed.now (c.loop-node.node + 1) flat xs)
    (sym (c.in_ok-push.ensures.items ∙ ap (λ n. c.loop-node.starts.items ++ n ∷ []) len))
    (rows-next c.args.needed.now c.loop-node.node c.loop-node.rows.items c.loop-node.starts.items c.loop-node.invariant))
