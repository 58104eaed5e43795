use Rattle.std.proofs.Common.{arith, ℕ, List, ◌==◌, ◌&&◌, ◌||◌, ◌∙◌, sym, ap, subst}
use Rattle.svc_graph.specs.Bits.{is_set}
use Rattle.svc_graph.proofs.Reaches.{none_set}
use Rattle.svc_graph.proofs.Searches.{Search, search-first, search-done, search-next, clear_count-less, stack-grows}
use Rattle.svc_graph.proofs.above.leading.Goals as goal

pub loop-top-init : goal.loop-top-init
loop-top-init c =
    let grown = c.in_ok-grow.ensures.rows in
    let same = c.set.ensures.len in
    rw (c.in_ok-push.ensures.items, c.new-stack.ensures.items)
    (search-first c.args.needed.now c.args.count c.args.node c.set.new.self (omega arith) c.requires.node
    (λ b. c.set.ensures.bits 0 b ∙ ap (λ w. w || (0 == 0 && b == c.args.node))
    (c.grow.ensures.same 0 b ∙ ap (λ (ws : List ℕ). is_set ws 0 b) c.new-found.ensures ∙ none_set 0 b)))

pub loop-top-preserved : goal.loop-top-preserved
loop-top-preserved c =
    search-done c.args.needed.now c.args.count c.args.node c.loop-top.found c.pop.new.self.items c.in-Some.top
    (subst (λ (stack : List ℕ). Search c.args.needed.now c.args.count c.args.node c.loop-top.found stack) c.in-Some.ensures.items c.loop-top.invariant)
    c.in_default-other.ensures.none

pub loop-top-preserved-in-Continue-branch-4 : goal.loop-top-preserved-in-Continue-branch-4
loop-top-preserved-in-Continue-branch-4 c =
    let next = c.in-Some-other.ensures.found in
    let rows = c.loop-top.invariant.rows in
    let same = c.set-in-Some-other.ensures.len in
    rw (c.in_ok-push-3.ensures.items, c.in_ok-push-2.ensures.items)
    (search-next c.args.needed.now c.args.count c.args.node c.loop-top.found c.pop.new.self.items c.in-Some.top c.in-Some-other.next
    c.set-in-Some-other.new.self
    (subst (λ (stack : List ℕ). Search c.args.needed.now c.args.count c.args.node c.loop-top.found stack) c.in-Some.ensures.items c.loop-top.invariant)
    next.1 (c.requires.inside c.in-Some-other.next c.in-Some.top next.1) (omega arith) (λ b. c.set-in-Some-other.ensures.bits 0 b))

pub loop-top-smaller-in-Continue-branch-4 : goal.loop-top-smaller-in-Continue-branch-4
loop-top-smaller-in-Continue-branch-4 c =
    let next = c.in-Some-other.ensures.found in
    let less = clear_count-less c.loop-top.found c.set-in-Some-other.new.self c.in-Some-other.next next.0 next.2
    (λ b. c.set-in-Some-other.ensures.bits 0 b) in
    stack-grows c.loop-top.found c.set-in-Some-other.new.self c.loop-top.stack.items c.push-in-Some-other.new.self.items
    c.push-in-Some-other-2.new.self.items
    c.in-Some-other.next less (c.in_ok-push-2.ensures.items ∙ sym c.in-Some.ensures.items) c.in_ok-push-3.ensures.items
