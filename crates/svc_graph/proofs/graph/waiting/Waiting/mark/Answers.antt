use Rattle.std.proofs.Common.{arith, List, ℕ, ◌≡◌, ◌<◌, ◌+◌, ◌∙◌, true, false, sym, ap, subst, cond, length, length-set, slice_index_or, slice_set}
use Rattle.std.specs.List.Sorted.{IsStrictlyIncreasing}
use Rattle.svc_graph.specs.Marks.{is_marked}
use Rattle.svc_graph.specs.Graphs.{is_listed}
use Rattle.svc_graph.specs.WaitingData.{WaitingData}
use Rattle.svc_graph.specs.Waitings.{IsCounted, dependents_at, dependents_of, is_dependent, rows_of_test}
use Rattle.svc_graph.proofs.Lists.{whole_slice}
use Rattle.svc_graph.proofs.Waits.{counted-rise, counted-some, counted-mark, counted-steps}
use Rattle.svc_graph.proofs.graph.waiting.Waiting.mark.Goals as goal

pub invariant_of-self : goal.invariant_of-self
invariant_of-self g c =
    let size = ap (λ (w : WaitingData). length w.marks) c.self.view_is in
    let free = subst (λ (w : WaitingData). is_marked w.marks c.args.s ≡ false) (sym c.self.view_is) c.requires.fresh in
    let row = rw (c.deref.ensures.value, c.deref-2.ensures.value) at c.dependents_at.ensures in
    let whole = whole_slice c.self.inside.counts.len c.self.inside.counts.items c.lower.new.counts
    (omega (arith, c.self.inside.counts.ok.0, c.lower.auto.counts, c.deref_mut.ensures.len)) in
    subst (λ counts. IsCounted counts c.self.inside.dependents.items c.self.inside.starts.items (slice_set c.self.inside.marks.items c.args.s true)) (sym whole)
    (counted-mark c.self.inside.counts.items c.self.inside.dependents.items c.self.inside.starts.items c.self.inside.marks.items c.self.invariant c.args.s
    (omega arith) free c.lower.new.counts
    (omega (arith, c.lower.auto.counts, c.deref_mut.ensures.len))
    (subst (λ (ws : List ℕ). (a : ℕ) → slice_index_or c.lower.new.counts a 0
    + cond (is_listed (dependents_at c.self.inside.dependents.items c.self.inside.starts.items c.args.s) a) 1 0 ≡ slice_index_or ws a 0)
    c.deref_mut.ensures.value
    (subst (λ (ws : List ℕ). (a : ℕ) → slice_index_or c.lower.new.counts a 0 + cond (is_listed ws a) 1 0 ≡ slice_index_or c.deref_mut.result.now a 0) row
    c.lower.ensures.counts)))

pub lower-requires-clause-rises : goal.lower-requires-clause-rises
lower-requires-clause-rises g c =
    let size = ap (λ (w : WaitingData). length w.marks) c.self.view_is in
    let row = rw (c.deref.ensures.value, c.deref-2.ensures.value) at c.dependents_at.ensures in
    subst (λ (ws : List ℕ). IsStrictlyIncreasing ws) (sym row)
    (counted-rise c.self.inside.counts.items c.self.inside.dependents.items c.self.inside.starts.items c.self.inside.marks.items c.self.invariant c.args.s
    (omega arith))

pub lower-requires-clause-some : goal.lower-requires-clause-some
lower-requires-clause-some g c =
    let size = ap (λ (w : WaitingData). length w.marks) c.self.view_is in
    let free = subst (λ (w : WaitingData). is_marked w.marks c.args.s ≡ false) (sym c.self.view_is) c.requires.fresh in
    let row = rw (c.deref.ensures.value, c.deref-2.ensures.value) at c.dependents_at.ensures in
    λ a e. subst (λ (ws : List ℕ). (a < length ws) × (0 < slice_index_or ws a 0)) (sym c.deref_mut.ensures.value)
    (counted-some c.self.inside.counts.items c.self.inside.dependents.items c.self.inside.starts.items c.self.inside.marks.items c.self.invariant c.args.s
    (omega arith) free a (subst (λ (ws : List ℕ). is_listed ws a ≡ true) row e))

pub returns-clause-steps : goal.returns-clause-steps
returns-clause-steps g c =
    let size = ap (λ (w : WaitingData). length w.marks) c.self.view_is in
    let row = rw (c.deref.ensures.value, c.deref-2.ensures.value) at c.dependents_at.ensures in
    c.lower.ensures.steps ∙ ap (λ (ws : List ℕ). c.args.steps.now + length ws) row
    ∙ ap (λ n. c.args.steps.now + n)
    (counted-steps c.self.inside.counts.items c.self.inside.dependents.items c.self.inside.starts.items c.self.inside.marks.items c.self.invariant c.args.s
    (omega arith))
    ∙ ap (λ (w : WaitingData). c.args.steps.now + dependents_of w c.args.s) c.self.view_is

pub returns-clause-depends : goal.returns-clause-depends
returns-clause-depends g c =
    ap (λ n. rows_of_test (is_dependent c.self.inside.dependents.items c.self.inside.starts.items) n n) (length-set c.self.inside.marks.items c.args.s true)
    ∙ ap (λ (w : WaitingData). w.depends) c.self.view_is
