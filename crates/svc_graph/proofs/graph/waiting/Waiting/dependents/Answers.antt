use Rattle.std.proofs.Common.{arith, List, ℕ, All, ◌<◌, ◌∙◌, ap, sym, subst, length}
use Rattle.svc_graph.specs.Graphs.{is_listed}
use Rattle.svc_graph.specs.WaitingData.{WaitingData}
use Rattle.svc_graph.specs.Waitings.{waits_for}
use Rattle.svc_graph.proofs.Waits.{counted-listed, counted-inside}
use Rattle.svc_graph.proofs.graph.waiting.Waiting.dependents.Goals as goal

pub returns-clause-listed : goal.returns-clause-listed
returns-clause-listed c = λ a.
    let size = ap (λ (w : WaitingData). length w.marks) c.self.view_is in
    ap (λ (row : List ℕ). is_listed row a) (rw (c.deref.ensures.value, c.deref-2.ensures.value) at c.dependents_at.ensures)
    ∙ counted-listed c.self.inside.counts.items c.self.inside.dependents.items c.self.inside.starts.items c.self.inside.marks.items c.self.invariant c.args.s
    (omega arith) a
    ∙ ap (λ (w : WaitingData). waits_for w a c.args.s) c.self.view_is

pub returns-clause-inside : goal.returns-clause-inside
returns-clause-inside c =
    let size = ap (λ (w : WaitingData). length w.marks) c.self.view_is in
    subst (λ n. All (λ a. a < n) c.dependents_at.result.now) size
    (subst (λ (row : List ℕ). All (λ a. a < length c.self.inside.marks.items) row)
    (sym (rw (c.deref.ensures.value, c.deref-2.ensures.value) at c.dependents_at.ensures))
    (counted-inside c.self.inside.counts.items c.self.inside.dependents.items c.self.inside.starts.items c.self.inside.marks.items c.self.invariant c.args.s
    (omega arith)))
