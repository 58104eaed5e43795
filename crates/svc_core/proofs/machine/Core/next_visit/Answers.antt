use Rattle.std.proofs.Common.{sym, ◌∙◌, arith}
use Rattle.svc_core.proofs.DueLemmas.{visits-off, visits-calm, visits-on, visits-still, visits-of}
use Rattle.svc_core.proofs.machine.Core.next_visit.Goals as goal

pub returns-then-not-is_running : goal.returns-then-not-is_running
returns-then-not-is_running c = visits-of c.self.view_is (λ none. visits-off _ (sym c.is_running.ensures ∙ c.if-not-is_running.true))

pub returns-then-not-may_be_busy : goal.returns-then-not-may_be_busy
returns-then-not-may_be_busy c =
    visits-of c.self.view_is (λ none. visits-calm _ c.self.invariant.formed.endpoints (c.may_be_busy.ensures c.if-not-may_be_busy.true) none.none)

pub returns : goal.returns
returns c =
    visits-of c.self.view_is (λ none. visits-on _ c.next_ask.result (sym c.is_running.ensures ∙ c.if-not-is_running.false)
    (rw c.deref.ensures.value at c.next_ask.ensures))

pub returns-then-is_still : goal.returns-then-is_still
returns-then-is_still c =
    let as_long = c.len.ensures in
    visits-of c.self.view_is (λ rested. visits-still _ c.self.inside.waits c.self.invariant.formed rested.kept c.self.invariant.watched.idle
    (λ k lt. c.is_still.ensures.shut c.if-is_still.true k (omega (arith, as_long, lt))) (c.is_still.ensures.long c.if-is_still.true))
