use Rattle.std.proofs.Common.{ℕ, List, ◌∙◌, ap, length}
use Rattle.svc_graph.specs.Bits.{is_set}
use Rattle.svc_core.proofs.CountLemmas.{freed-next}
use Rattle.svc_core.proofs.waits.open_freed.Goals as goal
use Rattle.svc_core.proofs.waits.open_freed.Goals.{then-missing-eq0, else-missing-eq0}

pub loop-dependent-preserved : goal.loop-dependent-preserved
loop-dependent-preserved c =
    let row = c.dependents-dependent-items.result.now in
    let i = c.loop-dependent.dependent-index in
    elim c.if-missing-eq0.branch [
      | then-missing-eq0 w ↦ record {
        len = ap (λ (bits : List ℕ). length bits) w.bits-is ∙ w.open_place.ensures.len ∙ c.loop-dependent.invariant.len;
        kept = λ a b on. ap (λ (bits : List ℕ). is_set bits a b) w.bits-is ∙ w.open_place.ensures.kept a b (c.loop-dependent.invariant.kept a b on);
        opened = λ k inside listed none. ap (λ (bits : List ℕ). is_set bits 0 k) w.bits-is
            ∙ freed-next c.args.order.now row i c.args.counts.now c.loop-dependent.bits w.open_place.new.bits c.loop-dependent-test.true
            w.open_place.ensures.kept c.loop-dependent.invariant.opened (λ zero j within same. w.open_place.ensures.opened j within same) k inside listed none;
      }
      | else-missing-eq0 w ↦ record {
        len = ap (λ (bits : List ℕ). length bits) w.bits-is ∙ c.loop-dependent.invariant.len;
        kept = λ a b on. ap (λ (bits : List ℕ). is_set bits a b) w.bits-is ∙ c.loop-dependent.invariant.kept a b on;
        opened = λ k inside listed none. ap (λ (bits : List ℕ). is_set bits 0 k) w.bits-is
            ∙ freed-next c.args.order.now row i c.args.counts.now c.loop-dependent.bits c.loop-dependent.bits c.loop-dependent-test.true
            (λ a b on. on) c.loop-dependent.invariant.opened
            (λ zero. absurd (w.if-missing-eq0.false (c.missing.ensures ∙ zero))) k inside listed none;
      }
    ]
