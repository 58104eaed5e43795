use Rattle.std.proofs.Common.{arith, true, inl, inr, ◌≡◌, ◌∙◌, sym, subst}
use Rattle.std.proofs.lemmas.Bool.{cases_eq}
use Rattle.svc_core.specs.StartsState.{is_flagged, ready_now}
use Rattle.svc_core.proofs.CountLemmas.{only-then}
use Rattle.svc_core.proofs.WaitsLemmas.{opens-none, opens-then}
use Rattle.svc_core.proofs.waits.Waits.look_at_all.Goals as goal

pub loop-s-init : goal.loop-s-init
loop-s-init c = record {
  count = c.requires.count;
  opens = opens-none c.args.order.now c.args.self.now;
  known = λ t lt on. absurd (omega arith);
  only = λ t on. inl on;
}

pub loop-s-preserved : goal.loop-s-preserved
loop-s-preserved c = record {
  count = c.look_at.ensures.opens.count ∙ c.loop-s.invariant.count;
  opens = opens-then c.args.order.now c.args.self.now c.loop-s.self c.look_at.new.self c.loop-s.invariant.opens c.look_at.ensures.opens;
  known = λ t lt on.
      elim (cases_eq t c.loop-s.s) [
        | inl same ↦ subst (λ u. is_flagged c.look_at.new.self.counts.marks u ≡ true) (sym same)
            (c.look_at.ensures.ready (subst (λ u. ready_now c.args.plan.now c.args.starts.now c.args.failed.now c.args.complete u ≡ true) same on))
        | inr ne ↦ c.look_at.ensures.opens.kept t (c.loop-s.invariant.known t (omega arith) on)
      ];
  only = only-then (ready_now c.args.plan.now c.args.starts.now c.args.failed.now c.args.complete) c.args.self.now c.loop-s.self c.look_at.new.self
      c.loop-s.invariant.only c.look_at.ensures.only;
}
