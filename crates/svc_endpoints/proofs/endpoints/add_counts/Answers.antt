use Rattle.std.proofs.Common.{arith, sym, ◌∙◌}
use Rattle.svc_base.specs.Items.{list_of}
use Rattle.svc_endpoints.proofs.CountedLemmas.{counts-new, more-counted, more-out}
use Rattle.svc_endpoints.proofs.endpoints.add_counts.Goals as goal
use Rattle.svc_endpoints.proofs.endpoints.add_counts.Goals.{then-not-has, else-not-has}

pub add-requires-clause-new : goal.add-requires-clause-new
add-requires-clause-new c = let lt = c.loop-k-test.true in
    counts-new c.args.fds.now (list_of c.args.out.now) c.loop-k.k (list_of c.loop-k.uses) (omega (arith, lt)) c.loop-k.invariant.new

pub loop-k-preserved : goal.loop-k-preserved
loop-k-preserved c =
    let lt = c.loop-k-test.true in
    elim c.if-not-has.branch [
      | then-not-has w ↦
          (let next = more-counted c.args.fds.now (list_of c.args.out.now) c.loop-k.k (list_of c.loop-k.uses) (omega (arith, lt)) c.loop-k.invariant.new
          (list_of w.add.new.self) (sym c.has.ensures ∙ w.if-not-has.true) w.add.ensures.counts in
          rw w.uses-is (record {
            new = next.0;
            room = omega (arith, c.loop-k.invariant.room, w.add.ensures.room);
            counts = next.1 ∙ c.loop-k.invariant.counts;
          }))
      | else-not-has w ↦
          (let next = more-out c.args.fds.now (list_of c.args.out.now) c.loop-k.k (list_of c.loop-k.uses) (omega (arith, lt)) c.loop-k.invariant.new
          (sym c.has.ensures ∙ w.if-not-has.false) in
          rw w.uses-is (record {
            new = next.0;
            room = omega (arith, c.loop-k.invariant.room);
            counts = next.1 ∙ c.loop-k.invariant.counts;
          }))
    ]
