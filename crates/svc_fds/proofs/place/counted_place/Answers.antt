use Rattle.std.proofs.Common.{◌≡◌, ◌+◌, ◌-◌, ◌/◌, length, add-one, subst, sym, arith}
use Rattle.std.specs.Ordering.{nat_cmp}
use Rattle.std.specs.declared.cmp.Ordering.TheVariants.{Less, Greater}
use Rattle.std.specs.Cmp.Lexicographic.{slice_cmp}
use Rattle.svc_history.proofs.Halving.{one_step}
use Rattle.svc_fds.specs.Tables.{Entry}
use Rattle.svc_fds.proofs.PlaceLemmas.{all_precede-to, precedes_all-from, held-found, free-found}
use Rattle.svc_fds.proofs.place.counted_place.Goals as goal

pub loop-low-preserved-in-Less : goal.loop-low-preserved-in-Less
loop-low-preserved-in-Less g c =
    let i = c.loop-low.invariant in
    let middle = c.loop-low.low + (c.loop-low.high - c.loop-low.low) / 2 in
    let step = one_step c.args.steps.now c.loop-low.steps c.loop-low.low c.loop-low.high (c.loop-low.high - (middle + 1)) (length c.args.entries.now) i.counted
    (omega arith) c.loop-low-test.true i.left in
    record {
      ordered = omega arith;
      within = i.within;
      before = rw add-one (all_precede-to c.args.bind.now c.args.entries.now _ c.index-entries-middle.result c.requires (omega arith)
          (subst (λ (e : Entry). slice_cmp nat_cmp e.0 c.args.bind.now ≡ Less) c.index-entries-middle.is (sym c.in-Less.ensures.answer)));
      after = i.after;
      counted = omega (arith, c.compare.ensures.step);
      left = rw c.compare.ensures.step step.0;
      cost = rw c.compare.ensures.step step.1;
    }

pub returns-in-Equal-clause-place : goal.returns-in-Equal-clause-place
returns-in-Equal-clause-place g c =
    held-found c.args.bind.now c.args.entries.now _ c.index-entries-middle.result c.requires
    (omega (arith, c.loop-low.invariant.within, c.loop-low-test.true)) c.index-entries-middle.is (sym c.in-Equal.ensures.answer)

pub returns-in-Equal-clause-cost : goal.returns-in-Equal-clause-cost
returns-in-Equal-clause-cost g c =
    let i = c.loop-low.invariant in
    rw c.compare.ensures.step
    (one_step c.args.steps.now c.loop-low.steps c.loop-low.low c.loop-low.high 0 (length c.args.entries.now) i.counted
    (omega arith) c.loop-low-test.true i.left).1

pub loop-low-preserved : goal.loop-low-preserved
loop-low-preserved g c =
    let i = c.loop-low.invariant in
    let middle = c.loop-low.low + (c.loop-low.high - c.loop-low.low) / 2 in
    let step = one_step c.args.steps.now c.loop-low.steps c.loop-low.low c.loop-low.high (middle - c.loop-low.low) (length c.args.entries.now) i.counted
    (omega arith) c.loop-low-test.true i.left in
    record {
      ordered = omega arith;
      within = omega arith;
      before = i.before;
      after = precedes_all-from c.args.bind.now c.args.entries.now _ c.index-entries-middle.result c.requires (omega arith)
          (subst (λ (e : Entry). slice_cmp nat_cmp e.0 c.args.bind.now ≡ Greater) c.index-entries-middle.is (sym c.in-Greater.ensures.answer));
      counted = omega (arith, c.compare.ensures.step);
      left = rw c.compare.ensures.step step.0;
      cost = rw c.compare.ensures.step step.1;
    }

pub returns-clause-place : goal.returns-clause-place
returns-clause-place g c =
    let i = c.loop-low.invariant in
    free-found c.args.bind.now c.args.entries.now c.loop-low.low c.loop-low.high i.ordered c.loop-low-test.false i.within i.before i.after
