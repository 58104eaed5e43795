use Rattle.std.proofs.Common.{arith, refl, sym, append-nil, ◌∙◌, ◌+◌, length}
use Rattle.svc_base.specs.Items.{list_of}
use Rattle.svc_core.proofs.CopyLemmas.{bare-none, bare-then}
use Rattle.svc_core.proofs.PassLemmas.{passes-none, passes-then}
use Rattle.svc_core.proofs.SkipLemmas.{known-skip, passes-skip}
use Rattle.svc_core.proofs.pass.pass.Goals as goal

pub loop-k-init : goal.loop-k-init
loop-k-init c = record {
  within = omega arith;
  formed = c.requires.formed;
  table = refl;
  known = c.requires.known;
  bare = bare-none (list_of c.args.actions.now);
  spends = record { few = omega arith; room = omega arith };
  passed = passes-none c.args.plan.now c.args.order.now c.args.drain.now 0 c.args.starts.now c.args.endpoints.now.parts c.args.boot.now
      (list_of c.args.actions.now) (sym (append-nil (list_of c.args.actions.now)));
}

pub loop-k-preserved : goal.loop-k-preserved
loop-k-preserved c =
    let found = c.in-Some.ensures.found in
    let skipped =
    passes-skip c.args.plan.now c.loop-k.invariant.formed.valid c.args.order.now c.args.drain.now c.loop-k.from c.in-Some.k found.0
    (omega (arith, found.1)) c.loop-k.invariant.formed.in_order
    c.loop-k.starts c.loop-k.endpoints.parts c.loop-k.boot c.loop-k.waits
    (list_of c.loop-k.actions) c.loop-k.invariant.formed.starts c.loop-k.invariant.formed.endpoints c.loop-k.invariant.known c.in-Some.ensures.least in
    record {
      within = omega (arith, found.1);
      formed = c.attend.ensures.formed;
      table = c.attend.ensures.table ∙ c.loop-k.invariant.table;
      known = c.attend.ensures.known;
      bare = bare-then (list_of c.args.actions.now) (list_of c.loop-k.actions) (list_of c.attend.new.actions) c.loop-k.invariant.bare c.attend.ensures.bare;
      spends = record {
        few = omega (arith, found.0, c.loop-k.invariant.spends.few, c.attend.ensures.spends.few);
        room = omega (arith, found.0, c.loop-k.invariant.spends.room, c.attend.ensures.spends.room);
      };
      passed = passes-then c.args.plan.now c.args.order.now c.args.drain.now 0 c.in-Some.k
          (c.in-Some.k + 1) c.args.starts.now c.loop-k.starts c.attend.new.starts
          c.args.endpoints.now.parts c.loop-k.endpoints.parts c.attend.new.endpoints.parts c.args.boot.now c.loop-k.boot c.attend.new.boot
          (list_of c.args.actions.now) (list_of c.loop-k.actions) (list_of c.attend.new.actions)
          (passes-then c.args.plan.now c.args.order.now c.args.drain.now 0 c.loop-k.from c.in-Some.k c.args.starts.now c.loop-k.starts c.loop-k.starts
          c.args.endpoints.now.parts c.loop-k.endpoints.parts c.loop-k.endpoints.parts c.args.boot.now c.loop-k.boot c.loop-k.boot
          (list_of c.args.actions.now) (list_of c.loop-k.actions) (list_of c.loop-k.actions) c.loop-k.invariant.passed skipped)
          c.attend.ensures.passed;
    }

pub returns-clause-passed : goal.returns-clause-passed
returns-clause-passed c =
    passes-then c.args.plan.now c.args.order.now c.args.drain.now 0 c.loop-k.from (length c.args.order.now) c.args.starts.now c.loop-k.starts c.loop-k.starts
    c.args.endpoints.now.parts c.loop-k.endpoints.parts c.loop-k.endpoints.parts c.args.boot.now c.loop-k.boot c.loop-k.boot
    (list_of c.args.actions.now) (list_of c.loop-k.actions) (list_of c.loop-k.actions) c.loop-k.invariant.passed
    (passes-skip c.args.plan.now c.loop-k.invariant.formed.valid c.args.order.now c.args.drain.now c.loop-k.from
    (length c.args.order.now) c.loop-k.invariant.within (omega arith) c.loop-k.invariant.formed.in_order
    c.loop-k.starts c.loop-k.endpoints.parts c.loop-k.boot c.loop-k.waits
    (list_of c.loop-k.actions) c.loop-k.invariant.formed.starts c.loop-k.invariant.formed.endpoints c.loop-k.invariant.known c.in_default.ensures.none)

pub attend-requires-clause-known : goal.attend-requires-clause-known
attend-requires-clause-known c =
    known-skip c.args.plan.now c.args.order.now c.loop-k.starts c.loop-k.endpoints.parts c.loop-k.boot.complete c.args.drain.now.moment c.loop-k.from
    c.in-Some.k c.loop-k.waits c.in-Some.ensures.least c.loop-k.invariant.known

pub returns-clause-known : goal.returns-clause-known
returns-clause-known c =
    known-skip c.args.plan.now c.args.order.now c.loop-k.starts c.loop-k.endpoints.parts c.loop-k.boot.complete c.args.drain.now.moment c.loop-k.from
    (length c.args.order.now) c.loop-k.waits c.in_default.ensures.none c.loop-k.invariant.known
