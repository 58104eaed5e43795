use Rattle.std.proofs.Common.{◌∷◌, [], arith, get_or}
use Rattle.svc_base.specs.Items.{list_of}
use Rattle.svc_endpoints.proofs.FailingLemmas.{left-sized, closes-next-left, closes-next-told, closes-end-left, closes-end-told}
use Rattle.svc_endpoints.proofs.endpoints.Endpoints.close_among.Goals as goal

pub loop-fd-preserved : goal.loop-fd-preserved
loop-fd-preserved c =
    let was = c.loop-fd.invariant in
    let next = c.close_if_gone.ensures in
    let k = c.loop-fd.fd-index in
    let lt = c.loop-fd-test.true in
    record {
      sized = rw next.left (left-sized c.args.plan.now c.args.kept.now c.loop-fd.self.parts (get_or c.args.own.now k 0 ∷ []) was.sized);
      left = closes-next-left c.args.plan.now c.args.kept.now c.args.own.now c.requires.rise k c.args.self.now.parts c.loop-fd.self.parts
          c.close_if_gone.new.self.parts lt was.left next.left;
      told = closes-next-told c.args.plan.now c.args.kept.now c.args.own.now c.requires.rise k c.args.self.now.parts c.loop-fd.self.parts
          c.close_if_gone.new.self.parts (list_of c.loop-fd.actions) (list_of c.close_if_gone.new.actions) _ lt next.rise was.told next.told next.left;
      room = (let before = was.room in let room = next.room in omega (arith, before, room));
    }

pub returns-clause-left : goal.returns-clause-left
returns-clause-left c =
    closes-end-left c.args.plan.now c.args.kept.now c.args.own.now c.requires.rise c.loop-fd.fd-index c.args.self.now.parts c.loop-fd.self.parts
    c.loop-fd.self.parts c.loop-fd-test.false c.loop-fd.invariant.left

pub returns-clause-told : goal.returns-clause-told
returns-clause-told c =
    closes-end-told c.args.plan.now c.args.kept.now c.args.own.now c.requires.rise c.loop-fd.fd-index c.args.self.now.parts c.loop-fd.self.parts
    c.loop-fd.self.parts (list_of c.loop-fd.actions) _ c.loop-fd-test.false c.loop-fd.invariant.told
