use Rattle.svc_base.specs.Items.{list_of}
use Rattle.svc_endpoints.proofs.CountedLemmas.{kept-few, loop-keeps}
use Rattle.svc_endpoints.proofs.endpoints.Endpoints.end_loop.Goals as goal

pub change-requires : goal.change-requires
change-requires c = record {
  few = kept-few _ _ c.self.invariant.1 c.self.invariant.0.few;
}

pub invariant_of-self : goal.invariant_of-self
invariant_of-self c = (
  c.self.invariant.0,
  loop-keeps _ _ c.self.invariant.1 c.args.s c.args.i c.args.j c.deref.result.now c.deref-3.result.now
      c.deref-2.result.now c.deref-4.result.now (list_of c.add.new.self) c.share_in-was.result c.share_in-is.result (list_of c.change.new.self)
      c.deref.ensures.value c.deref-3.ensures.value c.deref-2.ensures.value c.deref-4.ensures.value c.add.ensures c.share_in-was.ensures c.share_in-is.ensures
      c.change.ensures,
)
