use Rattle.std.proofs.Common.{length, ap, sym, ◌∙◌, not, arith, subst}
use Rattle.svc_base.specs.Items.{list_of}
use Rattle.svc_base.specs.Blocks.{joined, rises_by}
use Rattle.svc_base.proofs.KeyLemmas.{rises-filter}
use Rattle.svc_endpoints.specs.declared.table.Open.{Open}
use Rattle.svc_endpoints.specs.Counts.{goes_by}
use Rattle.svc_endpoints.specs.Firsts.{AreFirsts}
use Rattle.svc_endpoints.proofs.RestLemmas.{picked-length}
use Rattle.svc_endpoints.proofs.FirstLemmas.{follows-all}
use Rattle.svc_endpoints.proofs.table.Table.close_gone.Goals as goal

pub put_blocks-requires : goal.put_blocks-requires
put_blocks-requires c =
    let done = goes_by c.args.plan.now c.args.failed.now c.args.kept.now (list_of c.args.uses.now) in
    let size = ap length c.close_done_blocks.ensures.after in
    let few = c.take_blocks-blocks.ensures.few in
    record {
      rise = ap (rises_by (λ (o : Open). o.fd)) c.close_done_blocks.ensures.after
          ∙ rises-filter (λ (o : Open). o.fd) (λ (o : Open). not (done o)) (joined c.take_blocks-blocks.result.items) c.take_blocks-blocks.ensures.rise;
      few = omega (arith, picked-length done (joined c.take_blocks-blocks.result.items));
    }

pub invariant_of-self : goal.invariant_of-self
invariant_of-self c =
    let done = goes_by c.args.plan.now c.args.failed.now c.args.kept.now (list_of c.args.uses.now) in
    let before = joined c.take_blocks-blocks.result.items in
    let after = joined c.close_done_blocks.new.blocks.items in
    let new = list_of c.close_done_blocks.new.firsts in
    record {
      rise = ap (rises_by (λ (o : Open). o.fd)) (c.put_blocks.ensures ∙ c.close_done_blocks.ensures.after)
          ∙ rises-filter (λ (o : Open). o.fd) (λ (o : Open). not (done o)) before c.take_blocks-blocks.ensures.rise;
      known = subst (AreFirsts new) (sym c.put_blocks.ensures)
          (follows-all before after (list_of c.self.inside.firsts) new c.close_done_blocks.ensures.firsts
          (subst (AreFirsts (list_of c.self.inside.firsts)) (sym c.take_blocks-blocks.ensures.entries) c.self.invariant.known));
    }
