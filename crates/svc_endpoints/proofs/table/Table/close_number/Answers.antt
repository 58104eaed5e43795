use Rattle.std.proofs.Common.{ap, ◌∙◌, ◌==◌, not}
use Rattle.svc_base.specs.Items.{list_of}
use Rattle.svc_base.specs.Blocks.{rises_by}
use Rattle.svc_base.proofs.KeyLemmas.{rises-filter}
use Rattle.svc_endpoints.specs.declared.table.Open.{Open}
use Rattle.svc_endpoints.proofs.FirstLemmas.{follows-all}
use Rattle.svc_endpoints.proofs.table.Table.close_number.Goals as goal

pub invariant_of-self : goal.invariant_of-self
invariant_of-self c = record {
  rise = ap (rises_by (λ (o : Open). o.fd)) c.close_like.ensures.after
      ∙ rises-filter (λ (o : Open). o.fd) (λ (o : Open). not (o.fd == c.args.fd)) (list_of c.self.inside.entries) c.self.invariant.rise;
  known = follows-all (list_of c.self.inside.entries) (list_of c.close_like.new.table) (list_of c.self.inside.firsts) (list_of c.close_like.new.firsts)
      c.close_like.ensures.firsts c.self.invariant.known;
}
