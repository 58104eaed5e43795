use Rattle.std.proofs.Common.{ap, sym, ◌∙◌, List, ℕ, subst, arith, ◌≡◌}
use Rattle.svc_base.specs.Items.{list_of}
use Rattle.svc_base.specs.Blocks.{rises_by}
use Rattle.svc_base.proofs.KeyLemmas.{rises-put}
use Rattle.svc_endpoints.specs.declared.table.Open.{Open}
use Rattle.svc_endpoints.specs.Effects.{put_open}
use Rattle.svc_endpoints.specs.Firsts.{AreFirsts}
use Rattle.svc_endpoints.proofs.FirstLemmas.{firsts-put}
use Rattle.svc_endpoints.proofs.TableLemmas.{put-open}
use Rattle.svc_endpoints.proofs.table.Table.add.Goals as goal

pub returns-clause-entries : goal.returns-clause-entries
returns-clause-entries c =
    c.insert.ensures.entries
    ∙ put-open (record { fd = c.args.fd; address = c.args.address }) (list_of c.self.inside.entries)
    ∙ ap (λ (x : List Open × ℕ). put_open (record { fd = c.args.fd; address = c.args.address }) (list_of x)) c.self.view_is

pub invariant_of-self : goal.invariant_of-self
invariant_of-self c =
    let o : Open = record { fd = c.args.fd; address = c.args.address } in
    let t = list_of c.self.inside.entries in
    let put : list_of c.insert.new.self ≡ put_open o t = c.insert.ensures.entries ∙ put-open o t in
    record {
      rise = ap (rises_by (λ (o : Open). o.fd)) c.insert.ensures.entries ∙ rises-put (λ (o : Open). o.fd) o t c.self.invariant.rise;
      known = subst (AreFirsts (list_of c.note.new.firsts)) (sym put)
          (firsts-put (list_of c.note.new.firsts) o t (c.note.ensures.firsts t (omega arith) c.self.invariant.known));
    }
