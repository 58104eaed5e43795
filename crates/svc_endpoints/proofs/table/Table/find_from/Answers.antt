use Rattle.std.proofs.Common.{Some}
use Rattle.svc_base.specs.Items.{list_of}
use Rattle.svc_endpoints.proofs.FoundLemmas.{least-with, least-first}
use Rattle.svc_endpoints.proofs.table.Table.find_from.Goals as goal

pub returns-then-has_with : goal.returns-then-has_with
returns-then-has_with c =
    let t = list_of c.args.self.now in
    let a = c.args.address.now in
    least-first t (Some a) c.args.fd c.requires.rise (c.has_with.ensures c.if-has_with.true) (least-with a c.args.fd t c.requires.from)
