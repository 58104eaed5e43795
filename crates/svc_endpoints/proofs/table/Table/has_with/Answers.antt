use Rattle.std.proofs.Common.{List, ℕ, ap, sym, ◌∙◌, Some}
use Rattle.svc_base.specs.Items.{list_of}
use Rattle.svc_base.specs.NumberSets.{is_in}
use Rattle.svc_endpoints.specs.declared.table.Open.{Open}
use Rattle.svc_endpoints.specs.EndpointsState.{numbers_with}
use Rattle.svc_endpoints.proofs.FoundLemmas.{stands-with}
use Rattle.svc_endpoints.proofs.table.Table.has_with.Goals as goal

pub returns-in-Some : goal.returns-in-Some
returns-in-Some c = λ h.
    let a = c.args.address.now in
    ap (λ (t : List Open × ℕ). is_in c.args.fd (numbers_with (list_of t) (Some a))) (sym c.self.view_is)
    ∙ stands-with (list_of c.self.inside.entries) (Some a) c.args.fd c.in-Some.entry.now c.in-Some.ensures.found (sym c.has_address.ensures ∙ h)
