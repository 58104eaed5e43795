use Rattle.std.proofs.Common.{List, ℕ, ap, sym, ◌∙◌, ◌≡◌, true, Some, subst}
use Rattle.svc_base.specs.Items.{list_of}
use Rattle.svc_base.specs.Blocks.{rises_by}
use Rattle.svc_endpoints.specs.declared.table.Open.{Open}
use Rattle.svc_endpoints.specs.EndpointsState.{numbers_with}
use Rattle.svc_endpoints.specs.Effects.{first_of}
use Rattle.svc_endpoints.specs.Sums.{sum_of}
use Rattle.svc_endpoints.specs.Firsts.{are_from, count_with}
use Rattle.svc_endpoints.proofs.FoundLemmas.{none-with}
use Rattle.svc_endpoints.proofs.table.Table.find.Goals as goal

pub find_from-requires : goal.find_from-requires
find_from-requires c = record {
  rise = ap (λ (t : List Open × ℕ). rises_by (λ (o : Open). o.fd) (list_of t)) (sym c.self.view_is) ∙ c.self.invariant.rise;
  from = ap (λ (t : List Open × ℕ). are_from (sum_of c.args.address.now) c.in-Some.fd (list_of t)) (sym c.self.view_is)
      ∙ subst (λ k. are_from k c.in-Some.fd (list_of c.self.inside.entries) ≡ true) c.sum_of.ensures
      (c.in-Some.ensures.found (list_of c.self.inside.entries) c.self.invariant.known);
}

pub returns-in-None : goal.returns-in-None
returns-in-None c =
    let a = c.args.address.now in
    sym (ap first_of
    (ap (λ (t : List Open × ℕ). numbers_with (list_of t) (Some a)) (sym c.self.view_is)
    ∙ none-with a (list_of c.self.inside.entries)
    (subst (λ k. count_with k (list_of c.self.inside.entries) ≡ 0) c.sum_of.ensures
    (c.in-None.ensures.absent (list_of c.self.inside.entries) c.self.invariant.known))))
