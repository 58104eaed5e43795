use Rattle.std.proofs.Common.{Bool, true, false, List, Option, ℕ, ◌≡◌, ◌∙◌, sym, subst}
use Rattle.svc_record.specs.Plans.{same_address}
use Rattle.svc_endpoints.specs.declared.states.EndpointStatus.{EndpointStatus}
use Rattle.svc_endpoints.specs.EndpointsState.{failed_at}
use Rattle.svc_endpoints.specs.Effects.{has_open}
use Rattle.svc_endpoints.specs.Visits.{busy_of}
use Rattle.svc_endpoints.proofs.LiveLemmas.{same_self}
use Rattle.svc_endpoints.proofs.endpoints.Endpoints.standing_at.Goals as goal

pub returns-in-Some : goal.returns-in-Some
returns-in-Some c = record {
  shares = record {
    at = c.args.j;
    first = c.requires.first;
    none = subst (λ (a : Option (List ℕ)). has_open c.args.self.now.parts.table a ≡ false) c.address_of.ensures (sym c.is_open.ensures ∙ c.if-is_open.false);
    other = c.args.j;
    other_first = c.requires.first;
    same = subst (λ (a : Option (List ℕ)). same_address a a ≡ true) c.address_of.ensures (same_self c.address_of.result.now);
  };
  busy = λ m le. subst (λ (x : EndpointStatus). busy_of (failed_at c.args.self.now.parts c.args.s) m x ≡ true) c.last-last.ensures
      (subst (λ (f : Bool). busy_of f m c.last-last.result ≡ true) (sym c.requires.free) (c.in-Some.ensures.busy m le));
  lasts = c.in-Some.ensures.lasts;
}

pub returns-in-None : goal.returns-in-None
returns-in-None c = c.standing_behind.ensures c.args.moment
