use Rattle.std.proofs.Common.{Bool, true, false, ap, sym, subst, refl, ◌∙◌, ◌≡◌, Option, List, ℕ}
use Rattle.std.proofs.lemmas.Bool.{and_from}
use Rattle.svc_record.specs.Plans.{address, same_address, any_with}
use Rattle.svc_moments.proofs.LeastLemmas.{ends-by}
use Rattle.svc_moments.specs.Least.{EndsAt}
use Rattle.svc_endpoints.specs.Visits.{busy_in}
use Rattle.svc_endpoints.proofs.BusyLemmas.{one-with}
use Rattle.svc_endpoints.proofs.LiveLemmas.{same_self}
use Rattle.svc_endpoints.proofs.SumLemmas.{none-other}
use Rattle.svc_endpoints.proofs.endpoints.Endpoints.kept_busy_end.Goals as goal

pub returns-then-not-may_share : goal.returns-then-not-may_share
returns-then-not-may_share c =
    let a = address c.args.plan.now c.args.s c.args.j in
    ends-by (λ t. busy_in c.args.self.now.parts t c.args.s c.args.j) (λ t. any_with c.args.plan.now a (busy_in c.args.self.now.parts t)) c.busy_end.result
    (λ t. alone (any_with c.args.plan.now a (busy_in c.args.self.now.parts t)) (busy_in c.args.self.now.parts t c.args.s c.args.j)
    (λ on. one-with c.args.plan.now a (busy_in c.args.self.now.parts t) c.args.s c.args.j c.requires.service c.requires.endpoint
    (and_from (same_address a a) (busy_in c.args.self.now.parts t c.args.s c.args.j)
    (subst (λ (b : Option (List ℕ)). same_address b b ≡ true) c.address_of-text.ensures (same_self c.address_of-text.result.now)) on))
    (λ off. ap (λ (b : Option (List ℕ)). any_with c.args.plan.now b (busy_in c.args.self.now.parts t)) (sym c.address_of-text.ensures)
    ∙ none-other c.args.plan.now c.args.self.now.parts.shared c.requires.sized.shared c.args.s c.args.j c.address_of-text.result.now
    (record { inside = c.requires.service; within = c.requires.endpoint; named = sym c.address_of-text.ensures })
    (sym c.may_share.ensures ∙ c.if-not-may_share.true) (busy_in c.args.self.now.parts t) off))
    (rw (c.has_failed.ensures, c.last.ensures) at c.busy_end.ensures)
  where
    alone : (any here : Bool) → (here ≡ true → any ≡ true) → (here ≡ false → any ≡ false) → any ≡ here
    alone any true f g = f refl
    alone any false f g = g refl

pub returns : goal.returns
returns c =
    subst (λ (b : Option (List ℕ)). EndsAt (λ t. any_with c.args.plan.now b (busy_in c.args.self.now.parts t)) c.any_busy_end.result)
    c.address_of-text.ensures c.any_busy_end.ensures
