use Rattle.std.proofs.Common.{sym, ◌∙◌, not, true, false, Bool, ◌≡◌, refl}
use Rattle.svc_endpoints.proofs.SumLemmas.{alone-is}
use Rattle.svc_endpoints.proofs.endpoints.Endpoints.is_alone.Goals as goal

not_true : (b : Bool) → not b ≡ true → b ≡ false
not_true true h = absurd (cc)
not_true false h = refl

pub returns : goal.returns
returns c = λ on.
    alone-is c.args.plan.now c.args.self.now.parts.shared c.requires.sized.shared c.args.s c.args.i c.address_of.result.now
    (record { inside = c.requires.service; within = c.requires.endpoint; named = sym c.address_of.ensures })
    (sym c.may_share.ensures ∙ not_true c.may_share.result on)
