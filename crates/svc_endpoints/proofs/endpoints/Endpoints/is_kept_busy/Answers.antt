use Rattle.std.proofs.Common.{ap, sym, subst, ◌∙◌, ◌≡◌, true, Option, List, ℕ}
use Rattle.std.proofs.lemmas.Bool.{and_from}
use Rattle.svc_record.specs.Plans.{address, same_address, any_with}
use Rattle.svc_endpoints.specs.Visits.{busy_in}
use Rattle.svc_endpoints.proofs.BusyLemmas.{one-with}
use Rattle.svc_endpoints.proofs.LiveLemmas.{same_self}
use Rattle.svc_endpoints.proofs.SumLemmas.{none-other}
use Rattle.svc_endpoints.proofs.endpoints.Endpoints.is_kept_busy.Goals as goal

pub returns-then-is_itself_busy : goal.returns-then-is_itself_busy
returns-then-is_itself_busy c =
    let a = address c.args.plan.now c.args.s c.args.j in
    sym (one-with c.args.plan.now a (busy_in c.args.self.now.parts c.args.moment) c.args.s c.args.j c.requires.service c.requires.endpoint
    (and_from (same_address a a) (busy_in c.args.self.now.parts c.args.moment c.args.s c.args.j)
    (subst (λ (b : Option (List ℕ)). same_address b b ≡ true) c.address_of-text.ensures (same_self c.address_of-text.result.now))
    (sym c.is_itself_busy.ensures ∙ c.if-is_itself_busy.true)))

pub returns-then-not-may_share : goal.returns-then-not-may_share
returns-then-not-may_share c =
    let busy = busy_in c.args.self.now.parts c.args.moment in
    sym (ap (λ (a : Option (List ℕ)). any_with c.args.plan.now a busy) (sym c.address_of-text.ensures)
    ∙ none-other c.args.plan.now c.args.self.now.parts.shared c.requires.sized.shared c.args.s c.args.j c.address_of-text.result.now
    (record { inside = c.requires.service; within = c.requires.endpoint; named = sym c.address_of-text.ensures })
    (sym c.may_share.ensures ∙ c.if-not-may_share.true) busy (sym c.is_itself_busy.ensures ∙ c.if-is_itself_busy.false))
