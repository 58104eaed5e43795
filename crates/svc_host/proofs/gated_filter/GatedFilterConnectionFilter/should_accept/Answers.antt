use Rattle.std.proofs.Common.{Bool, ◌&&◌, not, ap, ◌∙◌, sym}
use Rattle.svc_text.specs.Filters.{is_blocked}
use Rattle.svc_host.specs.GatedFilters.{lets_in}
use Rattle.svc_host.proofs.gated_filter.GatedFilterConnectionFilter.should_accept.Goals as goal

pub returns-in-Some-gate-clause-next : goal.returns-in-Some-gate-clause-next
returns-in-Some-gate-clause-next c = λ asked x.
    ap (λ (lets : Bool). not (is_blocked c.args.self.now.blocked x) && lets)
    (c.should_accept.ensures.next asked x ∙ ap (λ gate. lets_in gate x) (sym c.in-Some-gate.is))
