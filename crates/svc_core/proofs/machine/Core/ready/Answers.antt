use Rattle.std.proofs.Common.{◌≡◌, ◌∙◌, ◌<◌, ap, subst, sym, List, Bool}
use Rattle.svc_record.specs.Plans.{service_count}
use Rattle.svc_record.specs.Starts.{is_ready}
use Rattle.svc_core.specs.StartsState.{ready_now}
use Rattle.svc_core.specs.CoreData.{CoreData}
use Rattle.svc_core.specs.Stands.{Represents}
use Rattle.svc_core.proofs.StartsLemmas.{ready-is}
use Rattle.svc_core.proofs.machine.Core.ready.Goals as goal

pub returns : goal.returns
returns c = λ q stands.
    subst (λ (core : CoreData). Represents core q → c.args.watch.now < service_count core.plan → c.is_ready.result ≡ is_ready core.plan q c.args.watch.now)
    c.self.view_is
    (λ h inside. c.is_ready.ensures
    ∙ ap (λ (failed : List Bool). ready_now c.self.inside.plan c.self.inside.starts failed c.is_complete.result c.service.result) c.failed.ensures
    ∙ ap (λ (complete : Bool). ready_now c.self.inside.plan c.self.inside.starts c.self.inside.endpoints.parts.failed complete c.service.result)
    c.is_complete.ensures
    ∙ ap (ready_now c.self.inside.plan c.self.inside.starts c.self.inside.endpoints.parts.failed c.self.inside.boot.complete) c.service.ensures
    ∙ ready-is c.self.inside.plan c.self.inside.starts c.self.inside.endpoints.parts.failed c.self.inside.boot.complete q c.args.watch.now inside h.starts
    h.failed (sym h.boot.begin.complete_is))
    stands c.requires.service
