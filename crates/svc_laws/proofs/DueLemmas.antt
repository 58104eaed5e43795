-- After an event nothing is told exactly where nothing is due with it.
use Rattle.std.proofs.Common.{true, false, not, ◌&&◌, ◌||◌, List, [], ◌∷◌, ◌≡◌}
use Rattle.std.proofs.lemmas.Bool.{and_parts, and_from, or_parts}
use Rattle.svc_base.proofs.Logic.{apart_from, not_in}
use Rattle.svc_record.specs.declared.plan.Plan.{Plan}
use Rattle.svc_record.specs.declared.action.Action.{Action}
use Rattle.svc_record.specs.declared.entry.Entry.TheVariants.{Got}
use Rattle.svc_record.specs.declared.event.Event.{Event}
use Rattle.svc_record.specs.Record.{Record, tell}
use Rattle.svc_record.specs.AskRules.{FailsRight, fails_right}
use Rattle.svc_record.specs.Drain.{waits_are_over}
use Rattle.svc_record.specs.Due.{is_calm}
use Rattle.svc_record.specs.Ends.{has_ended, has_ended_early, ends_tested}
use Rattle.svc_record.specs.Facts.{Settled}
use Rattle.svc_record.specs.Right.{Right, open_right}
use Rattle.svc_record.proofs.SettledPrefixes.{settled_at}
use Rattle.svc_record.proofs.Complete as complete
use Rattle.svc_record.proofs.Sound as sound
use Rattle.svc_laws.proofs.CalmLemmas.{IsCalm, open_at}
use Rattle.svc_laws.proofs.SilentLemmas.{silent-alone}

calm_fact : (p : Plan) (q : Record) → is_calm p q ≡ true → IsCalm p q
calm_fact p q h =
    let parts = and_parts (not (has_ended p q)) (open_right p q && fails_right p q) h in
    let rest = and_parts (open_right p q) (fails_right p q) parts.1 in
    let on = or_parts (waits_are_over p q || ends_tested p q) (has_ended_early p q) (apart_from (has_ended p q) parts.0) in
    let first = or_parts (waits_are_over p q) (ends_tested p q) on.0 in
    record { unpassed = first.0; untested = first.1; early = on.1; open_ = sound.open_ p q rest.0; fails = sound.fails p q rest.1 }

pub calm-silent : (p : Plan) (r before : Record) (e : Event) (told : List Action) → Right p r → Settled (tell (Got e ∷ before) told) r
    → is_calm p (Got e ∷ before) ≡ true → told ≡ []
calm-silent p r before e told right settled calm = silent-alone p r (Got e ∷ before) told right (calm_fact p (Got e ∷ before) calm) settled

pub silent-calm : (p : Plan) (r before : Record) (e : Event) → Right p r → Settled (Got e ∷ before) r → has_ended p (Got e ∷ before) ≡ false
    → is_calm p (Got e ∷ before) ≡ true
silent-calm p r before e right settled on =
    let q : Record = Got e ∷ before in
    and_from (not (has_ended p q)) (open_right p q && fails_right p q) (not_in (has_ended p q) on)
    (and_from (open_right p q) (fails_right p q) (complete.open_ p q (open_at p r q right settled on))
    (complete.fails p q (settled_at (FailsRight p) r q right.asks.fails settled)))
