use Rattle.std.proofs.Common.{inr, true, refl, ap, ◌∙◌}
use Rattle.svc_record.specs.declared.event.Event.TheVariants.{AdoptFailed}
use Rattle.svc_endpoints.specs.declared.states.EndpointStatus.TheVariants.{AdoptionFailed}
use Rattle.svc_endpoints.specs.declared.states.EndpointState.{EndpointState}
use Rattle.svc_endpoints.specs.EndpointsState.{last_at, fd_of, times_in_use_at}
use Rattle.svc_base.specs.NumberSets.{is_in}
use Rattle.svc_endpoints.specs.Effects.{adopt_failed}
use Rattle.svc_endpoints.proofs.AnswerLemmas.{tells-failed, few-failed, room-failed, after-adopt_failed, changed-ask, failed-ask}
use Rattle.svc_endpoints.proofs.KeptLemmas.{adopting_asks}
use Rattle.svc_endpoints.proofs.StaysLemmas.{closes-own, fails-answer, held-answer, held-adopt_failed, others-answer, others-adopt_failed, unheld-answer, unheld-adopt_failed, gains-answer}
use Rattle.svc_endpoints.proofs.endpoints.Endpoints.on_adopt_failed.Goals as goal

pub returns-clause-stands : goal.returns-clause-stands
returns-clause-stands c =
    let d = c.args.self.now.parts in
    let state : EndpointState = record { last = AdoptionFailed; times_in_use = times_in_use_at d c.args.s c.args.i } in
    tells-failed c.args.plan.now d (adopt_failed d c.args.s c.args.i) c.end_adopt.new.self.parts c.give_up.new.self.parts (AdoptFailed c.args.s c.args.i)
    c.args.s c.args.i c.fd_of-offered.result c.args.kept.now c.args.actions.now c.give_up.new.actions c.end_adopt.ensures c.give_up.ensures
    (changed-ask c.args.plan.now d c.args.s c.args.i c.requires.sized c.requires.service c.requires.endpoint true state
    (adopting_asks (last_at d c.args.s c.args.i) c.requires.asks))
    (failed-ask c.args.plan.now d c.args.s c.args.i c.requires.sized c.requires.service c.requires.endpoint true state refl) refl
    (λ x h. ap (is_in x) (c.fd_of-offered.ensures ∙ ap fd_of c.last.ensures) ∙ h)
    (λ q offer stand. after-adopt_failed c.args.plan.now d q c.args.s c.args.i c.requires.sized c.requires.service c.requires.endpoint
    c.args.kept.now offer stand c.requires.asks)

pub returns-clause-few : goal.returns-clause-few
returns-clause-few c =
    few-failed c.args.plan.now c.args.self.now.parts (adopt_failed c.args.self.now.parts c.args.s c.args.i) c.end_adopt.new.self.parts c.give_up.new.self.parts
    (AdoptFailed c.args.s c.args.i) c.args.s c.args.i c.fd_of-offered.result c.args.kept.now c.args.actions.now c.give_up.new.actions c.end_adopt.ensures
    c.give_up.ensures refl

pub returns-clause-room : goal.returns-clause-room
returns-clause-room c =
    room-failed c.args.plan.now c.args.self.now.parts (adopt_failed c.args.self.now.parts c.args.s c.args.i) c.end_adopt.new.self.parts c.give_up.new.self.parts
    (AdoptFailed c.args.s c.args.i) c.args.s c.args.i c.fd_of-offered.result c.args.kept.now c.args.actions.now c.give_up.new.actions c.end_adopt.ensures
    c.give_up.ensures refl

pub returns-clause-failed : goal.returns-clause-failed
returns-clause-failed c =
    fails-answer c.args.self.now.parts _ c.end_adopt.new.self.parts c.give_up.new.self.parts c.end_adopt.ensures
    (closes-own _ _ _ _ _ _ _ _ _ c.give_up.ensures) c.args.s (inr refl)

pub returns-clause-held : goal.returns-clause-held
returns-clause-held c =
    held-answer c.args.self.now.parts _ c.end_adopt.new.self.parts c.give_up.new.self.parts c.end_adopt.ensures
    (closes-own _ _ _ _ _ _ _ _ _ c.give_up.ensures)
    (held-adopt_failed c.args.plan.now c.args.self.now.parts c.args.s c.args.i c.requires.sized c.requires.service c.requires.endpoint c.requires.asks)

pub returns-clause-others : goal.returns-clause-others
returns-clause-others c =
    others-answer c.args.self.now.parts _ c.end_adopt.new.self.parts c.give_up.new.self.parts c.end_adopt.ensures
    (closes-own _ _ _ _ _ _ _ _ _ c.give_up.ensures) c.args.s
    (others-adopt_failed c.args.plan.now c.args.self.now.parts c.args.s c.args.i c.requires.sized c.requires.service c.requires.endpoint)

pub returns-clause-unheld : goal.returns-clause-unheld
returns-clause-unheld c =
    unheld-answer c.args.self.now.parts _ c.end_adopt.new.self.parts c.give_up.new.self.parts c.end_adopt.ensures
    (closes-own _ _ _ _ _ _ _ _ _ c.give_up.ensures)
    (unheld-adopt_failed c.args.plan.now c.args.self.now.parts c.args.s c.args.i c.requires.sized c.requires.service c.requires.endpoint)

pub returns-clause-gains : goal.returns-clause-gains
returns-clause-gains c =
    gains-answer c.args.self.now.parts (adopt_failed c.args.self.now.parts c.args.s c.args.i) c.end_adopt.new.self.parts c.give_up.new.self.parts
    c.end_adopt.ensures (closes-own _ _ _ _ _ _ _ _ _ c.give_up.ensures) refl
