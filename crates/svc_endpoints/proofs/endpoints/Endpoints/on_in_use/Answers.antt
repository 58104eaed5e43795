use Rattle.std.proofs.Common.{sym, rules}
use Rattle.svc_endpoints.specs.EndpointsState.{IsEndpointsSized}
use Rattle.svc_endpoints.specs.Effects.{refused}
use Rattle.svc_endpoints.proofs.AnswerLemmas.{tells-refused, few-refused, room-refused, table-refused}
use Rattle.svc_endpoints.proofs.StaysLemmas.{closes-own_if, sized-own_if, fails-answer, held-answer, fails-refused, held-refused, others-answer, others-refused, unheld-answer, unheld-refused, gains-answer}
use Rattle.svc_endpoints.proofs.endpoints.Endpoints.on_in_use.Goals as goal

pub returns-clause-stands : goal.returns-clause-stands
returns-clause-stands c =
    tells-refused c.args.plan.now c.args.self.now.parts c.refuse-fails.new.self.parts c.give_up_if.new.self.parts c.args.s c.args.i c.args.moment
    c.requires.sized c.requires.service c.requires.endpoint c.args.kept.now c.args.actions.now c.give_up_if.new.actions c.refuse-fails.ensures.after
    c.requires.asks c.refuse-fails.result (sym c.refuse-fails.ensures.last) c.give_up_if.ensures

pub returns-clause-few : goal.returns-clause-few
returns-clause-few c =
    few-refused c.args.plan.now c.args.self.now.parts c.refuse-fails.new.self.parts c.give_up_if.new.self.parts c.args.s c.args.i c.args.moment
    c.requires.sized c.requires.service c.requires.endpoint c.args.kept.now c.args.actions.now c.give_up_if.new.actions c.refuse-fails.ensures.after
    c.requires.asks c.refuse-fails.result c.give_up_if.ensures

pub returns-clause-room : goal.returns-clause-room
returns-clause-room c =
    room-refused c.args.plan.now c.args.self.now.parts c.refuse-fails.new.self.parts c.give_up_if.new.self.parts c.args.s c.args.i c.args.moment
    c.requires.sized c.requires.service c.requires.endpoint c.args.kept.now c.args.actions.now c.give_up_if.new.actions c.refuse-fails.ensures.after
    c.requires.asks c.refuse-fails.result c.give_up_if.ensures

pub returns-clause-failed : goal.returns-clause-failed
returns-clause-failed c =
    fails-answer c.args.self.now.parts _ c.refuse-fails.new.self.parts c.give_up_if.new.self.parts c.refuse-fails.ensures.after
    (closes-own_if c.refuse-fails.result _ _ _ _ _ _ _ _ _ c.give_up_if.ensures) c.args.s
    (fails-refused c.args.plan.now c.args.self.now.parts c.args.s c.args.i c.args.moment)

pub returns-clause-held : goal.returns-clause-held
returns-clause-held c =
    held-answer c.args.self.now.parts _ c.refuse-fails.new.self.parts c.give_up_if.new.self.parts c.refuse-fails.ensures.after
    (closes-own_if c.refuse-fails.result _ _ _ _ _ _ _ _ _ c.give_up_if.ensures)
    (held-refused c.args.plan.now c.args.self.now.parts c.args.s c.args.i c.requires.sized c.requires.service c.requires.endpoint c.args.moment
    c.requires.asks)

pub returns-clause-others : goal.returns-clause-others
returns-clause-others c =
    others-answer c.args.self.now.parts _ c.refuse-fails.new.self.parts c.give_up_if.new.self.parts c.refuse-fails.ensures.after
    (closes-own_if c.refuse-fails.result _ _ _ _ _ _ _ _ _ c.give_up_if.ensures) c.args.s
    (others-refused c.args.plan.now c.args.self.now.parts c.args.s c.args.i c.requires.sized c.requires.service c.requires.endpoint c.args.moment)

pub returns-clause-unheld : goal.returns-clause-unheld
returns-clause-unheld c =
    unheld-answer c.args.self.now.parts _ c.refuse-fails.new.self.parts c.give_up_if.new.self.parts c.refuse-fails.ensures.after
    (closes-own_if c.refuse-fails.result _ _ _ _ _ _ _ _ _ c.give_up_if.ensures)
    (unheld-refused c.args.plan.now c.args.self.now.parts c.args.s c.args.i c.requires.sized c.requires.service c.requires.endpoint c.args.moment)

pub returns-clause-gains : goal.returns-clause-gains
returns-clause-gains c =
    gains-answer c.args.self.now.parts (refused c.args.plan.now c.args.self.now.parts c.args.s c.args.i c.args.moment) c.refuse-fails.new.self.parts
    c.give_up_if.new.self.parts c.refuse-fails.ensures.after (closes-own_if c.refuse-fails.result _ _ _ _ _ _ _ _ _ c.give_up_if.ensures)
    (table-refused c.args.plan.now c.args.self.now.parts c.args.s c.args.i c.args.moment)

pub returns-clause-sized : goal.returns-clause-sized
returns-clause-sized c =
    let sized : IsEndpointsSized c.args.plan.now c.refuse-fails.new.self.parts = search rules in
    sized-own_if c.refuse-fails.result _ _ _ _ _ _ _ _ _ c.give_up_if.ensures sized
