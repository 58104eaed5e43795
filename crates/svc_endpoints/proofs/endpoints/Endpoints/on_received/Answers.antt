use Rattle.std.proofs.Common.{arith, ap, ◌∙◌, ◌++◌, length, map}
use Rattle.svc_base.specs.Items.{list_of}
use Rattle.svc_record.specs.declared.action.Action.TheVariants.{Close}
use Rattle.svc_endpoints.specs.EndpointsData.{EndpointsData}
use Rattle.svc_endpoints.specs.Effects.{received, turned_away}
use Rattle.svc_endpoints.proofs.ReceivedTells.{received-tells, received-few, told-length}
use Rattle.svc_endpoints.proofs.endpoints.Endpoints.on_received.Goals as goal

pub returns-clause-stands : goal.returns-clause-stands
returns-clause-stands c =
    received-tells c.args.plan.now c.args.self.now.parts c.take_words.new.self.parts c.args.bytes.now c.args.fds.now c.in_ok-good.words.items c.in_ok-good.good
    (list_of c.args.actions.now) (list_of c.take_words.new.actions) c.requires.new
    c.in_ok-good.ensures.words c.in_ok-good.ensures.good
    (c.take_words.ensures.after ∙ ap (λ (m : EndpointsData). received c.args.plan.now m c.in_ok-good.words.items c.args.fds.now) c.reserve_for.ensures.parts)
    (c.take_words.ensures.told
    ∙ ap (λ (m : EndpointsData). list_of c.args.actions.now ++ map Close (turned_away c.args.plan.now m c.in_ok-good.words.items c.args.fds.now))
    c.reserve_for.ensures.parts)

pub returns-clause-room : goal.returns-clause-room
returns-clause-room c =
    let few = received-few c.args.plan.now c.args.self.now.parts c.args.fds.now c.in_ok-good.words.items c.requires.new in
    let rest = ap (λ (m : EndpointsData). length m.table)
    (c.take_words.ensures.after
    ∙ ap (λ (m : EndpointsData). received c.args.plan.now m c.in_ok-good.words.items c.args.fds.now) c.reserve_for.ensures.parts) in
    let away = ap (λ (m : EndpointsData). length (turned_away c.args.plan.now m c.in_ok-good.words.items c.args.fds.now)) c.reserve_for.ensures.parts in
    let room = c.take_words.ensures.room in
    omega (arith, few, rest, away, room)

pub returns-clause-few : goal.returns-clause-few
returns-clause-few c =
    let few = received-few c.args.plan.now c.args.self.now.parts c.args.fds.now c.in_ok-good.words.items c.requires.new in
    let rest = ap (λ (m : EndpointsData). length m.table)
    (c.take_words.ensures.after
    ∙ ap (λ (m : EndpointsData). received c.args.plan.now m c.in_ok-good.words.items c.args.fds.now) c.reserve_for.ensures.parts) in
    let told = told-length (list_of c.args.actions.now) (list_of c.take_words.new.actions)
    (turned_away c.args.plan.now c.args.self.now.parts c.in_ok-good.words.items c.args.fds.now)
    (c.take_words.ensures.told
    ∙ ap (λ (m : EndpointsData). list_of c.args.actions.now ++ map Close (turned_away c.args.plan.now m c.in_ok-good.words.items c.args.fds.now))
    c.reserve_for.ensures.parts) in
    omega (arith, few, rest, told)
