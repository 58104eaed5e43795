use Rattle.std.proofs.Common.{arith, ap, ◌∙◌, ◌++◌, length, map}
use Rattle.svc_base.specs.Items.{list_of}
use Rattle.svc_record.specs.declared.action.Action.TheVariants.{Close}
use Rattle.svc_endpoints.specs.EndpointsState.{all_new}
use Rattle.svc_endpoints.specs.Effects.{turns_away, opens_of, put_opens, put_numbers, without_numbers}
use Rattle.svc_endpoints.proofs.GatherLemmas.{all-fresh, away-few}
use Rattle.svc_endpoints.proofs.ReceivedTells.{away-is}
use Rattle.svc_endpoints.proofs.endpoints.Endpoints.take_words.Goals as goal

pub turn_away-requires-clause-new : goal.turn_away-requires-clause-new
turn_away-requires-clause-new c = ap (λ w. all_new w c.args.fds.now) c.requires.none ∙ all-fresh c.args.self.now.parts.came c.args.fds.now c.requires.new

pub close_number_blocks-requires : goal.close_number_blocks-requires
close_number_blocks-requires c =
    let is = c.as_blocks.ensures
    ∙ away-is (turns_away c.args.plan.now c.args.self.now.parts) c.args.fds.now c.deref.result.now c.args.words.items (list_of c.args.out)
    (list_of c.turn_away.new.out) c.deref.ensures.value c.requires.none c.turn_away.ensures in
    let few = away-few (turns_away c.args.plan.now c.args.self.now.parts) c.args.fds.now c.args.words.items in
    let size = ap length is in
    record { room = omega (arith, few, size, c.requires.room) }

pub returns-clause-after : goal.returns-clause-after
returns-clause-after c =
    let is = away-is (turns_away c.args.plan.now c.args.self.now.parts) c.args.fds.now c.deref.result.now c.args.words.items (list_of c.args.out)
    (list_of c.turn_away.new.out) c.deref.ensures.value c.requires.none c.turn_away.ensures in
    c.take_rest.ensures
    ∙ ap (λ w. record c.args.self.now.parts {
      table = put_opens (without_numbers w (opens_of c.args.fds.now c.args.words.items)) c.args.self.now.parts.table;
      came = put_numbers c.args.fds.now c.args.self.now.parts.came;
    }) is

pub returns-clause-told : goal.returns-clause-told
returns-clause-told c =
    let is = c.as_blocks.ensures
    ∙ away-is (turns_away c.args.plan.now c.args.self.now.parts) c.args.fds.now c.deref.result.now c.args.words.items (list_of c.args.out)
    (list_of c.turn_away.new.out) c.deref.ensures.value c.requires.none c.turn_away.ensures in
    c.close_number_blocks.ensures.told ∙ ap (λ w. list_of c.args.actions.now ++ map Close w) is

pub returns-clause-room : goal.returns-clause-room
returns-clause-room c =
    let is = c.as_blocks.ensures
    ∙ away-is (turns_away c.args.plan.now c.args.self.now.parts) c.args.fds.now c.deref.result.now c.args.words.items (list_of c.args.out)
    (list_of c.turn_away.new.out) c.deref.ensures.value c.requires.none c.turn_away.ensures in
    let size = ap length is in
    let room = c.close_number_blocks.ensures.room in
    omega (arith, size, room)
