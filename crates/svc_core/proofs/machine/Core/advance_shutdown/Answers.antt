use Rattle.std.proofs.Common.{refl, sym, ap, ◌∙◌, arith}
use Rattle.svc_base.specs.Items.{list_of}
use Rattle.svc_core.specs.CoreData.{CoreData}
use Rattle.svc_core.specs.Copies.{copy_of}
use Rattle.svc_core.specs.Steps.{answer_room}
use Rattle.svc_core.specs.Stands.{AfterRetry}
use Rattle.svc_endpoints.specs.EndpointsState.{open_numbers}
use Rattle.svc_connections.specs.ConnectionsState.{numbers}
use Rattle.svc_core.proofs.AnswerLemmas.{answer-on, answer-end}
use Rattle.svc_core.proofs.CopyLemmas.{answer-copied, bare-last, bare-these, end-bare}
use Rattle.svc_core.proofs.RoomLemmas.{few-open}
use Rattle.svc_core.proofs.GoForms.{opened-goes, ended-few}
use Rattle.svc_core.proofs.machine.Core.advance_shutdown.Goals as goal

pub returns-then-passed : goal.returns-then-passed
returns-then-passed c = opened-goes (λ core. AfterRetry core c.args.copy) answer_room c.self.view_is (record {
  plan = ap (λ (core : CoreData). core.plan) c.end_run.ensures.after;
  kept = rw (c.end_run.ensures.end, c.end_run.ensures.after)
      (answer-end _ c.args.copy c.ask.new.self c.publish_due-passed.new.self
      (rw c.over_since-over.ensures at c.publish_due-passed.ensures.after) (rw c.moment.ensures at c.ask.ensures.after)
      (rw c.over_since-over.ensures at c.publish_due-passed.ensures.stands) (rw c.over_since-over.ensures at c.publish_due-passed.ensures.settled)
      (rw c.moment.ensures at c.ask.ensures.stands) (rw c.moment.ensures at c.ask.ensures.settled)
      (list_of c.args.actions.now) (list_of c.publish_due-passed.new.actions) (list_of c.ask.new.actions)
      (list_of c.end_run.new.actions) c.self.invariant.formed.in_order
      (sym c.publish_due-passed.ensures.passes ∙ c.if-passed.true)
      (rw c.over_since-over.ensures at c.publish_due-passed.ensures.told) (rw c.moment.ensures at c.ask.ensures.told) c.end_run.ensures.told);
  copied = bare-last (copy_of c.args.copy) (list_of c.args.actions.now) (list_of c.ask.new.actions) (list_of c.end_run.new.actions)
      (answer-copied c.args.copy (list_of c.args.actions.now) (list_of c.publish_due-passed.new.actions)
      (list_of c.ask.new.actions) c.self.inside.offer c.moment.result c.self.inside.drain c.over_since-over.result c.publish_due-passed.ensures.told
      c.ask.ensures.told)
      (bare-these (list_of c.ask.new.actions) (list_of c.end_run.new.actions) _ c.end_run.ensures.told
      (end-bare c.self.inside.plan c.publish_due-passed.new.self (numbers c.self.inside.connections.parts.live)
      (open_numbers c.self.inside.endpoints.parts)));
  spends = let few = ended-few c.end_run.ensures in rw c.end_run.ensures.after (record { few = omega (arith, few); room = omega arith });
})

pub returns : goal.returns
returns c = opened-goes (λ core. AfterRetry core c.args.copy) answer_room c.self.view_is (record {
  plan = refl;
  kept = answer-on _ c.args.copy c.ask.new.self c.publish_due-passed.new.self
      (rw c.over_since-over.ensures at c.publish_due-passed.ensures.after) (rw c.moment.ensures at c.ask.ensures.after)
      (rw c.over_since-over.ensures at c.publish_due-passed.ensures.stands) (rw c.over_since-over.ensures at c.publish_due-passed.ensures.settled)
      (rw c.moment.ensures at c.ask.ensures.stands) (rw c.moment.ensures at c.ask.ensures.settled)
      (list_of c.args.actions.now) (list_of c.publish_due-passed.new.actions) (list_of c.ask.new.actions) c.self.invariant.formed.in_order
      (sym c.publish_due-passed.ensures.passes ∙ c.if-passed.false)
      (rw c.over_since-over.ensures at c.publish_due-passed.ensures.told) (rw c.moment.ensures at c.ask.ensures.told);
  copied = answer-copied c.args.copy (list_of c.args.actions.now) (list_of c.publish_due-passed.new.actions)
      (list_of c.ask.new.actions) c.self.inside.offer c.moment.result c.self.inside.drain c.over_since-over.result c.publish_due-passed.ensures.told
      c.ask.ensures.told;
  spends = let few =
      few-open (record {
        plan = c.self.inside.plan;
        order = c.self.inside.order.items;
        starts = c.self.inside.starts;
        endpoints = c.self.inside.endpoints.parts;
        boot = c.self.inside.boot;
        offer = c.ask.new.self;
        drain = c.publish_due-passed.new.self;
        connections = c.self.inside.connections.parts;
        end =
            c.self.inside.end;
      }) in
      record { few = omega (arith, few); room = omega (arith, few) };
})
