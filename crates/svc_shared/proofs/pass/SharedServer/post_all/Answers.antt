use Rattle.std.proofs.Common.{List, [], ◌∷◌, ◌++◌, reverse, refl, sym, ap, ◌∙◌, arith, append_assoc, length-append}
use Rattle.std.proofs.lemmas.List.{reverse-reverse}
use Rattle.svc_record.specs.declared.event.Event.{Event}
use Rattle.svc_shared.proofs.FeedLemmas.{feeds_none, feeds_on, popped, fed_stopped}
use Rattle.svc_shared.proofs.pass.SharedServer.post_all.Goals as goal

pub loop-event-init : goal.loop-event-init
loop-event-init g c = (
  [],
  sym (ap (reverse {A = Event}) c.reverse.ensures.items ∙ reverse-reverse c.args.feed.events.items),
  feeds_none c.args.self.now c.args.feed.pass
      c.requires,
  refl,
)

pub returns-in-Err : goal.returns-in-Err
returns-in-Err g c =
    let i = c.loop-event.invariant in
    fed_stopped c.args.self.now c.args.feed.pass c.args.feed.events.items i.0 c.loop-event.events.items c.pop.new.self.items c.loop-event.pass c.in-Some.event
    c.in-Err.refused c.stopped.result
    i.1 c.in-Some.ensures.items i.2 c.in-Err.ensures.back c.in-Err.ensures.refused c.stopped.ensures.rest c.stopped.ensures.pass c.stopped.ensures.reason

pub loop-event-preserved : goal.loop-event-preserved
loop-event-preserved g c =
    let i = c.loop-event.invariant in
    let e : Event = c.in-Some.event in (
      i.0 ++ e ∷ [],
      i.1 ∙ (ap (λ (ys : List Event). i.0 ++ ys) (popped c.loop-event.events.items c.pop.new.self.items e c.in-Some.ensures.items)
          ∙ sym (append_assoc i.0 (e ∷ []) (reverse c.pop.new.self.items))),
      feeds_on c.args.self.now c.args.feed.pass i.0 c.loop-event.pass e c.in-Ok.next i.2 c.in-Ok.ensures.ok,
      (let len = length-append i.0 (e ∷ []) in let n = i.3 in omega arith),
    )
