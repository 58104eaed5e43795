use Rattle.std.proofs.Common.{◌≡◌, ◌++◌, List, [], length, refl, ap, ◌∙◌, arith}
use Rattle.svc_base.specs.Items.{list_of}
use Rattle.svc_record.specs.declared.action.Action.{Action}
use Rattle.svc_record.specs.declared.entry.Entry.{Entry}
use Rattle.svc_session.specs.Sessions.{told_entries}
use Rattle.svc_session.proofs.session.Session.begin.Goals as goal

pub invariant_of-result : goal.invariant_of-result
invariant_of-result c =
    let is = c.step_room-room.ensures in
    let few = c.in-Ok-begin.ensures.few in
    record {
      empty = c.put_told.ensures.left;
      closing = λ _. let left = c.begin.ensures.room (let room = c.in-Ok.ensures.room.1 in omega arith) in let kept = c.put_told.ensures.kept in omega arith;
      recording = λ _. let none : length (list_of c.make_room.new.told) ≡ 0 =
          ap (λ (xs : List Action). length xs) (c.make_room.ensures.told.0 ∙ c.new-told.ensures) in
          let room = c.in-Ok.ensures.room.0 in let put = c.put_told.ensures.room in omega arith;
    }

pub returns : goal.returns
returns c =
    let empty : list_of c.make_room.new.told ≡ [] = c.make_room.ensures.told.0 ∙ c.new-told.ensures in
    let told = list_of c.begin.new.actions in
    record {
      begins = (
        told,
        record {
          end = c.in-Ok-begin.field-0;
          begun = rw empty at c.in-Ok-begin.ensures.kept;
          plan_is = c.in-Ok-begin.ensures.plan ∙ c.in_ok-core.ensures.plan;
          entries = c.put_told.ensures.put ∙ ap (λ (xs : List Entry). xs ++ told_entries told) (c.make_room.ensures.entries.0 ∙ c.new-entries.ensures);
          unclosed = refl;
        },
      );
    }
