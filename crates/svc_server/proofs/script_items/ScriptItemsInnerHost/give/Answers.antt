use Rattle.std.proofs.Common.{length, arith, ap}
use Rattle.std.specs.Vec.Iter.{into_iter_items}
use Rattle.svc_base.specs.Items.{list_of}
use Rattle.svc_server.proofs.ScriptLemmas.{few-more, keeps_given}
use Rattle.svc_server.proofs.script_items.ScriptItemsInnerHost.give.Goals as goal

pub invariant_of-self-2 : goal.invariant_of-self-2
invariant_of-self-2 c =
    let left = c.in_ok-item.ensures.items in (
      few-more c.in_ok-item.item (into_iter_items c.self.inside.left) (into_iter_items c.next.new.self) left c.self.invariant.0,
      omega (arith, c.in_ok-item.ensures.len, c.self.invariant.1, ap (λ xs. length xs) left),
    )

pub returns-clause-keeps : goal.returns-clause-keeps
returns-clause-keeps c =
    rw (c.put.ensures.items, c.answer_to.ensures, ← c.self.view_is)
    (λ q faults idles kept.
    keeps_given (list_of c.self.inside.answers) (into_iter_items c.self.inside.left) (into_iter_items c.next.new.self) q
    (list_of c.self.inside.phases) faults idles c.in_ok-item.item
    c.in_ok-item.ensures.items (rw c.as_slice.ensures at c.read_size.ensures) kept)
