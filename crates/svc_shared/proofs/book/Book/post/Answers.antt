use Rattle.std.proofs.Common.{◌≤◌, ◌++◌, [], ◌∷◌, List, length, ap, ◌∙◌, arith}
use Rattle.svc_base.specs.Items.{list_of}
use Rattle.svc_record.specs.Journal.{PostData, post}
use Rattle.svc_shared.proofs.Recording.{Grows, grows}
use Rattle.svc_shared.proofs.book.Book.post.Goals as goal
use Rattle.svc_shared.proofs.book.Book.post.Goals.{After-len-2}

all : (c : After-len-2) → Grows c.step_twice.new.self (list_of c.self.inside.opening) c.self.inside.limit c.push_reserved.new.self.items c.in-Ok-step_twice.end
all c =
    let p : PostData = post c.args.seat c.args.event c.args.said (list_of c.take_actions-told.result) in
    grows c.self.inside.core c.step_twice.new.self
    (list_of c.self.inside.opening) c.self.inside.limit c.self.inside.posts.items c.push_reserved.new.self.items p
    (list_of c.step_twice.new.actions) c.in-Ok-step_twice.end
    record { stands = c.self.invariant.0; legal = c.self.invariant.1 }
    (rw c.self.invariant.4 at c.in-Ok-step_twice.ensures.kept)
    (rw c.self.invariant.4 at c.in-Ok-step_twice.ensures.judged) c.in-Ok-step_twice.ensures.plan c.take_actions-told.ensures.told
    (c.push_reserved.ensures.items ∙ ap (λ (xs : List PostData). xs ++ p ∷ []) c.reserve.ensures.items)

pub invariant_of-self-2 : goal.invariant_of-self-2
invariant_of-self-2 c =
    let g = all c in
    let more : length c.push_reserved.new.self.items ≤ c.self.inside.limit = omega arith in
    (g.stays.stands, g.stays.legal, more, c.self.invariant.3, c.take_actions-told.ensures.emptied, c.take_actions-actions.ensures.emptied)

pub returns-clause-end : goal.returns-clause-end
returns-clause-end c = (all ((goal.at.returns-clause-end c).After-len-2)).end_is

pub returns-clause-legal : goal.returns-clause-legal
returns-clause-legal c = (all ((goal.at.returns-clause-legal c).After-len-2)).stays.legal
