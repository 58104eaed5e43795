use Rattle.std.proofs.Common.{◌≡◌, ◌≤◌, [], length, ap, refl, arith}
use Rattle.svc_base.specs.Items.{list_of}
use Rattle.svc_shared.proofs.Recording.{opens}
use Rattle.svc_shared.proofs.book.Book.new.Goals as goal

pub invariant_of-result : goal.invariant_of-result
invariant_of-result c =
    let stays =
    opens c.begin.new.self (list_of c.new-opening.result) (list_of c.begin.new.actions) c.args.limit c.new-posts.result.items c.in-Ok.field-0
    c.new-opening.ensures c.new-posts.ensures.items c.in-Ok.ensures.kept in
    let none : length c.new-posts.result.items ≡ 0 = ap length c.new-posts.ensures.items in
    let few : length c.new-posts.result.items ≤ c.args.limit = omega arith in
    (stays.stands, stays.legal, few, c.requires.limit, c.new-2.ensures, c.new-3.ensures)

pub returns-clause-legal : goal.returns-clause-legal
returns-clause-legal c =
    (opens c.begin.new.self (list_of c.new-opening.result) (list_of c.begin.new.actions) c.args.limit [] c.in-Ok.field-0 c.new-opening.ensures refl
    c.in-Ok.ensures.kept).legal
