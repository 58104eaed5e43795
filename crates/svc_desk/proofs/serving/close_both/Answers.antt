use Rattle.svc_desk.proofs.ServingLemmas.{closed_over}
use Rattle.svc_desk.proofs.serving.close_both.Goals as goal

pub returns-in-Ok : goal.returns-in-Ok
returns-in-Ok c = record {
  journal = closed_over c.args.server c.args.left c.args.right c.join-whole.result 0 1 c.in-Ok.posts.items c.requires
      c.join-whole.ensures c.in-Ok.ensures.closed;
}
