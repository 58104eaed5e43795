use Rattle.std.proofs.Common.{◌∙◌, ap, arith, length}
use Rattle.svc_base.proofs.CallLemmas.{Stays-then}
use Rattle.svc_fds.proofs.LoadLemmas.{taken-added, taken-closed}
use Rattle.svc_fds.proofs.server.transfer_fd.Fds.take_in.Goals as goal

pub loop-bind-preserved : goal.loop-bind-preserved
loop-bind-preserved g c =
    let kept = c.loop-bind.invariant in
    record {
      ascending = c.in-Some.ensures.ascending;
      room = omega (arith, ap length c.in-Some.ensures.entries);
      added = taken-added c.in-Some.bind c.in-Some.fd c.loop-bind.table.entries c.pop_first.new.self.entries c.loop-bind.self.entries
          c.take_one.new.self.entries
          c.in-Some.ensures.entries c.in-Some.ensures.least c.take_one.ensures.entries ∙ kept.added;
      closed = taken-closed c.in-Some.bind c.in-Some.fd c.loop-bind.table.entries c.pop_first.new.self.entries c.loop-bind.self.entries
          c.take_one.new.self.entries
          (g.C.Channel.calls c.args.channel.now) (g.C.Channel.calls c.loop-bind.channel) (g.C.Channel.calls c.take_one.new.channel)
          kept.closed.0 _ c.in-Some.ensures.entries c.in-Some.ensures.least c.take_one.ensures.entries kept.closed.1 kept.closed.2 c.take_one.ensures.told;
      stays = Stays-then kept.stays c.take_one.ensures.stays;
      same = c.take_one.ensures.cause ∙ kept.same;
    }
