use Rattle.std.proofs.Common.{◌≡◌, ◌∙◌, sym, arith, vec_len}
use Rattle.std.proofs.lemmas.Bool.{eqb-false}
use Rattle.svc_base.proofs.CallLemmas.{Stays-then}
use Rattle.svc_fds.proofs.SendLemmas.{close-more}
use Rattle.svc_fds.proofs.transfer.close_all.Goals as goal

pub loop-channel-preserved : goal.loop-channel-preserved
loop-channel-preserved g c =
    let some : vec_len c.loop-channel.fds ≡ 0 → ⊥ = eqb-false (vec_len c.loop-channel.fds) 0 (sym c.loop-channel-test.ensures) in
    record {
      told = close-more (g.C.Channel.calls c.args.channel.now) (g.C.Channel.calls c.loop-channel.channel) (g.C.Channel.calls c.close.new.self)
          c.loop-channel.invariant.told.0 c.loop-channel.fds.items c.remove.new.self.items c.args.fds.items c.remove.result
          c.loop-channel.invariant.told.1 c.loop-channel.invariant.told.2 c.close.ensures.told
          (omega (arith, c.loop-channel.fds.ok.0)) c.remove.ensures.value c.remove.ensures.items;
      stays = Stays-then c.loop-channel.invariant.stays c.close.ensures.stays;
      same = c.close.ensures.cause ∙ c.loop-channel.invariant.same;
    }
