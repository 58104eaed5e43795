use Rattle.std.proofs.Common.{◌≡◌, ℕ, vec_len, List, ◌++◌}
use Rattle.svc_base.specs.Calls.{Adds, Stays}
use Rattle.svc_fds.specs.Transfers.{closes}
use Rattle.svc_fds.proofs.transfer.close_all.Given as goal

-- some were closed, and what is left are the others
abbrev pub invariant-loop-channel : goal.invariant-loop-channel
invariant-loop-channel g l = record {
  told : (done : List ℕ) × Adds (g.C.Channel.calls l.initial.channel) (g.C.Channel.calls l.channel) (closes done) × (done ++ l.fds.items ≡ l.initial.fds.items);
  stays : Stays (g.C.Channel.calls l.initial.channel) (g.C.Channel.calls l.channel) (g.C.Channel.room l.initial.channel) (g.C.Channel.room l.channel);
  same : g.C.Channel.faulted l.channel ≡ g.C.Channel.faulted l.initial.channel;
}

abbrev pub decreases-loop-channel : goal.decreases-loop-channel
decreases-loop-channel g l = vec_len l.fds
