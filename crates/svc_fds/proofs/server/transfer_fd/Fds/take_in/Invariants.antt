use Rattle.std.proofs.Common.{◌≡◌, ℕ, ◌≤◌, List, ◌++◌, length}
use Rattle.svc_fds.specs.Tables.{numbers, put_all, IsAscending}
use Rattle.svc_base.specs.Calls.{Adds, Stays}
use Rattle.svc_fds.specs.Transfers.{copies, fresh, closes}
use Rattle.svc_fds.proofs.server.transfer_fd.Fds.take_in.Given as goal

abbrev pub invariant-loop-bind : goal.invariant-loop-bind
invariant-loop-bind g l = record {
  ascending : IsAscending l.table.entries;
  room : length l.table.entries ≤ l.self.spare;
  added : put_all (fresh l.table.entries l.self.entries) l.self.entries ≡ put_all (fresh l.initial.table.entries l.initial.self.entries) l.initial.self.entries;
  closed : (done : List ℕ) × Adds (g.C.Channel.calls l.initial.channel) (g.C.Channel.calls l.channel) (closes done)
      × (done ++ numbers (copies l.table.entries l.self.entries) ≡ numbers (copies l.initial.table.entries l.initial.self.entries));
  stays : Stays (g.C.Channel.calls l.initial.channel) (g.C.Channel.calls l.channel) (g.C.Channel.room l.initial.channel) (g.C.Channel.room l.channel);
  same : g.C.Channel.faulted l.channel ≡ g.C.Channel.faulted l.initial.channel;
}

abbrev pub decreases-loop-bind : goal.decreases-loop-bind
decreases-loop-bind g l = length l.table.entries
