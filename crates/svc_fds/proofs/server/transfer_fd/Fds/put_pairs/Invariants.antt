use Rattle.std.proofs.Common.{◌≡◌, ◌+◌, ◌≤◌, ◌++◌, vec_len}
use Rattle.std.specs.Prelude.{vec_capacity}
use Rattle.std.specs.List.{zip}
use Rattle.svc_fds.specs.Tables.{put_all, replaced_by}
use Rattle.svc_fds.proofs.server.transfer_fd.Fds.put_pairs.Given as goal

-- what is left makes the rest of the table
abbrev pub invariant-loop-alloc : goal.invariant-loop-alloc
invariant-loop-alloc l = record {
  same : vec_len l.binds ≡ vec_len l.fds;
  room : vec_len l.fds ≤ l.self.spare;
  replaced_room : vec_len l.fds + vec_len l.replaced ≤ vec_capacity l.replaced;
  added : put_all (zip l.binds.items l.fds.items) l.self.entries ≡ put_all (zip l.initial.binds.items l.initial.fds.items) l.initial.self.entries;
  replaced : l.replaced.items ++ replaced_by (zip l.binds.items l.fds.items) l.self.entries
      ≡ l.initial.replaced.items ++ replaced_by (zip l.initial.binds.items l.initial.fds.items) l.initial.self.entries;
}

abbrev pub decreases-loop-alloc : goal.decreases-loop-alloc
decreases-loop-alloc l = vec_len l.fds
