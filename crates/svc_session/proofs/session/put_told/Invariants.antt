use Rattle.std.proofs.Common.{◌≡◌, ◌≤◌, ◌+◌, ◌++◌, length, reverse}
use Rattle.svc_base.specs.Items.{list_of, spare}
use Rattle.svc_session.specs.Sessions.{told_entries}
use Rattle.svc_session.proofs.session.put_told.Given as goal

abbrev pub invariant-loop-action : goal.invariant-loop-action
invariant-loop-action l = record {
  put : list_of l.entries ++ told_entries (reverse (list_of l.told)) ≡ list_of l.initial.entries ++ told_entries (reverse (list_of l.initial.told));
  room : length (reverse (list_of l.told)) ≤ spare l.entries;
  spent : spare l.initial.entries + length (reverse (list_of l.told)) ≤ spare l.entries + length (reverse (list_of l.initial.told));
  kept : spare l.initial.told ≤ spare l.told;
}

abbrev pub decreases-loop-action : goal.decreases-loop-action
decreases-loop-action l = length (reverse (list_of l.told))
