use Rattle.std.proofs.Common.{◌≡◌, ◌≤◌, ◌+◌, ◌++◌, length, map, reverse, vec_len, vec_capacity}
use Rattle.svc_base.specs.Items.{list_of}
use Rattle.svc_record.specs.declared.entry.Entry.TheVariants.{Told}
use Rattle.svc_c.proofs.session.keep_told.Given as goal

abbrev pub invariant-loop-action : goal.invariant-loop-action
invariant-loop-action l = record {
  all : l.entries.items ++ map Told (reverse (list_of l.told)) ≡ l.initial.entries.items ++ map Told (reverse (list_of l.initial.told));
  room : vec_len l.entries + length (reverse (list_of l.told)) ≤ vec_capacity l.entries;
}

abbrev pub decreases-loop-action : goal.decreases-loop-action
decreases-loop-action l = length (reverse (list_of l.told))
