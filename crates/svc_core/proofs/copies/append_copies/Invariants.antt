use Rattle.std.proofs.Common.{◌≡◌, ◌≤◌, ◌++◌, ◌+◌, true, length, take, drop}
use Rattle.svc_base.specs.Items.{list_of, spare}
use Rattle.svc_core.specs.Copies.{are_copied}
use Rattle.svc_core.proofs.copies.append_copies.Given as goal

abbrev pub invariant-loop-action : goal.invariant-loop-action
invariant-loop-action l = record {
  told : list_of l.again ≡ list_of l.initial.again ++ take l.action-index l.told;
  room : length l.told ≤ spare l.again + l.action-index;
  copied : are_copied l.left (drop l.action-index l.told) ≡ true;
}
