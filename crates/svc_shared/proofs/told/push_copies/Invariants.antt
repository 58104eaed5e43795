use Rattle.std.proofs.Common.{◌≡◌, ◌+◌, ◌++◌, take, vec_len, vec_capacity}
use Rattle.svc_shared.proofs.told.push_copies.Given as goal

abbrev pub invariant-loop-action : goal.invariant-loop-action
invariant-loop-action l = record {
  told : l.again.items ≡ l.initial.again.items ++ take l.action-index l.actions;
  filled : vec_len l.again ≡ vec_len l.initial.again + l.action-index;
  size : vec_capacity l.again ≡ vec_capacity l.initial.again;
}
