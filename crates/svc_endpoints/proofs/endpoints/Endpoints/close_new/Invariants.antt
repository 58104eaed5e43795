use Rattle.std.proofs.Common.{◌≡◌, ◌≤◌, ◌+◌, ◌++◌, map, filter, not, take}
use Rattle.svc_base.specs.Items.{list_of, spare}
use Rattle.svc_record.specs.declared.action.Action.TheVariants.{Close}
use Rattle.svc_record.specs.Tail.{each_once}
use Rattle.svc_base.specs.NumberSets.{is_in}
use Rattle.svc_endpoints.proofs.endpoints.Endpoints.close_new.Given as goal

abbrev pub invariant-loop-k : goal.invariant-loop-k
invariant-loop-k l = record {
  room : spare l.initial.actions ≤ spare l.actions + l.k;
  told : list_of l.actions ≡ list_of l.initial.actions ++ map Close (each_once (filter (λ n. not (is_in n l.self.parts.came)) (take l.k l.fds)));
}
