use Rattle.std.proofs.Common.{◌+◌, ◌*◌, ◌-◌, ◌≡◌, ◌≤◌, length}
use Rattle.svc_base.specs.Items.{list_of}
use Rattle.svc_core.specs.Copies.{TellsBare}
use Rattle.svc_core.specs.CoreData.{IsFormed}
use Rattle.svc_core.specs.Passes.{Passes, begin_room}
use Rattle.svc_core.specs.Steps.{Spends}
use Rattle.svc_core.specs.WaitsState.{IsKnown}
use Rattle.svc_core.proofs.pass.pass.Given as goal

abbrev pub invariant-loop-k : goal.invariant-loop-k
invariant-loop-k l = record {
  within : l.from ≤ length l.order;
  formed : IsFormed l.plan l.order l.starts l.endpoints.parts;
  table : l.endpoints.parts.table ≡ l.initial.endpoints.parts.table;
  known : IsKnown l.plan l.order l.starts l.endpoints.parts l.boot.complete l.drain.moment l.from l.waits;
  bare : TellsBare (list_of l.initial.actions) (list_of l.actions);
  spends : Spends (begin_room l.initial.boot + 2 * l.from) (begin_room l.boot) l.initial.actions l.actions;
  passed : Passes l.plan l.order l.drain 0 l.from l.initial.starts l.starts l.initial.endpoints.parts l.endpoints.parts l.initial.boot l.boot
      (list_of l.initial.actions) (list_of l.actions);
}

abbrev pub decreases-loop-k : goal.decreases-loop-k
decreases-loop-k l = length l.order - l.from
