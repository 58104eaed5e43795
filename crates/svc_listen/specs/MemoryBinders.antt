-- A try of a binder in memory.
use Rattle.std.specs.Prelude.{◌≡◌}
use Rattle.svc_listen.specs.BinderData.{BindFaults, BindWaits}
use Rattle.svc_listen.specs.declared.binder.BindOutcome.{BindOutcome}
use Rattle.svc_listen.specs.declared.memory_binder.MemoryBinder.{MemoryBinder}

-- a try gave this, before it is told
pub record IsTried (before now : MemoryBinder) (outcome : BindOutcome) : Type 0 where
  pub calls : now.calls ≡ before.calls
  pub faults : BindFaults outcome before.count now.count
  pub waits : BindWaits outcome before.wait_count now.wait_count
