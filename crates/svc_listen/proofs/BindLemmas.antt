-- The tries to bind an address, one after the other.
use Rattle.std.proofs.Common.{◌≡◌, ℕ}
use Rattle.svc_base.specs.Calls.{Adds, Stays}
use Rattle.svc_listen.specs.BinderData.{BinderData}
use Rattle.svc_listen.specs.Binding.{busy_tries, RoseBy}
use Rattle.svc_listen.specs.declared.listeners.l4.ServerAddress.{ServerAddress}

-- so many tries found the address in use, and a next one may follow
pub record HasTried (before now : BinderData) (address : ServerAddress) (busy : ℕ) : Type 0 where
  pub called : Adds before.called now.called (busy_tries address busy)
  pub stays : Stays before.called now.called before.room now.room
  pub faults : now.faults ≡ before.faults
  pub waits : RoseBy busy before.waits now.waits
