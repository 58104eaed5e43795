-- What contracts see of bootstrapping by itself.
use Rattle.std.specs.Prelude.{ℕ, Bool, false, Option, Some, None}
use Rattle.svc_conf.specs.declared.server.configuration.Opt.{Opt}
use Rattle.svc_fds.specs.FdTable.{FdTable}
use Rattle.svc_boot.specs.BootData.{BootData}

-- whether the run tests, whether it takes over, the number of the parent's process where that is notified, what bootstrapping is at, and the table of
-- the sockets
pub record BootstrapData : Type 0 where
  pub test : Bool
  pub upgrade : Bool
  pub parent : Option ℕ
  pub boot : BootData
  pub fds : FdTable

-- the flags, where there are any
abbrev pub tests : Option Opt → Bool
tests (Some opt) = opt.test
tests None = false

abbrev pub takes_over : Option Opt → Bool
takes_over (Some opt) = opt.upgrade
takes_over None = false
